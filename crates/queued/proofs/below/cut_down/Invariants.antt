use Rattle.std.proofs.Common.{◌≡◌, drop}
use Rattle.queued.specs.Below.{cut_down}
use Rattle.queued.proofs.below.cut_down.Given as goal

-- what is left leads to the end
abbrev pub invariant-loop-i : goal.invariant-loop-i
invariant-loop-i l = cut_down l.choice l.i l.bytes (drop l.i l.entries) ≡ cut_down l.choice 0 l.initial.bytes l.entries
