use Rattle.std.proofs.Common.{◌≡◌, drop}
use Rattle.queued.specs.Below.{moved}
use Rattle.queued.proofs.below.move_down.Given as goal

-- what is left leads to the end
abbrev pub invariant-loop-waiting : goal.invariant-loop-waiting
invariant-loop-waiting l = moved l.bytes (drop l.waiting-index l.entries) ≡ moved l.initial.bytes l.entries
