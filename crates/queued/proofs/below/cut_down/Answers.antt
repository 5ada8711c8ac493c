use Rattle.std.proofs.Common.{ℕ, ◌+◌, List, [], drop, sym, ap, ◌∙◌, arith}
use Rattle.queued.specs.Slots.{slot}
use Rattle.queued.specs.Below.{cut_down}
use Rattle.queued.proofs.Moves.{cut_here, cut_none, cut_all}
use Rattle.queued.proofs.below.cut_down.Goals as goal
use Rattle.queued.proofs.below.cut_down.Goals.{in-Some, in_default}

pub loop-i-preserved : goal.loop-i-preserved
loop-i-preserved c =
    let left : List ℕ → List ℕ = λ bs. cut_down c.args.choice (c.loop-i.i + 1) bs (drop (c.loop-i.i + 1) c.args.entries.now) in
    elim c.match-read_line.branch [
      | in-Some w ↦ ap left w.bytes-is ∙ (cut_here c.loop-i.bytes c.args.entries.now c.loop-i.i (slot 0 []) (omega arith) c.args.choice w.write_line.new.bytes w.in-Some.old w.survivor-left.result w.at.result (sym w.in-Some.ensures) w.at.ensures w.survivor-left.ensures w.write_line.ensures.after ∙ c.loop-i.invariant)
      | in_default w ↦ ap left w.bytes-is ∙ (cut_none c.loop-i.bytes c.args.entries.now c.loop-i.i (slot 0 []) (omega arith) c.args.choice (sym w.in_default.ensures) ∙ c.loop-i.invariant)
    ]

pub returns : goal.returns
returns c = sym (cut_all c.args.choice c.loop-i.bytes c.args.entries.now c.loop-i.i (omega arith)) ∙ c.loop-i.invariant
