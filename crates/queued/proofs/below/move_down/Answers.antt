use Rattle.std.proofs.Common.{sym, ◌∙◌, arith}
use Rattle.queued.proofs.Moves.{moved_more, moved_all}
use Rattle.queued.proofs.below.move_down.Goals as goal

pub loop-waiting-preserved : goal.loop-waiting-preserved
loop-waiting-preserved c =
    moved_more c.loop-waiting.bytes c.args.entries.now c.loop-waiting.waiting-index _ (omega arith) c.write_line.new.bytes c.write_line.ensures.after
    ∙ c.loop-waiting.invariant

pub returns : goal.returns
returns c = sym (moved_all c.loop-waiting.bytes c.args.entries.now c.loop-waiting.waiting-index (omega arith)) ∙ c.loop-waiting.invariant
