use Rattle.undo_log.specs.Calls.{state, world, notes_of}
use Rattle.survival.proofs.Closes.{survives_close}
use Rattle.survival.proofs.Sized.{log_sized}
use Rattle.survival.proofs.close_and_cut.Goals as goal

pub returns-clause-survives : goal.returns-clause-survives
returns-clause-survives g c =
    let l = c.args.log.now in
    let l' = c.cut.new.self in
    survives_close (notes_of l) (world l) c.args.core c.close-answer.result (notes_of l') (world l') (log_sized l)
    (record { between = state c.close-answer.new.self; closes = c.close-answer.ensures; cuts = c.cut.ensures })
