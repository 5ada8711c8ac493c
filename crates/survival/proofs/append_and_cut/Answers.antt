use Rattle.undo_log.specs.Calls.{state, world, notes_of}
use Rattle.survival.proofs.Appends.{survives_append}
use Rattle.survival.proofs.Sized.{log_sized}
use Rattle.survival.proofs.append_and_cut.Goals as goal

pub returns-clause-survives : goal.returns-clause-survives
returns-clause-survives g c =
    let l = c.args.log.now in
    let l' = c.cut.new.self in
    survives_append (notes_of l) (world l) c.args.core c.args.line c.args.content.now c.append-answer.result (notes_of l') (world l') (log_sized l)
    (record { between = state c.append-answer.new.self; appends = c.append-answer.ensures; cuts = c.cut.ensures })
