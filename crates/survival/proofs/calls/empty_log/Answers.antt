use Rattle.undo_log.specs.Calls.{world, notes_of}
use Rattle.survival.proofs.Others.{orderly_empty}
use Rattle.survival.proofs.calls.empty_log.Goals as goal

pub returns-clause-orderly : goal.returns-clause-orderly
returns-clause-orderly g c =
    let l = c.args.log.now in
    let l' = c.empty.new.self in
    orderly_empty (notes_of l) (notes_of l') (world l) (world l') c.args.core c.empty.ensures
