use Rattle.std.proofs.Common.{refl}
use Rattle.undo_log.specs.Calls.{world, notes_of}
use Rattle.survival.proofs.Closes.{close_found}
use Rattle.survival.proofs.Orders.{nothing_after, orderly_close}
use Rattle.survival.proofs.Sized.{log_sized}
use Rattle.survival.proofs.calls.close_record.Goals as goal

pub returns-clause-orderly : goal.returns-clause-orderly
returns-clause-orderly g c =
    let l = c.args.log.now in
    let l' = c.close.new.self in
    orderly_close (notes_of l) (world l) c.args.core c.close.result (notes_of l') (world l') (log_sized l) c.close.ensures

pub returns-clause-found : goal.returns-clause-found
returns-clause-found g c =
    let l = c.args.log.now in
    let l' = c.close.new.self in
    close_found (notes_of l) (world l) c.args.core c.close.result (notes_of l') (world l') (world l') (log_sized l) c.close.ensures
    (nothing_after (world l')) refl
