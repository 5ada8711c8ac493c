use Rattle.std.proofs.Common.{refl}
use Rattle.undo_log.specs.Calls.{world, notes_of}
use Rattle.survival.proofs.Appends.{append_found}
use Rattle.survival.proofs.Orders.{nothing_after, orderly_append}
use Rattle.survival.proofs.Sized.{log_sized}
use Rattle.survival.proofs.calls.log_line.Goals as goal

pub returns-clause-orderly : goal.returns-clause-orderly
returns-clause-orderly g c =
    let l = c.args.log.now in
    let l' = c.append.new.self in
    orderly_append (notes_of l) (world l) c.args.core c.args.line c.args.content.now c.append.result (notes_of l') (world l') (log_sized l)
    c.append.ensures

pub returns-clause-found : goal.returns-clause-found
returns-clause-found g c =
    let l = c.args.log.now in
    let l' = c.append.new.self in
    append_found (notes_of l) (world l) c.args.core c.args.line c.args.content.now c.append.result (notes_of l') (world l') (world l')
    (log_sized l) c.append.ensures (nothing_after (world l')) refl
