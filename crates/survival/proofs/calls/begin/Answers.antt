use Rattle.std.proofs.Common.{take, replicate}
use Rattle.undo_log.specs.Calls.{state, world, notes_of}
use Rattle.survival.specs.Calls.{Begins}
use Rattle.survival.proofs.Begins.{first_empty, begins, orderly_start}
use Rattle.survival.proofs.calls.begin.Goals as goal

pub returns : goal.returns
returns g c =
    let l = c.args.log.now in
    let l' = c.start.new.self in
    let r = c.start.result in
    let sizes = c.args.sizes in
    let did : Begins sizes (state l) r (state l') =
    begins sizes (take c.min-cores.result (replicate 32 c.empty-entries.result)) (notes_of l) (world l) r (notes_of l') (world l')
    c.start.ensures (first_empty sizes.cores c.min-cores.result c.empty-entries.result c.min-cores.ensures c.empty-entries.ensures)
    in
    record { did = did; orderly = orderly_start sizes (notes_of l) (world l) r (notes_of l') (world l') did }
