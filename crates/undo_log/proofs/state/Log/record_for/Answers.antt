use Rattle.std.proofs.Common.{refl, arith}
use Rattle.undo_log.specs.Open.{opening}
use Rattle.undo_log.proofs.Targets.{fits_from}
use Rattle.undo_log.proofs.state.Log.record_for.Goals as goal

pub returns-clause-fits : goal.returns-clause-fits
returns-clause-fits g c =
    let low = (c.in_ok-bucket.ensures.lowest.some c.in_ok-bucket.bucket refl).0 in
    rw c.opening-2.ensures (fits_from (opening c.in_ok-bucket.bucket 0) (omega (arith, low, c.args.self.now.bounded.buckets)) (omega arith) (omega arith))
