-- What the numbers of an open record can be.
use Rattle.std.proofs.Common.{◌≡◌, ◌<◌, true, Some}
use Rattle.std.proofs.lemmas.Bool.{and_from, and_parts, lt-ltb, ltb-true}
use Rattle.layout.specs.declared.open.OpenRecord.{OpenRecord}
use Rattle.undo_log.specs.Open.{open_fits}

-- what an open record's numbers can be
pub fits_parts : (o : OpenRecord) → open_fits (Some o) ≡ true → (o.id.bucket < 32) × (o.id.slot < 4) × (o.count < 7)
fits_parts o h =
    let p = and_parts _ _ h in
    let q = and_parts _ _ p.0 in
    (ltb-true o.id.bucket 32 q.0, ltb-true o.id.slot 4 q.1, ltb-true o.count 7 p.1)

pub fits_from : (o : OpenRecord) → o.id.bucket < 32 → o.id.slot < 4 → o.count < 7 → open_fits (Some o) ≡ true
fits_from o a b c = and_from _ _ (and_from _ _ (lt-ltb o.id.bucket 32 a) (lt-ltb o.id.slot 4 b)) (lt-ltb o.count 7 c)
