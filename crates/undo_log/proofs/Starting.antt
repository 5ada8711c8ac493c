-- What fitting sizes say.
use Rattle.std.proofs.Common.{◌≡◌, ℕ, true}
use Rattle.std.proofs.lemmas.Bool.{and_parts, leb-true}
use Rattle.layout.specs.declared.sizes.Sizes.{Sizes}
use Rattle.layout.specs.Sizes.{data_lines_of, sizes_fit, Bounded}

pub fit_bounds : (s : Sizes) (n : ℕ) → sizes_fit s n ≡ true → Bounded s
fit_bounds s n h =
    let a = (and_parts _ _ h).0 in
    let b = and_parts _ _ (and_parts _ _ a).0 in
    let c = and_parts _ _ b.0 in
    let d = and_parts _ _ c.0 in
    record {
      lines = leb-true (data_lines_of s) 512 (and_parts _ _ d.0).1;
      buckets = leb-true s.buckets 32 (and_parts _ _ d.1).1;
      records = leb-true s.records 4 (and_parts _ _ c.1).1;
      cores = leb-true s.cores 32 (and_parts _ _ b.1).1;
    }
