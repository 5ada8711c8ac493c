-- The header of a proper record may be logged, and fits where the walk finds it.
use Rattle.std.proofs.Common.{◌≡◌, ℕ, ◌-◌, ◌^◌, ◌<◌, ◌≤◌, true, ◌⊎◌, Some, sym, refl, ap, ◌∙◌, subst, inl, inr, ⊎_elim, arith}
use Rattle.std.proofs.lemmas.Nat.{mul-le}
use Rattle.std.proofs.lemmas.Bool.{eq-eqb, ne_eqb, lt-ltb, le-ltb, cond-true, cond-false, cases_lt}
use Rattle.layout.specs.declared.block.BlockEntry.{BlockEntry}
use Rattle.layout.specs.declared.open.OpenRecord.{OpenRecord}
use Rattle.layout.specs.declared.sizes.Sizes.{Sizes}
use Rattle.layout.specs.Block.{has, buckets_in, records_of, counting, Filled}
use Rattle.layout.proofs.Vectors.{has_old, most_in}
use Rattle.header.specs.declared.Header.{Header}
use Rattle.header.specs.Header.{read_header, written, Sensible}
use Rattle.header.proofs.Back.{reads_back, small_lines}
use Rattle.undo_log.specs.Closing.{bucket_before, header_of}
use Rattle.survival.specs.Proper.{Proper}
use Rattle.survival.proofs.Added.{Stands, none, full, here, stands, linked, records_none}
use Rattle.layout.specs.Sizes.{Bounded}

-- the bucket before is as the walk asks, and a header can say it
record Behind (s : Sizes) (e : BlockEntry) (b r before : ℕ) : Type 0 where
  pub fits : (h : Header) → h.before ≡ before → linked s (counting e b r) (records_of s e) h ≡ true
  pub good : (before ≡ 255) ⊎ (before < s.buckets)

module _ (s : Sizes) (e : BlockEntry) (b r before : ℕ) where
  behind_first : records_of s e < s.records → before ≡ 255 → Behind s e b r before
  behind_first p q =
      record { fits = λ h is. cond-true _ _ _ (lt-ltb (records_of s e) s.records p) ∙ eq-eqb h.before 255 (is ∙ q); good = inl q }

  behind_later : Filled s e → s.records ≤ records_of s e → has e.vector before ≡ true → Behind s e b r before
  behind_later fill p q =
      record {
        fits =
            λ h is.
            cond-false _ _ _ (le-ltb (records_of s e) s.records p)
            ∙ subst (λ (c : ℕ). has (counting e b r).vector c ≡ true) (sym is) (has_old e.vector b before q);
        good = inr (fill.below before q);
      }

-- a full bucket has R records, and those of the buckets before come on top
pub full_records : (s : Sizes) (e : BlockEntry) → e.closed ≡ s.records → s.records ≤ records_of s e
full_records s e q = omega arith

behind : (s : Sizes) (e : BlockEntry) (was : ℕ) (o : OpenRecord) → Proper s e was o → Stands s e o.id.bucket o.id.slot
    → Behind s e o.id.bucket o.id.slot (bucket_before e was o)
behind s e was o p (none is_r is) =
    behind_first s e o.id.bucket o.id.slot (bucket_before e was o) (omega (arith, records_none s e is, p.next.slot))
    (cond-true _ _ _ (eq-eqb o.id.slot 0 is_r) ∙ ap (λ (x : BlockEntry). x.current) is)
behind s e was o p (full is_r is_c fill) =
    behind_later s e o.id.bucket o.id.slot (bucket_before e was o) fill (full_records s e is_c)
    (subst (λ (c : ℕ). has e.vector c ≡ true) (sym (cond-true _ _ _ (eq-eqb o.id.slot 0 is_r))) fill.current)
behind s e was o p (here is_r is_b is_c fill) =
    let is : bucket_before e was o ≡ was = cond-false _ _ _ (ne_eqb o.id.slot 0 (λ q. omega arith)) in
    ⊎_elim
    (λ (q : records_of s e < s.records). behind_first s e o.id.bucket o.id.slot (bucket_before e was o) q (is ∙ p.first is_r q))
    (λ (q : s.records ≤ records_of s e).
    behind_later s e o.id.bucket o.id.slot (bucket_before e was o) fill q (subst (λ (c : ℕ). has e.vector c ≡ true) (sym is) (p.later is_r q)))
    (cases_lt (records_of s e) s.records)

-- a record's number is small
few_records : (s : Sizes) (e : BlockEntry) → Bounded s → e.closed ≤ s.records → records_of s e < 2 ^ 32
few_records s e fits q =
    let y = most_in 32 e.vector in
    let z = mul-le (buckets_in 32 e.vector - 1) s.records 32 4 (omega arith) fits.records in
    omega (arith, fits.records)

closed_few : (s : Sizes) (e : BlockEntry) (b r : ℕ) → Stands s e b r → e.closed ≤ s.records
closed_few s e b r (none is_r is) = let z : e.closed ≡ 0 = ap (λ (x : BlockEntry). x.closed) is in omega arith
closed_few s e b r (full is_r is_c fill) = fill.most
closed_few s e b r (here is_r is_b is_c fill) = fill.most

module _ (s : Sizes) (e : BlockEntry) (was k : ℕ) (o : OpenRecord) (fits : Bounded s) (core : k < s.cores) (p : Proper s e was o) (some : 1 ≤ o.count) (most : o.count ≤ 7) where
  sensible : Sensible s (header_of s e was k o)
  sensible =
      let stand = stands s e o.id.bucket o.id.slot p.sound p.next in
      record {
        seven = p.seven;
        some = some;
        most = most;
        used = p.used;
        unused = p.unused;
        core = core;
        before = (behind s e was o p stand).good;
        number = few_records s e fits (closed_few s e o.id.bucket o.id.slot stand);
      }

  pub header_reads : read_header s (written (header_of s e was k o)) ≡ Some (header_of s e was k o)
  header_reads = reads_back s (header_of s e was k o) sensible (small_lines s (header_of s e was k o) sensible (omega (arith, fits.lines)))

  pub header_linked : linked s (counting e o.id.bucket o.id.slot) (records_of s e) (header_of s e was k o) ≡ true
  header_linked = (behind s e was o p (stands s e o.id.bucket o.id.slot p.sound p.next)).fits (header_of s e was k o) refl

  pub header_first : o.id.slot ≡ 0 → (header_of s e was k o).before ≡ e.current
  header_first q = cond-true _ _ _ (eq-eqb o.id.slot 0 q)
