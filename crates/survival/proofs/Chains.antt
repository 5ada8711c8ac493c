-- Once a record is counted, the block keeps its rules and the bucket before is as the next record needs.
use Rattle.std.proofs.Common.{◌≡◌, ℕ, zero, suc, ◌+◌, ◌-◌, ◌*◌, ◌<◌, ◌≤◌, true, false, ◌⊎◌, List, length, set, sym, ap, ◌∙◌, subst, inl, inr, ⊎_elim, suc-mul, zero-mul, arith}
use Rattle.std.proofs.lemmas.List.{get_or-set_same, get_or-set_other, length-set}
use Rattle.std.proofs.lemmas.Bool.{eq-eqb, ne_eqb, cond-true, cond-false, cases_eq, both_ways}
use Rattle.layout.specs.declared.block.BlockEntry.{BlockEntry}
use Rattle.layout.specs.declared.open.OpenRecord.{OpenRecord}
use Rattle.layout.specs.declared.sizes.Sizes.{Sizes}
use Rattle.layout.specs.Block.{empty, entry_at, has, buckets_in, counting, Filled, BlockRules}
use Rattle.layout.proofs.Vectors.{has_none, has_new, has_old, has_cases}
use Rattle.undo_log.specs.Closing.{bucket_before}
use Rattle.survival.specs.Orderly.{Chained}
use Rattle.survival.specs.Proper.{Next, Proper}
use Rattle.survival.proofs.Added.{Stands, none, full, here, stands, one_more, records_none}
use Rattle.survival.proofs.Headers.{full_records}

-- ---- the bucket before

-- whole buckets and a part of one, not all but one of it: one record does not complete the first bucket
not_last : (m records closed : ℕ) → closed + 1 < records → records ≤ suc (m * records + closed) → records ≤ m * records + closed
not_last zero records closed part h = absurd (omega (arith, zero-mul records))
not_last (suc m) records closed part h = omega (arith, suc-mul m records)

pub chained_more : (s : Sizes) (e : BlockEntry) (was : ℕ) (o : OpenRecord) → s.buckets ≤ 32 → Proper s e was o
    → Chained s (counting e o.id.bucket o.id.slot) (bucket_before e was o)
chained_more s e was o few p = go (stands s e o.id.bucket o.id.slot p.sound p.next)
  where
    go : Stands s e o.id.bucket o.id.slot → Chained s (counting e o.id.bucket o.id.slot) (bucket_before e was o)
    go (none is_r is) =
        let one = one_more s e o.id.bucket o.id.slot few p.next (none is_r is) in
        let zero = records_none s e is in
        record {
          first = λ _ _ _. cond-true _ _ _ (eq-eqb o.id.slot 0 is_r) ∙ ap (λ (x : BlockEntry). x.current) is;
          later = λ some part h. absurd (omega (arith, one, zero));
        }
    go (full is_r is_c fill) =
        let one = one_more s e o.id.bucket o.id.slot few p.next (full is_r is_c fill) in
        record {
          first = λ some part h. absurd (omega (arith, one, full_records s e is_c));
          later =
              λ _ _ _.
              has_old e.vector o.id.bucket (bucket_before e was o)
              (subst (λ (c : ℕ). has e.vector c ≡ true) (sym (cond-true _ _ _ (eq-eqb o.id.slot 0 is_r))) fill.current);
        }
    go (here is_r is_b is_c fill) =
        let one = one_more s e o.id.bucket o.id.slot few p.next (here is_r is_b is_c fill) in
        let is : bucket_before e was o ≡ was = cond-false _ _ _ (ne_eqb o.id.slot 0 (λ q. omega arith)) in
        record {
          first = λ some part h. is ∙ p.first is_r (omega (arith, one));
          later =
              λ some part h.
              has_old e.vector o.id.bucket (bucket_before e was o)
              (subst (λ (c : ℕ). has e.vector c ≡ true) (sym is)
              (p.later is_r (not_last (buckets_in 32 e.vector - 1) s.records e.closed (omega arith) (omega (arith, one)))));
        }

-- ---- the rules of the block

-- the block once record r of bucket b is counted for core k
abbrev pub counted : List BlockEntry → ℕ → ℕ → ℕ → List BlockEntry
counted es k b r = set es k (counting (entry_at es k) b r)

module _ (es : List BlockEntry) (k b r : ℕ) (inside : k < length es) where
  pub counted_same : entry_at (counted es k b r) k ≡ counting (entry_at es k) b r
  counted_same = get_or-set_same es k (counting (entry_at es k) b r) empty inside

  -- who has a bucket now had it before, or it is the record's
  pub had : (j c : ℕ) → has (entry_at (counted es k b r) j).vector c ≡ true → (has (entry_at es j).vector c ≡ true) ⊎ ((j ≡ k) × (c ≡ b))
  had j c h = ⊎_elim own (λ (ne : j ≡ k → ⊥). inl (subst (λ (e : BlockEntry). has e.vector c ≡ true) (get_or-set_other es k j _ empty ne) h)) (cases_eq j k)
    where
      own : j ≡ k → (has (entry_at es j).vector c ≡ true) ⊎ ((j ≡ k) × (c ≡ b))
      own q =
          ⊎_elim (λ (x : c ≡ b). inr (q, x)) (λ (x : has (entry_at es k).vector c ≡ true). inl (subst (λ (i : ℕ). has (entry_at es i).vector c ≡ true) (sym q) x))
          (has_cases (entry_at es k).vector b c
          (subst (λ (e : BlockEntry). has e.vector c ≡ true) (ap (entry_at (counted es k b r)) q ∙ counted_same) h))

module _ (s : Sizes) (es : List BlockEntry) (k b r : ℕ) (inside : k < length es) where
  below_all : (c : ℕ) → (entry_at es k ≡ empty) ⊎ Filled s (entry_at es k) → has (entry_at es k).vector c ≡ true → c < s.buckets
  below_all c (inl q) h = absurd (both_ways _ (has_none c) (subst (λ (e : BlockEntry). has e.vector c ≡ true) q h))
  below_all c (inr q) h = q.below c h

  pub rules_more : BlockRules s es → Next s (entry_at es k) b r → ((j : ℕ) → (j ≡ k → ⊥) → has (entry_at es j).vector b ≡ false)
      → BlockRules s (counted es k b r)
  rules_more rules next alone =
      record { count = length-set es k _ ∙ rules.count; each = λ j. each j (cases_eq j k); apart = λ i j c p q. apart i j c (had es k b r inside i c p) (had es k b r inside j c q) }
    where
      filled : Filled s (counting (entry_at es k) b r)
      filled =
          record {
            some = omega arith;
            most = omega (arith, next.slot);
            current = has_new (entry_at es k).vector b;
            below =
                λ c h.
                ⊎_elim (λ (q : c ≡ b). subst (λ (x : ℕ). x < s.buckets) (sym q) next.bucket)
                (λ (q : has (entry_at es k).vector c ≡ true). below_all c (rules.each k) q) (has_cases (entry_at es k).vector b c h);
          }

      each : (j : ℕ) → (j ≡ k) ⊎ (j ≡ k → ⊥) → (entry_at (counted es k b r) j ≡ empty) ⊎ Filled s (entry_at (counted es k b r) j)
      each j (inl q) = inr (subst (Filled s) (sym (ap (entry_at (counted es k b r)) q ∙ counted_same es k b r inside)) filled)
      each j (inr ne) = subst (λ (e : BlockEntry). (e ≡ empty) ⊎ Filled s e) (sym (get_or-set_other es k j _ empty ne)) (rules.each j)

      -- only core k has the record's bucket
      whose : (j c : ℕ) → has (entry_at es j).vector c ≡ true → c ≡ b → j ≡ k
      whose j c h q =
          ⊎_elim (λ (x : j ≡ k). x)
          (λ (ne : j ≡ k → ⊥). absurd (both_ways _ (alone j ne) (subst (λ (x : ℕ). has (entry_at es j).vector x ≡ true) q h))) (cases_eq j k)

      apart : (i j c : ℕ) → (has (entry_at es i).vector c ≡ true) ⊎ ((i ≡ k) × (c ≡ b)) → (has (entry_at es j).vector c ≡ true) ⊎ ((j ≡ k) × (c ≡ b)) → i ≡ j
      apart i j c (inl p) (inl q) = rules.apart i j c p q
      apart i j c (inl p) (inr (is_k, is_b)) = whose i c p is_b ∙ sym is_k
      apart i j c (inr (is_k, is_b)) (inl q) = is_k ∙ sym (whose j c q is_b)
      apart i j c (inr (is_i, _)) (inr (is_j, _)) = is_i ∙ sym is_j
