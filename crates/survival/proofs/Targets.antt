-- In a tidy log, the record that takes a core's next entry is its own.
use Rattle.std.proofs.Common.{◌≡◌, ℕ, ◌<◌, ◌≤◌, Bool, true, false, cond, ◌⊎◌, List, get_or, Some, None, Option, sym, refl, ap, subst, inl, inr, ⊎_elim, arith}
use Rattle.std.proofs.lemmas.Bool.{and_parts, and_cases, ltb-true, ltb-false, cases_Bool, both_ways}
use Rattle.layout.specs.declared.block.BlockEntry.{BlockEntry}
use Rattle.layout.specs.declared.open.OpenRecord.{OpenRecord}
use Rattle.layout.specs.declared.sizes.Sizes.{Sizes}
use Rattle.layout.specs.Block.{empty, entry_at, has, Filled}
use Rattle.layout.specs.Places.{in_log}
use Rattle.buckets.specs.Buckets.{free, lowest_free, Free}
use Rattle.buckets.proofs.Searches.{lowest_free_lem}
use Rattle.undo_log.specs.Closing.{Notes}
use Rattle.undo_log.specs.Open.{opening, next_record, log_target}
use Rattle.recovery.proofs.Records.{get_or-blank}
use Rattle.survival.specs.Orderly.{Own, Tidy}
use Rattle.std.specs.Option.{option_map, option_or}

-- an entry whose current bucket has room is filled
filled_there : (s : Sizes) (e : BlockEntry) → s.buckets ≤ 32 → (e ≡ empty) ⊎ Filled s e → e.current < s.buckets → Filled s e
filled_there s e few (inl q) h = absurd (let z : e.current ≡ 255 = ap (λ (x : BlockEntry). x.current) q in omega arith)
filled_there s e few (inr q) h = q

-- one whose current bucket has none is empty or full
ended : (s : Sizes) (e : BlockEntry) → (e ≡ empty) ⊎ Filled s e → in_log s e.current e.closed ≡ false → (e.closed ≡ 0) ⊎ (e.closed ≡ s.records)
ended s e (inl q) h = inl (ap (λ (x : BlockEntry). x.closed) q)
ended s e (inr q) h =
    ⊎_elim (λ (x : _). absurd (let y = ltb-false e.current s.buckets x in omega (arith, q.below e.current q.current)))
    (λ (x : _). let y = ltb-false e.closed s.records x in inr (omega (arith, q.most))) (and_cases _ _ h)

module _ (n : Notes) (es : List BlockEntry) (k : ℕ) (tidy : Tidy n es) (few : n.sizes.buckets ≤ 32) where
  -- the next of the current bucket
  own_next : in_log n.sizes (entry_at es k).current (entry_at es k).closed ≡ true → Own n es k (opening (entry_at es k).current (entry_at es k).closed)
  own_next h =
      let (in_buckets, in_records) = and_parts _ _ h in
      let bucket = ltb-true (entry_at es k).current n.sizes.buckets in_buckets in
      let slot = ltb-true (entry_at es k).closed n.sizes.records in_records in
      let fill = filled_there n.sizes (entry_at es k) few (tidy.rules.each k) bucket in
      let some = fill.some in
      record {
        proper =
            record {
              sound = inr fill;
              next = record { bucket = bucket; slot = slot; here = λ _. (refl, refl); fresh = λ q. absurd (omega arith); full = λ q. absurd (omega arith) };
              seven = refl;
              used = λ i lt. absurd (omega arith);
              unused = λ i _. get_or-blank {A = ℕ} 7 i 0;
              first = λ pos. (tidy.chained k).first pos slot;
              later = λ pos. (tidy.chained k).later pos slot;
            };
        unclaimed =
            λ j ne. ⊎_elim (λ (x : has (entry_at es j).vector (entry_at es k).current ≡ true). absurd (ne (tidy.rules.apart j k _ x fill.current)))
            (λ (x : has (entry_at es j).vector (entry_at es k).current ≡ false). x) (cases_Bool _);
        unshared =
            λ j ne p is same.
            both_ways _ ((tidy.opened j p is).1.unclaimed k (λ q. ne (sym q)))
            (subst (λ (c : ℕ). has (entry_at es k).vector c ≡ true) (sym same) fill.current);
      }

  -- the first of a free one
  own_first : (b : ℕ) → in_log n.sizes (entry_at es k).current (entry_at es k).closed ≡ false → b < n.sizes.buckets → Free es n.opens b
      → Own n es k (opening b 0)
  own_first b h bucket fresh =
      let some = tidy.records in
      record {
        proper =
            record {
              sound = tidy.rules.each k;
              next =
                  record {
                    bucket = bucket;
                    slot = omega arith;
                    here = λ pos. absurd (omega arith);
                    fresh = λ _. fresh.unclaimed k;
                    full = λ _. ended n.sizes (entry_at es k) (tidy.rules.each k) h;
                  };
              seven = refl;
              used = λ i lt. absurd (omega arith);
              unused = λ i _. get_or-blank {A = ℕ} 7 i 0;
              first = λ pos. absurd (omega arith);
              later = λ pos. absurd (omega arith);
            };
        unclaimed = λ j _. fresh.unclaimed j;
        unshared = λ j _ p is. fresh.unused j p is;
      }

  pub target_own : (o : OpenRecord) → log_target n.sizes es n.opens k ≡ Some o → Own n es k o
  target_own o = go (get_or n.opens k None) refl
    where
      found : (x : Option ℕ) → x ≡ lowest_free (free es n.opens) n.sizes.buckets 0
          → in_log n.sizes (entry_at es k).current (entry_at es k).closed ≡ false → option_map (λ b. opening b 0) x ≡ Some o → Own n es k o
      found None is h q = cc
      found (Some b) is h q =
          let (bucket, fresh, _) = (lowest_free_lem es n.opens n.sizes.buckets (Some b) is).some b refl in
          let same : opening b 0 ≡ o = cc in
          subst (Own n es k) same (own_first b h bucket fresh)

      next : (t : Bool) → in_log n.sizes (entry_at es k).current (entry_at es k).closed ≡ t
          → cond t (Some (opening (entry_at es k).current (entry_at es k).closed)) (option_map (λ b. opening b 0) (lowest_free (free es n.opens) n.sizes.buckets 0)) ≡ Some o
          → Own n es k o
      next true h q = let same : opening (entry_at es k).current (entry_at es k).closed ≡ o = cc in subst (Own n es k) same (own_next h)
      next false h q = found _ refl h q

      go : (x : Option OpenRecord) → get_or n.opens k None ≡ x → option_or x (next_record n.sizes es n.opens (entry_at es k)) ≡ Some o → Own n es k o
      go (Some p) is q = let same : p ≡ o = cc in subst (Own n es k) same (tidy.opened k p is).1
      go None is q = next (in_log n.sizes (entry_at es k).current (entry_at es k).closed) refl q
