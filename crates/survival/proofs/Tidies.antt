-- A tidy log stays so with one more entry in a core's record, and with a record closed.
use Rattle.std.proofs.Common.{◌≡◌, ℕ, ◌<◌, ◌≤◌, true, ◌⊎◌, List, length, get_or, set, Some, None, Option, sym, ap, ◌∙◌, subst, inl, inr, ⊎_elim, arith}
use Rattle.std.proofs.lemmas.List.{get_or-set_same, get_or-set_other}
use Rattle.std.proofs.lemmas.Bool.{cases_eq, cases_Bool, both_ways}
use Rattle.layout.specs.declared.block.BlockEntry.{BlockEntry}
use Rattle.layout.specs.declared.open.OpenRecord.{OpenRecord}
use Rattle.layout.specs.declared.sizes.Sizes.{Sizes}
use Rattle.layout.specs.Block.{empty, entry_at, has}
use Rattle.layout.specs.Sizes.{data_lines_of}
use Rattle.undo_log.specs.Closing.{Notes, open_at, before_at, with_open, noting, bucket_before}
use Rattle.undo_log.specs.Open.{with_line}
use Rattle.survival.specs.Orderly.{Chained, Own, Tidy}
use Rattle.survival.specs.Proper.{Proper}
use Rattle.survival.proofs.Appends.{proper_more}
use Rattle.survival.proofs.Chains.{chained_more, counted, counted_same, had, rules_more}

-- ---- one more entry

pub own_more : (n : Notes) (es : List BlockEntry) (k l : ℕ) (o : OpenRecord) → l < data_lines_of n.sizes → o.count < 7 → Own n es k o → Own n es k (with_line o l)
own_more n es k l o data-line few own =
    record {
      proper = proper_more n.sizes (entry_at es k) (before_at n k) o l data-line few own.proper;
      unclaimed = own.unclaimed;
      unshared = own.unshared;
    }

module _ (n : Notes) (es : List BlockEntry) (k l : ℕ) (o : OpenRecord) (tidy : Tidy n es) (own : Own n es k o) (core : k < length n.opens) where
  -- the open records as they were, but for core k's
  open_still : (x : Option OpenRecord) (j : ℕ) (p : OpenRecord) → (j ≡ k → ⊥) → get_or (set n.opens k x) j None ≡ Some p → open_at n j ≡ Some p
  open_still x j p ne is = sym (get_or-set_other n.opens k j x None ne) ∙ is

  open_new : (j : ℕ) (p : OpenRecord) → j ≡ k → open_at (with_open n k (Some (with_line o l))) j ≡ Some p → with_line o l ≡ p
  open_new j p q is =
      let here = get_or-set_same n.opens k (Some (with_line o l)) None core in
      let there : open_at (with_open n k (Some (with_line o l))) k ≡ Some p = subst (λ (i : ℕ). open_at (with_open n k (Some (with_line o l))) i ≡ Some p) q is in
      cc

  pub tidy_more : l < data_lines_of n.sizes → o.count < 7 → Tidy (with_open n k (Some (with_line o l))) es
  tidy_more data-line few =
      record { records = tidy.records; rules = tidy.rules; chained = tidy.chained; opened = λ j p is. opened j p is (cases_eq j k) }
    where
      more : Own (with_open n k (Some (with_line o l))) es k (with_line o l)
      more =
          record {
            proper = proper_more n.sizes (entry_at es k) (before_at n k) o l data-line few own.proper;
            unclaimed = own.unclaimed;
            unshared = λ j ne p is. own.unshared j ne p (open_still (Some (with_line o l)) j p ne is);
          }

      still : (j : ℕ) (p : OpenRecord) → (j ≡ k → ⊥) → open_at n j ≡ Some p → Own (with_open n k (Some (with_line o l))) es j p
      still j p ne was =
          let old = (tidy.opened j p was).1 in
          record { proper = old.proper; unclaimed = old.unclaimed; unshared = λ i other q is. unshared i other q is (cases_eq i k) }
        where
          unshared : (i : ℕ) → (i ≡ j → ⊥) → (q : OpenRecord) → open_at (with_open n k (Some (with_line o l))) i ≡ Some q
              → (i ≡ k) ⊎ (i ≡ k → ⊥) → q.id.bucket ≡ p.id.bucket → ⊥
          unshared i other q is (inl x) same = own.unshared j ne p was (sym same ∙ sym (ap (λ (r : OpenRecord). r.id.bucket) (open_new i q x is)))
          unshared i other q is (inr x) same = (tidy.opened j p was).1.unshared i other q (open_still (Some (with_line o l)) i q x is) same

      opened : (j : ℕ) (p : OpenRecord) → open_at (with_open n k (Some (with_line o l))) j ≡ Some p → (j ≡ k) ⊎ (j ≡ k → ⊥)
          → (1 ≤ p.count) × Own (with_open n k (Some (with_line o l))) es j p
      opened j p is (inl q) =
          subst (λ (i : ℕ). (1 ≤ p.count) × Own (with_open n k (Some (with_line o l))) es i p) (sym q)
          (subst (λ (p : OpenRecord). (1 ≤ p.count) × Own (with_open n k (Some (with_line o l))) es k p) (open_new j p q is) (omega arith, more))
      opened j p is (inr ne) = let was = open_still (Some (with_line o l)) j p ne is in ((tidy.opened j p was).0, still j p ne was)

-- ---- a record closed

-- the notes once core k's record o is closed
abbrev pub noted : Notes → List BlockEntry → ℕ → OpenRecord → Notes
noted n es k o = noting n k None (bucket_before (entry_at es k) (before_at n k) o)

pub chained_as : (s : Sizes) (e e' : BlockEntry) (was was' : ℕ) → e' ≡ e → was' ≡ was → Chained s e was → Chained s e' was'
chained_as s e e' was was' p q c = subst (λ (x : BlockEntry). Chained s x was') (sym p) (subst (Chained s e) (sym q) c)

pub proper_as : (s : Sizes) (e e' : BlockEntry) (was was' : ℕ) (o : OpenRecord) → e' ≡ e → was' ≡ was → Proper s e was o → Proper s e' was' o
proper_as s e e' was was' o p q c = subst (λ (x : BlockEntry). Proper s x was' o) (sym p) (subst (λ (x : ℕ). Proper s e x o) (sym q) c)

module _ (n : Notes) (es : List BlockEntry) (k : ℕ) (o : OpenRecord) (tidy : Tidy n es) (own : Own n es k o) (few : n.sizes.buckets ≤ 32) (in_block : k < length es) (in_opens : k < length n.opens) (in_befores : k < length n.befores) where
  none_open : (j : ℕ) (p : OpenRecord) → j ≡ k → open_at (noted n es k o) j ≡ Some p → ⊥
  none_open j p q is =
      let there : open_at (noted n es k o) k ≡ Some p = subst (λ (i : ℕ). open_at (noted n es k o) i ≡ Some p) q is in
      cc (get_or-set_same n.opens k None None in_opens)

  pub tidy_closed : Tidy (noted n es k o) (counted es k o.id.bucket o.id.slot)
  tidy_closed =
      record {
        records = tidy.records;
        rules = rules_more n.sizes es k o.id.bucket o.id.slot in_block tidy.rules own.proper.next own.unclaimed;
        chained = λ j. chained j (cases_eq j k);
        opened = λ j p is. opened j p is (cases_eq j k);
      }
    where
      entry_still : (j : ℕ) → (j ≡ k → ⊥) → entry_at (counted es k o.id.bucket o.id.slot) j ≡ entry_at es j
      entry_still j ne = get_or-set_other es k j _ empty ne

      before_still : (j : ℕ) → (j ≡ k → ⊥) → before_at (noted n es k o) j ≡ before_at n j
      before_still j ne = get_or-set_other n.befores k j _ 255 ne

      chained : (j : ℕ) → (j ≡ k) ⊎ (j ≡ k → ⊥) → Chained n.sizes (entry_at (counted es k o.id.bucket o.id.slot) j) (before_at (noted n es k o) j)
      chained j (inl q) =
          subst (λ (i : ℕ). Chained n.sizes (entry_at (counted es k o.id.bucket o.id.slot) i) (before_at (noted n es k o) i)) (sym q)
          (chained_as n.sizes _ _ _ _ (counted_same es k o.id.bucket o.id.slot in_block) (get_or-set_same n.befores k _ 255 in_befores)
          (chained_more n.sizes (entry_at es k) (before_at n k) o few own.proper))
      chained j (inr ne) = chained_as n.sizes _ _ _ _ (entry_still j ne) (before_still j ne) (tidy.chained j)

      still : (j : ℕ) (p : OpenRecord) → (j ≡ k → ⊥) → open_at n j ≡ Some p → Own (noted n es k o) (counted es k o.id.bucket o.id.slot) j p
      still j p ne was =
          let old = (tidy.opened j p was).1 in
          record {
            proper = proper_as n.sizes _ _ _ _ p (entry_still j ne) (before_still j ne) old.proper;
            unclaimed = λ i other. ⊎_elim (λ (h : _). absurd (taken i other h)) (λ (h : _). h) (cases_Bool _);
            unshared = λ i other q is. unshared i other q is (cases_eq i k);
          }
        where
          taken : (i : ℕ) → (i ≡ j → ⊥) → has (entry_at (counted es k o.id.bucket o.id.slot) i).vector p.id.bucket ≡ true → ⊥
          taken i other h =
              ⊎_elim (λ (x : has (entry_at es i).vector p.id.bucket ≡ true). both_ways _ ((tidy.opened j p was).1.unclaimed i other) x)
              (λ (x : (i ≡ k) × (p.id.bucket ≡ o.id.bucket)). own.unshared j ne p was x.1) (had es k o.id.bucket o.id.slot in_block i p.id.bucket h)

          unshared : (i : ℕ) → (i ≡ j → ⊥) → (q : OpenRecord) → open_at (noted n es k o) i ≡ Some q → (i ≡ k) ⊎ (i ≡ k → ⊥) → q.id.bucket ≡ p.id.bucket → ⊥
          unshared i other q is (inl x) same = none_open i q x is
          unshared i other q is (inr x) same =
              (tidy.opened j p was).1.unshared i other q (sym (get_or-set_other n.opens k i None None x) ∙ is) same

      opened : (j : ℕ) (p : OpenRecord) → open_at (noted n es k o) j ≡ Some p → (j ≡ k) ⊎ (j ≡ k → ⊥)
          → (1 ≤ p.count) × Own (noted n es k o) (counted es k o.id.bucket o.id.slot) j p
      opened j p is (inl q) = absurd (none_open j p q is)
      opened j p is (inr ne) =
          let was : open_at n j ≡ Some p = sym (get_or-set_other n.opens k j None None ne) ∙ is in ((tidy.opened j p was).0, still j p ne was)
