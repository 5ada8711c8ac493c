-- The calls that write no record keep every log in order, and the one that empties a core's entry all others.
use Rattle.std.proofs.Common.{◌≡◌, ℕ, ◌<◌, ◌≤◌, true, ◌⊎◌, List, length, get_or, set, Some, None, Result, sym, ap, ◌∙◌, subst, inl, inr, ⊎_elim, arith}
use Rattle.std.proofs.ByRecursion.{All-weaker}
use Rattle.std.proofs.lemmas.List.{get_or-set_same, get_or-set_other, get_or_past, length-set}
use Rattle.std.proofs.lemmas.Bool.{cases_lt, cases_eq, cases_Bool, both_ways}
use Rattle.memory.specs.Meaning.{Line}
use Rattle.layout.specs.declared.block.BlockEntry.{BlockEntry}
use Rattle.layout.specs.declared.open.OpenRecord.{OpenRecord}
use Rattle.layout.specs.Block.{empty, entry_at, has, Filled}
use Rattle.layout.specs.Places.{entry_line}
use Rattle.layout.specs.Sizes.{data_lines_of}
use Rattle.layout.proofs.Vectors.{has_none}
use Rattle.undo_log.specs.declared.fault.Place.{Place}
use Rattle.undo_log.specs.declared.fault.LogFault.{LogFault}
use Rattle.undo_log.specs.Calls.{WritesData, Empties}
use Rattle.undo_log.specs.Closing.{state_of, Notes, State, Takes, open_at, before_at, noting}
use Rattle.undo_log.specs.Steps.{World, fence}
use Rattle.recovery.specs.declared.walk.Found.{Found}
use Rattle.survival.specs.Calls.{AllOrderly, OrderlyEmpty}
use Rattle.survival.specs.Held.{DurableRecord, Holds}
use Rattle.survival.specs.Orderly.{Chained, Own, Tidy, Orderly}
use Rattle.survival.proofs.Begins.{empty_holds, empty_chained}
use Rattle.survival.proofs.Keeps.{SparedRecord, kept}
use Rattle.survival.proofs.Orders.{unmoved, orderly_from}
use Rattle.survival.proofs.Spared.{Spared, same_spared, writes_spared, fences_spared}
use Rattle.survival.proofs.Tidies.{chained_as, proper_as}

-- ---- calls that write no line of a record

module _ (n n' : Notes) (w w' : World) (is_n : n' ≡ n) (is_b : w'.block ≡ w.block) where
  orderly_kept : ((b r i : ℕ) → Spared w.memory w'.memory (entry_line n.sizes b r i)) → AllOrderly (state_of n w) (state_of n' w')
  orderly_kept spared j fs h =
      orderly_from n n' w' j fs (unmoved n n' w w' h.tidy is_n is_b)
      (kept n.sizes j w w' fs h.holds (ap (λ (es : List BlockEntry). entry_at es j) is_b)
      (All-weaker (DurableRecord n.sizes w.memory) (SparedRecord n.sizes w.memory w'.memory) (λ f _ i _. spared f.id.bucket f.id.slot i) fs
      h.holds.durable)).holds

pub orderly_fence : (s s' : State) (p : Place) (r : Result Unit LogFault) → Takes (fence p) s r s' → AllOrderly s s'
orderly_fence s s' p r takes =
    let (q, (fences, (_, is_b))) = takes.did in
    orderly_kept s.notes s'.notes s.world s'.world takes.rest is_b (λ b r i. fences_spared s.world.memory q s'.world.memory _ fences)

pub orderly_data : (s s' : State) (p : Place) (l : ℕ) (c : Line) (r : Result Unit LogFault) → WritesData p l c s r s' → AllOrderly s s'
orderly_data s s' p l c r did = ⊎_elim inside outside (cases_lt l (data_lines_of s.notes.sizes))
  where
    inside : l < data_lines_of s.notes.sizes → AllOrderly s s'
    inside h =
        let takes = did.did h in
        let (q, (writes, (_, is_b))) = takes.did in
        orderly_kept s.notes s'.notes s.world s'.world takes.rest is_b
        (λ b r i. writes_spared s.world.memory l c q s'.world.memory _ (λ e. omega arith) writes)

    outside : data_lines_of s.notes.sizes ≤ l → AllOrderly s s'
    outside h j fs o = subst (λ (t : State). Orderly t j fs) (sym (did.outside h).1) o

-- ---- an entry emptied

-- whether there is a place k or not
emptied_at : {A : Type 0} (xs : List A) (k : ℕ) (x : A) → get_or (set xs k x) k x ≡ x
emptied_at xs k x =
    ⊎_elim (λ (h : k < length xs). get_or-set_same xs k x x h) (λ (h : length xs ≤ k). get_or_past (set xs k x) k x (omega (arith, length-set xs k x)))
    (cases_lt k (length xs))

module _ (n : Notes) (es : List BlockEntry) (k : ℕ) (tidy : Tidy n es) where
  entry_still : (j : ℕ) → (j ≡ k → ⊥) → entry_at (set es k empty) j ≡ entry_at es j
  entry_still j ne = get_or-set_other es k j empty empty ne

  entry_gone : (j : ℕ) → j ≡ k → entry_at (set es k empty) j ≡ empty
  entry_gone j q = ap (entry_at (set es k empty)) q ∙ emptied_at es k empty

  had_then : (j b : ℕ) → has (entry_at (set es k empty) j).vector b ≡ true → has (entry_at es j).vector b ≡ true
  had_then j b h =
      ⊎_elim
      (λ (q : j ≡ k). absurd (both_ways _ (has_none b) (subst (λ (e : BlockEntry). has e.vector b ≡ true) (entry_gone j q) h)))
      (λ (ne : j ≡ k → ⊥). subst (λ (e : BlockEntry). has e.vector b ≡ true) (entry_still j ne) h) (cases_eq j k)

  open_then : (j : ℕ) (o : OpenRecord) → open_at (noting n k None 255) j ≡ Some o → (j ≡ k → ⊥) × (open_at n j ≡ Some o)
  open_then j o is = (other, sym (get_or-set_other n.opens k j None None other) ∙ is)
    where
      other : j ≡ k → ⊥
      other q =
          let here : open_at (noting n k None 255) k ≡ Some o = subst (λ (i : ℕ). open_at (noting n k None 255) i ≡ Some o) q is in
          cc (emptied_at n.opens k None)

  pub tidy_emptied : Tidy (noting n k None 255) (set es k empty)
  tidy_emptied =
      record {
        records = tidy.records;
        rules =
            record {
              count = length-set es k empty ∙ tidy.rules.count;
              each = λ j. each j (cases_eq j k);
              apart = λ i j b p q. tidy.rules.apart i j b (had_then i b p) (had_then j b q);
            };
        chained = λ j. chained j (cases_eq j k);
        opened = λ j o is. let (ne, was) = open_then j o is in ((tidy.opened j o was).0, still j o ne (tidy.opened j o was).1);
      }
    where
      each : (j : ℕ) → (j ≡ k) ⊎ (j ≡ k → ⊥) → (entry_at (set es k empty) j ≡ empty) ⊎ Filled n.sizes (entry_at (set es k empty) j)
      each j (inl q) = inl (entry_gone j q)
      each j (inr ne) = subst (λ (e : BlockEntry). (e ≡ empty) ⊎ Filled n.sizes e) (sym (entry_still j ne)) (tidy.rules.each j)

      before_still : (j : ℕ) → (j ≡ k → ⊥) → before_at (noting n k None 255) j ≡ before_at n j
      before_still j ne = get_or-set_other n.befores k j 255 255 ne

      chained : (j : ℕ) → (j ≡ k) ⊎ (j ≡ k → ⊥) → Chained n.sizes (entry_at (set es k empty) j) (before_at (noting n k None 255) j)
      chained j (inl q) = empty_chained n.sizes _ _ (entry_gone j q)
      chained j (inr ne) = chained_as n.sizes _ _ _ _ (entry_still j ne) (before_still j ne) (tidy.chained j)

      still : (j : ℕ) (o : OpenRecord) → (j ≡ k → ⊥) → Own n es j o → Own (noting n k None 255) (set es k empty) j o
      still j o ne own =
          record {
            proper = proper_as n.sizes _ _ _ _ o (entry_still j ne) (before_still j ne) own.proper;
            unclaimed =
                λ i other. ⊎_elim (λ (h : _). absurd (both_ways _ (own.unclaimed i other) (had_then i o.id.bucket h))) (λ (h : _). h) (cases_Bool _);
            unshared = λ i other p is. own.unshared i other p (open_then i p is).1;
          }

pub orderly_empty : (n n' : Notes) (w w' : World) (k : ℕ) → Empties k (state_of n w) (state_of n' w') → OrderlyEmpty (state_of n w) k (state_of n' w')
orderly_empty n n' w w' k did =
    let (_, (is_m, is_b)) = did.did in
    record {
      own =
          λ tidy.
          orderly tidy k _ (empty_holds n.sizes w' k (ap (λ (es : List BlockEntry). entry_at es k) is_b ∙ emptied_at w.block k empty));
      others =
          λ j fs ne h.
          orderly h.tidy j fs
          (kept n.sizes j w w' fs h.holds (ap (λ (es : List BlockEntry). entry_at es j) is_b ∙ get_or-set_other w.block k j empty empty ne)
          (All-weaker (DurableRecord n.sizes w.memory) (SparedRecord n.sizes w.memory w'.memory)
          (λ f _ i _. same_spared w.memory w'.memory _ is_m) fs h.holds.durable)).holds;
    }
  where
    orderly : Tidy n w.block → (j : ℕ) (fs : List Found) → Holds n.sizes w' j fs → Orderly (state_of n' w') j fs
    orderly tidy j fs h =
        subst (λ (m : Notes). Orderly (state_of m w') j fs) (sym did.notes)
        (record { tidy = subst (Tidy (noting n k None 255)) (sym did.did.1.1) (tidy_emptied n w.block k tidy); holds = h })
