-- A close, whether power goes after it or not: the record is found first if it was answered Ok, and else not at all.
use Rattle.std.proofs.Common.{◌≡◌, ℕ, ◌+◌, ◌<◌, ◌≤◌, true, false, ◌⊎◌, List, ◌∷◌, length, Some, None, Ok, Err, Option, Result, sym, refl, ap, ◌∙◌, subst, inl, inr, ⊎_elim, arith}
use Rattle.std.specs.List.{AllByRecursion as All}
use Rattle.std.proofs.ByRecursion.{All-weaker}
use Rattle.std.proofs.lemmas.List.{get_or-set_same, get_or-set_other}
use Rattle.std.proofs.lemmas.Bool.{cases_lt}
use Rattle.memory.specs.Meaning.{content_at}
use Rattle.layout.specs.declared.block.BlockEntry.{BlockEntry}
use Rattle.layout.specs.declared.open.OpenRecord.{OpenRecord}
use Rattle.layout.specs.declared.sizes.Sizes.{Sizes}
use Rattle.layout.specs.Block.{empty, entry_at, has, counting}
use Rattle.layout.specs.Places.{header_line, entry_line}
use Rattle.layout.proofs.Vectors.{has_new, has_old}
use Rattle.header.specs.Header.{read_header, written}
use Rattle.undo_log.specs.declared.fault.LogFault.{LogFault}
use Rattle.undo_log.specs.Closing.{state_of, Notes, open_at, before_at, header_of, closing, Closes}
use Rattle.undo_log.specs.Open.{open_fits}
use Rattle.undo_log.specs.Steps.{World, Ran}
use Rattle.undo_log.proofs.Targets.{fits_parts}
use Rattle.recovery.specs.Undone.{entries_of}
use Rattle.recovery.specs.declared.walk.Found.{Found}
use Rattle.recovery.specs.Walk.{finds, walk_of}
use Rattle.survival.specs.Held.{Placed, DurableRecord, Holds, Kept}
use Rattle.survival.specs.Orderly.{Own, Tidy}
use Rattle.survival.specs.Proper.{Next, Proper, found_of}
use Rattle.survival.specs.Survives.{ClosesAndCuts, OthersKept, Closing, SurvivesClose}
use Rattle.survival.proofs.Added.{stands, added_walk}
use Rattle.survival.proofs.Alike.{Alike, walk_of_alike, entries_from_alike, entries_of_alike}
use Rattle.survival.proofs.Headers.{header_reads, header_linked, header_first}
use Rattle.survival.proofs.Keeps.{SparedRecord, alike, kept, placed_before, next_unplaced, foreign_unplaced, others_spared}
use Rattle.survival.proofs.Sized.{Sized, same_world}
use Rattle.survival.proofs.Spared.{Spared, AllSpared, Written, then_spared, cuts_spared, spared_written}
use Rattle.survival.proofs.Steps.{Stopped, Entered, closing_ran}
use Rattle.layout.specs.Sizes.{Bounded}

-- ---- the record is counted

-- what was in place stays so
placed_more : (s : Sizes) (e : BlockEntry) (b r : ℕ) → Next s e b r → (f : Found) → Placed s e f → Placed s (counting e b r) f
placed_more s e b r next f p =
    record {
      held = has_old e.vector b f.id.bucket p.held;
      slot = p.slot;
      earlier = λ q. let y = placed_before s e b r next f p q in omega arith;
      seven = p.seven;
    }

module _ (s : Sizes) (e : BlockEntry) (was k : ℕ) (o : OpenRecord) (fits : Bounded s) (core : k < s.cores) (p : Proper s e was o) (some : 1 ≤ o.count) (most : o.count ≤ 7) where
  counted : (w w' : World) (fs : List Found) → entry_at w.block k ≡ e → Holds s w k fs → entry_at w'.block k ≡ counting e o.id.bucket o.id.slot
      → Written w.memory (header_line s o.id.bucket o.id.slot) (written (header_of s e was k o)) w'.memory
      → Kept s k w w' (found_of s e was k o ∷ fs)
  unfolding entries_of
  counted w w' fs is h is' wr =
      record {
        holds =
            record {
              walked =
                  ap (walk_of s (content_at w'.memory) k) is'
                  ∙ added_walk s (content_at w'.memory) k e o.id.bucket o.id.slot (header_of s e was k o) fs fits.buckets p.next
                  (stands s e o.id.bucket o.id.slot p.sound p.next)
                  (ap (read_header s) wr.at ∙ header_reads s e was k o fits core p some most) refl refl
                  (header_linked s e was k o fits core p some most) (header_first s e was k o fits core p some most)
                  (walk_of_alike s (content_at w.memory) (content_at w'.memory) k e fs (subst (λ (e : BlockEntry). walk_of s (content_at w.memory) k e ≡ finds fs) is h.walked) same);
              placed =
                  subst (λ (x : BlockEntry). All (Placed s x) (found_of s e was k o ∷ fs)) (sym is')
                  (placed_new, All-weaker (Placed s e) (Placed s (counting e o.id.bucket o.id.slot)) (placed_more s e o.id.bucket o.id.slot p.next) fs placed₀);
              durable = ((λ i le. wr.safe _), All-weaker (DurableRecord s w.memory) (DurableRecord s w'.memory) (λ f d i le. wr.safe _) fs h.durable);
            };
        same =
            let x =
            entries_from_alike s (content_at w.memory) (content_at w'.memory) (found_of s e was k o) o.count
            (λ i lt. wr.others (entry_line s o.id.bucket o.id.slot (i + 1)) (λ q. omega arith))
            in
            let y = entries_of_alike s (content_at w.memory) (content_at w'.memory) fs same in
            cc;
      }
    where
      placed₀ : All (Placed s e) fs
      placed₀ = subst (λ (e : BlockEntry). All (Placed s e) fs) is h.placed

      spared : (j : ℕ) → (j ≡ entry_line s o.id.bucket o.id.slot 0 → ⊥) → Spared w.memory w'.memory j
      spared j ne d = (wr.others j (λ q. ne (omega arith)), wr.safe j)

      same : All (Alike s (content_at w.memory) (content_at w'.memory)) fs
      same =
          alike s w.memory w'.memory fs h.durable
          (others_spared s e o.id.bucket o.id.slot 0 w.memory w'.memory fs (next_unplaced s e o.id.bucket o.id.slot p.next) p.next.slot (omega arith) spared placed₀)

      placed_new : Placed s (counting e o.id.bucket o.id.slot) (found_of s e was k o)
      placed_new = record { held = has_new e.vector o.id.bucket; slot = p.next.slot; earlier = λ q. omega arith; seven = most }

  -- ---- all outcomes of the steps

  pub closing_kept : (w u w' : World) (r : Result Unit LogFault) (fs : List Found) → k < length w.block → entry_at w.block k ≡ e → Holds s w k fs
      → Ran (closing s e was k o) w r u → AllSpared u.memory w'.memory → w'.block ≡ u.block
      → (r ≡ Ok tt → Kept s k w w' (found_of s e was k o ∷ fs)) × ((x : LogFault) → r ≡ Err x → Kept s k w w' fs)
  closing_kept w u w' r fs inside is h ran after block =
      ⊎_elim stop enter
      (closing_ran (header_line s o.id.bucket o.id.slot) (written (header_of s e was k o)) _ _ k (counting e o.id.bucket o.id.slot) w r u ran)
    where
      stop : Stopped w (header_line s o.id.bucket o.id.slot) r u
          → (r ≡ Ok tt → Kept s k w w' (found_of s e was k o ∷ fs)) × ((x : LogFault) → r ≡ Err x → Kept s k w w' fs)
      stop st = (
        (λ q. cc),
        (λ x q.
            kept s k w w' fs h (ap (λ (es : List BlockEntry). entry_at es k) (block ∙ st.block))
            (others_spared s e o.id.bucket o.id.slot 0 w.memory w'.memory fs (next_unplaced s e o.id.bucket o.id.slot p.next) p.next.slot (omega arith)
            (λ j ne. then_spared w.memory u.memory w'.memory j (st.spared j (λ q. ne (omega arith))) (after j))
            (subst (λ (e : BlockEntry). All (Placed s e) fs) is h.placed))),
      )

      enter : Entered w (header_line s o.id.bucket o.id.slot) (written (header_of s e was k o)) k (counting e o.id.bucket o.id.slot) r u
          → (r ≡ Ok tt → Kept s k w w' (found_of s e was k o ∷ fs)) × ((x : LogFault) → r ≡ Err x → Kept s k w w' fs)
      enter en = (
        (λ q.
            counted w w' fs is h
            (ap (λ (es : List BlockEntry). entry_at es k) (block ∙ en.block) ∙ get_or-set_same w.block k (counting e o.id.bucket o.id.slot) empty inside)
            (spared_written w.memory _ _ u.memory w'.memory en.written after)),
        (λ x q. cc),
      )

-- a core that has not the record's bucket
pub closing_others : (s : Sizes) (e : BlockEntry) (was k : ℕ) (o : OpenRecord) (w u w' : World) (r : Result Unit LogFault) → o.id.slot < s.records
    → Ran (closing s e was k o) w r u → AllSpared u.memory w'.memory → w'.block ≡ u.block
    → (j : ℕ) (fs : List Found) → (j ≡ k → ⊥) → has (entry_at w.block j).vector o.id.bucket ≡ false → Holds s w j fs → Kept s j w w' fs
closing_others s e was k o w u w' r slot ran after block j fs ne free h =
    ⊎_elim (λ (x : Stopped w (header_line s o.id.bucket o.id.slot) r u). still x.spared (ap (λ (es : List BlockEntry). entry_at es j) x.block))
    (λ (x : Entered w (header_line s o.id.bucket o.id.slot) (written (header_of s e was k o)) k (counting e o.id.bucket o.id.slot) r u).
    still (λ i q d. (x.written.others i q, x.written.safe i))
    (ap (λ (es : List BlockEntry). entry_at es j) x.block ∙ get_or-set_other w.block k j (counting e o.id.bucket o.id.slot) empty ne))
    (closing_ran (header_line s o.id.bucket o.id.slot) (written (header_of s e was k o)) _ _ k (counting e o.id.bucket o.id.slot) w r u ran)
  where
    still : ((i : ℕ) → (i ≡ header_line s o.id.bucket o.id.slot → ⊥) → Spared w.memory u.memory i) → entry_at u.block j ≡ entry_at w.block j
        → Kept s j w w' fs
    still spared is =
        kept s j w w' fs h (ap (λ (es : List BlockEntry). entry_at es j) block ∙ is)
        (others_spared s (entry_at w.block j) o.id.bucket o.id.slot 0 w.memory w'.memory fs
        (foreign_unplaced s (entry_at w.block j) o.id.bucket o.id.slot free) slot (omega arith)
        (λ i q. then_spared w.memory u.memory w'.memory i (spared i (λ z. q (omega arith))) (after i))
        h.placed)

-- ---- the calls

-- nothing was done
pub idle_kept : (s : Sizes) (k : ℕ) (w u w' : World) (fs : List Found) → Holds s w k fs → u ≡ w → AllSpared u.memory w'.memory
    → w'.block ≡ u.block → Kept s k w w' fs
idle_kept s k w u w' fs h is after block =
    kept s k w w' fs h (ap (λ (es : List BlockEntry). entry_at es k) (block ∙ ap (λ (x : World). x.block) is))
    (All-weaker (DurableRecord s w.memory) (SparedRecord s w.memory w'.memory)
    (λ f d i le. subst (λ (x : World). Spared x.memory w'.memory (entry_line s f.id.bucket f.id.slot i)) is
    (after (entry_line s f.id.bucket f.id.slot i)))
    fs h.durable)

module _ (n : Notes) (w : World) (k : ℕ) (r : Result Unit LogFault) (n₁ : Notes) (u w' : World) (sized : Sized n w) (closes : Closes (state_of n w) k r (state_of n₁ u)) (after : AllSpared u.memory w'.memory) (block : w'.block ≡ u.block) where
  without : open_at n k ≡ None → (j : ℕ) (fs : List Found) → Holds n.sizes w j fs → Kept n.sizes j w w' fs
  without none j fs h = idle_kept n.sizes j w u w' fs h (is (cases_lt k n.sizes.cores)) after block
    where
      is : (k < n.sizes.cores) ⊎ (n.sizes.cores ≤ k) → u ≡ w
      is (inl lt) = same_world (closes.none lt none).1
      is (inr le) = same_world (closes.missing le).1

  module _ (o : OpenRecord) (is : open_at n k ≡ Some o) (own : Own n w.block k o) where
    with_open : 1 ≤ o.count → (fs : List Found) → Holds n.sizes w k fs → Closing (state_of n w) k r w' o fs
    with_open some fs h = go (cases_lt k n.sizes.cores)
      where
        go : (k < n.sizes.cores) ⊎ (n.sizes.cores ≤ k) → Closing (state_of n w) k r w' o fs
        go (inl lt) =
            let (_, _, few) = fits_parts o (subst (λ (x : Option OpenRecord). open_fits x ≡ true) is (sized.opens k)) in
            let x =
            closing_kept n.sizes (entry_at w.block k) (before_at n k) k o sized.bounded lt own.proper some (omega arith) w u w' r fs
            (omega (arith, sized.block)) refl h (closes.some lt o is).ran after block
            in
            record { closed = x.0; refused = x.1 }
        go (inr le) =
            let x = closes.missing le in
            record { closed = λ q. cc (q, x.0); refused = λ _ _. idle_kept n.sizes k w u w' fs h (same_world x.1) after block }

    others_with : OthersKept (state_of n w) k w'
    others_with j gs ne g = go (cases_lt k n.sizes.cores)
      where
        go : (k < n.sizes.cores) ⊎ (n.sizes.cores ≤ k) → Kept n.sizes j w w' gs
        go (inl lt) =
            closing_others n.sizes (entry_at w.block k) (before_at n k) k o w u w' r own.proper.next.slot (closes.some lt o is).ran after block j gs ne
            (own.unclaimed j ne) g
        go (inr le) = idle_kept n.sizes j w u w' gs g (same_world (closes.missing le).1) after block

  others : Tidy n w.block → OthersKept (state_of n w) k w'
  others tidy = go (open_at n k) refl
    where
      go : (x : Option OpenRecord) → open_at n k ≡ x → OthersKept (state_of n w) k w'
      go None is = λ j gs _ g. without is j gs g
      go (Some o) is = others_with o is (tidy.opened k o is).1

  pub close_found : SurvivesClose (state_of n w) k r w'
  close_found =
      record {
        none = without;
        some = λ o is fs h. let x = h.tidy.opened k o is in with_open o is x.1 x.0 fs h.holds;
        others = others;
      }

pub survives_close : (n : Notes) (w : World) (k : ℕ) (r : Result Unit LogFault) (n' : Notes) (w' : World) → Sized n w → ClosesAndCuts (state_of n w) k r (state_of n' w')
    → SurvivesClose (state_of n w) k r w'
survives_close n w k r n' w' sized did =
    close_found n w k r did.between.notes did.between.world w' sized did.closes
    (cuts_spared did.between.world.memory w'.memory did.cuts.memory) did.cuts.block
