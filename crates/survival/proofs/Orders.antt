-- The manager's calls keep a log in order.
use Rattle.std.proofs.Common.{◌≡◌, ℕ, ◌+◌, ◌<◌, ◌≤◌, ◌⊎◌, List, [], set, Some, None, Ok, Err, Option, Result, sym, refl, ap, ◌∙◌, subst, inl, inr, ⊎_elim, arith}
use Rattle.std.proofs.lemmas.Bool.{cases_lt, eq-eqb, ne_eqb, cond-true, cond-false}
use Rattle.memory.specs.Meaning.{Line}
use Rattle.layout.specs.declared.block.BlockEntry.{BlockEntry}
use Rattle.layout.specs.declared.open.OpenRecord.{OpenRecord}
use Rattle.layout.specs.declared.sizes.Sizes.{Sizes}
use Rattle.layout.specs.Block.{entry_at, counting}
use Rattle.layout.specs.Places.{header_line, entry_line}
use Rattle.layout.specs.Sizes.{data_lines_of}
use Rattle.header.specs.Header.{written}
use Rattle.undo_log.specs.declared.fault.LogFault.{LogFault}
use Rattle.undo_log.specs.Append.{appended_notes, AppendsTo, Appends}
use Rattle.undo_log.specs.Closing.{State, state_of, Notes, open_at, before_at, header_of, with_open, closing, closed_notes, Closes}
use Rattle.undo_log.specs.Open.{log_target, with_line}
use Rattle.undo_log.specs.Steps.{World, Ran}
use Rattle.recovery.specs.declared.walk.Found.{Found}
use Rattle.survival.specs.Calls.{OrderlyAppend, OrderlyClose}
use Rattle.survival.specs.Held.{Holds}
use Rattle.survival.specs.Orderly.{Own, Tidy, Orderly}
use Rattle.survival.specs.Survives.{SurvivesClose, SurvivesAppend}
use Rattle.survival.proofs.Appends.{append_ways, append_found, target_few}
use Rattle.survival.proofs.Closes.{close_found}
use Rattle.survival.proofs.Sized.{Sized, same_notes}
use Rattle.survival.proofs.Spared.{AllSpared, same_spared}
use Rattle.survival.proofs.Steps.{Stopped, Entered, Wrote-on, closing_ran}
use Rattle.survival.proofs.Targets.{target_own}
use Rattle.survival.proofs.Tidies.{own_more, tidy_more, tidy_closed}

-- the sizes stay, and all is tidy
pub record Stays (n n' : Notes) (w' : World) : Type 0 where
  pub sizes : n'.sizes ≡ n.sizes
  pub tidy : Tidy n' w'.block

pub unmoved : (n n' : Notes) (w w' : World) → Tidy n w.block → n' ≡ n → w'.block ≡ w.block → Stays n n' w'
unmoved n n' w w' tidy is_n is_b =
    subst (λ (x : Notes). Stays n x w') (sym is_n) (record { sizes = refl; tidy = subst (Tidy n) (sym is_b) tidy })

pub orderly_from : (n n' : Notes) (w' : World) (k : ℕ) (fs : List Found) → Stays n n' w' → Holds n.sizes w' k fs → Orderly (state_of n' w') k fs
orderly_from n n' w' k fs x h = record { tidy = x.tidy; holds = subst (λ (s : Sizes). Holds s w' k fs) (sym x.sizes) h }

pub nothing_after : (w : World) → AllSpared w.memory w.memory
nothing_after w l = same_spared w.memory w.memory l refl

-- ---- closing

module _ (n : Notes) (v w : World) (k : ℕ) (o : OpenRecord) (sized : Sized n v) (core : k < n.sizes.cores) (same : w.block ≡ v.block) (tidy : Tidy n v.block) (own : Own n v.block k o) where
  closing_stays : (r : Result Unit LogFault) (n' : Notes) (w' : World) → Ran (closing n.sizes (entry_at v.block k) (before_at n k) k o) w r w'
      → n' ≡ closed_notes r n (entry_at v.block k) k o → Stays n n' w'
  closing_stays r n' w' ran notes =
      ⊎_elim stopped entered
      (closing_ran (header_line n.sizes o.id.bucket o.id.slot) (written (header_of n.sizes (entry_at v.block k) (before_at n k) k o)) _ _ k
      (counting (entry_at v.block k) o.id.bucket o.id.slot) w r w' ran)
    where
      stopped : Stopped w (header_line n.sizes o.id.bucket o.id.slot) r w' → Stays n n' w'
      stopped x =
          unmoved n n' v w' tidy (notes ∙ ap (λ (q : Result Unit LogFault). closed_notes q n (entry_at v.block k) k o) x.answer) (x.block ∙ same)

      entered : Entered w (header_line n.sizes o.id.bucket o.id.slot) (written (header_of n.sizes (entry_at v.block k) (before_at n k) k o)) k
          (counting (entry_at v.block k) o.id.bucket o.id.slot) r w' → Stays n n' w'
      entered x =
          subst (λ (m : Notes). Stays n m w')
          (sym (notes ∙ ap (λ (q : Result Unit LogFault). closed_notes q n (entry_at v.block k) k o) x.answer))
          (record {
            sizes = refl;
            tidy =
                subst (Tidy (closed_notes (Ok tt) n (entry_at v.block k) k o))
                (sym (x.block ∙ ap (λ (es : List BlockEntry). set es k (counting (entry_at v.block k) o.id.bucket o.id.slot)) same))
                (tidy_closed n v.block k o tidy own sized.bounded.buckets (omega (arith, sized.block)) (omega (arith, sized.opens_long))
                (omega (arith, sized.befores_long)));
          })

module _ (n : Notes) (w : World) (k : ℕ) (r : Result Unit LogFault) (n' : Notes) (w' : World) (sized : Sized n w) (closes : Closes (state_of n w) k r (state_of n' w')) where
  close_stays : Tidy n w.block → Stays n n' w'
  close_stays tidy = ⊎_elim there missing (cases_lt k n.sizes.cores)
    where
      same : state_of n' w' ≡ state_of n w → Stays n n' w'
      same x = unmoved n n' w w' tidy (same_notes x) (ap (λ (s : State). s.world.block) x)

      missing : n.sizes.cores ≤ k → Stays n n' w'
      missing h = same (closes.missing h).1

      go : k < n.sizes.cores → (x : Option OpenRecord) → open_at n k ≡ x → Stays n n' w'
      go h None is = same (closes.none h is).1
      go h (Some o) is = let x = closes.some h o is in closing_stays n w w k o sized h refl tidy (tidy.opened k o is).1 r n' w' x.ran x.notes

      there : k < n.sizes.cores → Stays n n' w'
      there h = go h (open_at n k) refl

  pub orderly_close : OrderlyClose (state_of n w) k r (state_of n' w')
  orderly_close =
      let found = close_found n w k r n' w' w' sized closes (nothing_after w') refl in
      record {
        closed = λ ok o is fs h. orderly_from n n' w' k _ (close_stays h.tidy) ((found.some o is fs h).closed ok).holds;
        idle = λ is fs h. orderly_from n n' w' k fs (close_stays h.tidy) (found.none is k fs h.holds).holds;
        refused = λ x err fs h. orderly_from n n' w' k fs (close_stays h.tidy) (refused found x err fs h (open_at n k) refl);
        others = λ j fs ne h. orderly_from n n' w' j fs (close_stays h.tidy) (found.others h.tidy j fs ne h.holds).holds;
      }
    where
      refused : SurvivesClose (state_of n w) k r w' → (x : LogFault) → r ≡ Err x → (fs : List Found) → Orderly (state_of n w) k fs → (o : Option OpenRecord) → open_at n k ≡ o
          → Holds n.sizes w' k fs
      refused found x err fs h None is = (found.none is k fs h.holds).holds
      refused found x err fs h (Some o) is = ((found.some o is fs h).refused x err).holds

-- ---- appending

appended_filled : (r : Result Unit LogFault) (n : Notes) (e : BlockEntry) (k : ℕ) (o : OpenRecord) (l : ℕ) → o.count + 1 ≡ 7
    → appended_notes r n e k o l ≡ closed_notes r n e k (with_line o l)
appended_filled (Err f) n e k o l q = refl
appended_filled (Ok x) n e k o l q = cond-true _ _ _ (eq-eqb (o.count + 1) 7 q)

module _ (n : Notes) (w : World) (k l : ℕ) (c : Line) (r : Result Unit LogFault) (n' : Notes) (w' : World) (sized : Sized n w) (appends : Appends (state_of n w) k l c r (state_of n' w')) where
  appending_stays : (o : OpenRecord) → k < n.sizes.cores → l < data_lines_of n.sizes → o.count < 7 → Tidy n w.block → Own n w.block k o
      → AppendsTo (state_of n w) k o l c r (state_of n' w') → Stays n n' w'
  appending_stays o core data-line few tidy own did =
      append_ways n.sizes (entry_at w.block k) (before_at n k) k l c o w r w' stopped unfilled filled did.ran
    where
      stopped : Stopped w (entry_line n.sizes o.id.bucket o.id.slot (o.count + 1)) r w' → Stays n n' w'
      stopped x =
          unmoved n n' w w' tidy (did.notes ∙ ap (λ (q : Result Unit LogFault). appended_notes q n (entry_at w.block k) k o l) x.answer) x.block

      unfilled : (o.count + 1 ≡ 7 → ⊥) → Wrote-on [] w (entry_line n.sizes o.id.bucket o.id.slot (o.count + 1)) c r w' → Stays n n' w'
      unfilled ne x =
          subst (λ (m : Notes). Stays n m w')
          (sym (did.notes ∙ ap (λ (q : Result Unit LogFault). appended_notes q n (entry_at w.block k) k o l) x.rest.0
          ∙ cond-false _ _ _ (ne_eqb (o.count + 1) 7 ne)))
          (record {
            sizes = refl;
            tidy =
                subst (Tidy (with_open n k (Some (with_line o l)))) (sym (ap (λ (v : World). v.block) x.rest.1 ∙ x.block))
                (tidy_more n w.block k l o tidy own (omega (arith, sized.opens_long)) data-line few);
          })

      filled : o.count + 1 ≡ 7
          → Wrote-on (closing n.sizes (entry_at w.block k) (before_at n k) k (with_line o l)) w (entry_line n.sizes o.id.bucket o.id.slot (o.count + 1)) c r w'
          → Stays n n' w'
      filled is x =
          closing_stays n w x.mid k (with_line o l) sized core x.block tidy (own_more n w.block k l o data-line few own) r n' w' x.rest
          (did.notes ∙ appended_filled r n (entry_at w.block k) k o l is)

  append_stays : Tidy n w.block → Stays n n' w'
  append_stays tidy = go (cases_lt k n.sizes.cores) (cases_lt l (data_lines_of n.sizes)) (log_target n.sizes w.block n.opens k) refl
    where
      same : state_of n' w' ≡ state_of n w → Stays n n' w'
      same x = unmoved n n' w w' tidy (same_notes x) (ap (λ (s : State). s.world.block) x)

      go : (k < n.sizes.cores) ⊎ (n.sizes.cores ≤ k) → (l < data_lines_of n.sizes) ⊎ (data_lines_of n.sizes ≤ l)
          → (x : Option OpenRecord) → log_target n.sizes w.block n.opens k ≡ x → Stays n n' w'
      go (inl a) (inl b) None is = same (appends.full a b is).1
      go (inl a) (inl b) (Some o) is =
          appending_stays o a b (target_few n.sizes w.block n.opens k o (sized.opens k) is) tidy
          (target_own n w.block k tidy sized.bounded.buckets o is) (appends.some a b o is)
      go (inl a) (inr b) x is = same (appends.outside a b).1
      go (inr a) b x is = same (appends.missing a).1

  pub orderly_append : OrderlyAppend (state_of n w) k l r (state_of n' w')
  orderly_append =
      let found = append_found n w k l c r n' w' w' sized appends (nothing_after w') refl in
      record {
        closed = λ ok o is six fs h. orderly_from n n' w' k _ (append_stays h.tidy) ((found.some o is fs h).closed ok six);
        unclosed = λ ok o is few fs h. orderly_from n n' w' k fs (append_stays h.tidy) ((found.some o is fs h).unclosed ok few).holds;
        refused =
            λ x err fs h.
            orderly_from n n' w' k fs (append_stays h.tidy) (refused found x err fs h (log_target n.sizes w.block n.opens k) refl);
        others = λ j fs ne h. orderly_from n n' w' j fs (append_stays h.tidy) (found.others h.tidy j fs ne h.holds).holds;
      }
    where
      refused : SurvivesAppend (state_of n w) k l c r w' → (x : LogFault) → r ≡ Err x → (fs : List Found) → Orderly (state_of n w) k fs → (o : Option OpenRecord)
          → log_target n.sizes w.block n.opens k ≡ o → Holds n.sizes w' k fs
      refused found x err fs h None is = (found.none is k fs h.holds).holds
      refused found x err fs h (Some o) is = ((found.some o is fs h).refused x err).holds
