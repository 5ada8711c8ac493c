-- An append, whether power goes after it or not: the record is found first if the entry was its seventh and the answer Ok.
use Rattle.std.proofs.Common.{◌≡◌, ℕ, ◌+◌, ◌<◌, ◌≤◌, Bool, true, false, cond, eqb, ◌⊎◌, List, [], ◌∷◌, length, get_or, set, Some, None, Err, Option, Result, sym, refl, ap, ◌∙◌, subst, inl, inr, ⊎_elim, add-one, arith}
use Rattle.std.proofs.lemmas.List.{get_or-set_same, get_or-set_other, length-set}
use Rattle.std.proofs.lemmas.Bool.{cases_lt, cases_eq, eq-eqb, ne_eqb, cond-true, cond-false}
use Rattle.memory.specs.Meaning.{Meaning, Line, Wrote, content_at}
use Rattle.layout.specs.declared.block.BlockEntry.{BlockEntry}
use Rattle.layout.specs.declared.open.OpenRecord.{OpenRecord}
use Rattle.layout.specs.declared.sizes.Sizes.{Sizes}
use Rattle.layout.specs.Block.{entry_at, has}
use Rattle.layout.specs.Places.{in_log, entry_line}
use Rattle.layout.specs.Sizes.{data_lines_of}
use Rattle.undo_log.specs.declared.fault.LogFault.{LogFault}
use Rattle.undo_log.specs.Append.{appending, Appends}
use Rattle.undo_log.specs.Closing.{state_of, Notes, before_at, record_place, closing}
use Rattle.undo_log.specs.Open.{open_fits, opening, next_record, log_target, with_line}
use Rattle.undo_log.specs.Steps.{World, Step, Ran}
use Rattle.undo_log.proofs.Targets.{fits_parts}
use Rattle.recovery.specs.Undone.{entries_from, entries_of}
use Rattle.recovery.specs.declared.walk.Found.{Found}
use Rattle.survival.specs.Held.{Holds, Kept}
use Rattle.survival.specs.Orderly.{Own, Tidy}
use Rattle.survival.specs.Proper.{Proper, found_of}
use Rattle.survival.specs.Survives.{AppendsAndCuts, OthersKept, Appending, SurvivesAppend}
use Rattle.survival.proofs.Alike.{entries_from_alike}
use Rattle.survival.proofs.Closes.{closing_kept, closing_others, idle_kept}
use Rattle.survival.proofs.Keeps.{kept, then_kept, Unplaced, next_unplaced, foreign_unplaced, others_spared}
use Rattle.survival.proofs.Sized.{Sized, same_world}
use Rattle.survival.proofs.Spared.{Spared, AllSpared, then_spared, cuts_spared}
use Rattle.survival.proofs.Steps.{Stopped, Wrote-on, write_ran}
use Rattle.survival.proofs.Targets.{target_own}
use Rattle.std.specs.Option.{option_map, option_or}

-- ---- the record that takes an entry has room for it

first_few : (f : Option ℕ) (o : OpenRecord) → option_map (λ b. opening b 0) f ≡ Some o → o.count < 7
first_few None o q = cc
first_few (Some b) o q = let z : o.count ≡ 0 = cc in omega arith

next_few : (t : Bool) (b r : ℕ) (f : Option ℕ) (o : OpenRecord) → cond t (Some (opening b r)) (option_map (λ b. opening b 0) f) ≡ Some o → o.count < 7
next_few true b r f o q = let z : o.count ≡ 0 = cc in omega arith
next_few false b r f o q = first_few f o q

pub target_few : (s : Sizes) (block : List BlockEntry) (opens : List (Option OpenRecord)) (k : ℕ) (o : OpenRecord) → open_fits (get_or opens k None) ≡ true
    → log_target s block opens k ≡ Some o → o.count < 7
target_few s block opens k o = go (get_or opens k None)
  where
    go : (x : Option OpenRecord) → open_fits x ≡ true → option_or x (next_record s block opens (entry_at block k)) ≡ Some o → o.count < 7
    go None h q = next_few (in_log s (entry_at block k).current (entry_at block k).closed) _ _ _ o q
    go (Some p) h q = let (_, _, few) = fits_parts p h in let z : p.count ≡ o.count = cc in omega arith

-- ---- one more entry

pub proper_more : (s : Sizes) (e : BlockEntry) (was : ℕ) (o : OpenRecord) (l : ℕ) → l < data_lines_of s → o.count < 7 → Proper s e was o → Proper s e was (with_line o l)
proper_more s e was o l h few p =
    record {
      sound = p.sound;
      next = p.next;
      seven = length-set o.lines o.count l ∙ p.seven;
      used = λ i lt. used i lt (cases_eq i o.count);
      unused = λ i le. get_or-set_other o.lines o.count i l 0 (λ q. omega arith) ∙ p.unused i (omega arith);
      first = p.first;
      later = p.later;
    }
  where
    used : (i : ℕ) → i < o.count + 1 → (i ≡ o.count) ⊎ (i ≡ o.count → ⊥) → get_or (set o.lines o.count l) i 0 < data_lines_of s
    used i lt (inl q) =
        subst (λ (j : ℕ). get_or (set o.lines o.count l) j 0 < data_lines_of s) (sym q)
        (subst (λ (x : ℕ). x < data_lines_of s) (sym (get_or-set_same o.lines o.count l 0 (omega (arith, p.seven)))) h)
    used i lt (inr q) = subst (λ (x : ℕ). x < data_lines_of s) (sym (get_or-set_other o.lines o.count i l 0 q)) (p.used i (omega arith))

-- its entries once it is written: the new one first
entries_more : (s : Sizes) (e : BlockEntry) (was k : ℕ) (o : OpenRecord) (l : ℕ) (c : Line) (m m' : Meaning) → length o.lines ≡ 7 → o.count < 7
    → entry_line s o.id.bucket o.id.slot (o.count + 1) < length m.lines → Wrote m (entry_line s o.id.bucket o.id.slot (o.count + 1)) c m'
    → entries_from s (content_at m') (found_of s e was k (with_line o l)) (o.count + 1)
    ≡ record { line = l; content = c } ∷ entries_from s (content_at m) (found_of s e was k (with_line o l)) o.count
unfolding entries_from
entries_more s e was k o l c m m' seven few inside wrote =
    let here : content_at m' (entry_line s o.id.bucket o.id.slot (o.count + 1)) ≡ c =
    ap (λ (ls : List Line). get_or ls (entry_line s o.id.bucket o.id.slot (o.count + 1)) []) wrote.content
    ∙ get_or-set_same m.lines (entry_line s o.id.bucket o.id.slot (o.count + 1)) c [] inside
    in
    let line : get_or (set o.lines o.count l) o.count 0 ≡ l = get_or-set_same o.lines o.count l 0 (omega arith) in
    let rest =
    entries_from_alike s (content_at m) (content_at m') (found_of s e was k (with_line o l)) o.count
    (λ i lt.
    ap (λ (ls : List Line). get_or ls (entry_line s o.id.bucket o.id.slot (i + 1)) []) wrote.content
    ∙ get_or-set_other m.lines (entry_line s o.id.bucket o.id.slot (o.count + 1)) (entry_line s o.id.bucket o.id.slot (i + 1)) c [] (λ q. omega arith))
    in
    ap (entries_from s (content_at m') (found_of s e was k (with_line o l))) (add-one o.count)
    ∙ cc (here, line, rest)

-- ---- all outcomes of the steps

-- The steps of an append end in one of three ways: power goes at the entry, the record has room left, or it is closed.
module _ {T : Type 0} (s : Sizes) (e : BlockEntry) (was k l : ℕ) (c : Line) (o : OpenRecord) (w : World) (r : Result Unit LogFault) (u : World)
    (stopped : Stopped w (entry_line s o.id.bucket o.id.slot (o.count + 1)) r u → T)
    (unfilled : (o.count + 1 ≡ 7 → ⊥) → Wrote-on [] w (entry_line s o.id.bucket o.id.slot (o.count + 1)) c r u → T)
    (filled : o.count + 1 ≡ 7 → Wrote-on (closing s e was k (with_line o l)) w (entry_line s o.id.bucket o.id.slot (o.count + 1)) c r u → T) where
  wrote : Wrote-on (cond (eqb (o.count + 1) 7) (closing s e was k (with_line o l)) []) w (entry_line s o.id.bucket o.id.slot (o.count + 1)) c r u → T
  wrote x =
      ⊎_elim (λ (q : o.count + 1 ≡ 7). filled q (taken _ (cond-true _ _ _ (eq-eqb (o.count + 1) 7 q))))
      (λ (q : o.count + 1 ≡ 7 → ⊥). unfilled q (taken _ (cond-false _ _ _ (ne_eqb (o.count + 1) 7 q)))) (cases_eq (o.count + 1) 7)
    where
      taken : (ss : List Step) → cond (eqb (o.count + 1) 7) (closing s e was k (with_line o l)) [] ≡ ss
          → Wrote-on ss w (entry_line s o.id.bucket o.id.slot (o.count + 1)) c r u
      taken ss e = subst (λ (ss : List Step). Wrote-on ss w (entry_line s o.id.bucket o.id.slot (o.count + 1)) c r u) e x

  pub append_ways : Ran (appending s e was k o l c) w r u → T
  append_ways ran = ⊎_elim stopped wrote (write_ran (entry_line s o.id.bucket o.id.slot (o.count + 1)) c (record_place k o) _ w r u ran)

module _ (n : Notes) (w : World) (k l : ℕ) (c : Line) (r : Result Unit LogFault) (u w' : World) (sized : Sized n w) (after : AllSpared u.memory w'.memory) (block : w'.block ≡ u.block) (o : OpenRecord) (core : k < n.sizes.cores) (data_line : l < data_lines_of n.sizes) (few : o.count < 7) (own : Own n w.block k o) where
  p : Proper n.sizes (entry_at w.block k) (before_at n k) o
  p = own.proper

  -- the line that is written is no closed record's, of this core or of another
  still : (w'' : World) (j : ℕ) (gs : List Found) → w''.block ≡ w.block → Unplaced n.sizes (entry_at w.block j) o.id.bucket o.id.slot
      → ((i : ℕ) → (i ≡ entry_line n.sizes o.id.bucket o.id.slot (o.count + 1) → ⊥) → Spared w.memory w''.memory i)
      → Holds n.sizes w j gs → Kept n.sizes j w w'' gs
  still w'' j gs is free spared g =
      kept n.sizes j w w'' gs g (ap (λ (es : List BlockEntry). entry_at es j) is)
      (others_spared n.sizes (entry_at w.block j) o.id.bucket o.id.slot (o.count + 1) w.memory w''.memory gs free p.next.slot (omega arith)
      spared g.placed)

  still_stopped : Stopped w (entry_line n.sizes o.id.bucket o.id.slot (o.count + 1)) r u → (j : ℕ) (gs : List Found)
      → Unplaced n.sizes (entry_at w.block j) o.id.bucket o.id.slot → Holds n.sizes w j gs → Kept n.sizes j w w' gs
  still_stopped x j gs free g =
      still w' j gs (block ∙ x.block) free (λ i ne. then_spared w.memory u.memory w'.memory i (x.spared i ne) (after i)) g

  still_wrote : Wrote-on [] w (entry_line n.sizes o.id.bucket o.id.slot (o.count + 1)) c r u → (j : ℕ) (gs : List Found)
      → Unplaced n.sizes (entry_at w.block j) o.id.bucket o.id.slot → Holds n.sizes w j gs → Kept n.sizes j w w' gs
  still_wrote x j gs free g =
      let m = still x.mid j gs x.block free x.spared g in
      then_kept n.sizes j w x.mid w' gs m (idle_kept n.sizes j x.mid u w' gs m.holds x.rest.1 after block)

  appended_others : Ran (appending n.sizes (entry_at w.block k) (before_at n k) k o l c) w r u → OthersKept (state_of n w) k w'
  appended_others ran j gs ne g =
      append_ways n.sizes (entry_at w.block k) (before_at n k) k l c o w r u (λ x. still_stopped x j gs foreign g) (λ _ x. still_wrote x j gs foreign g)
      (λ _ x. filled x) ran
    where
      foreign : Unplaced n.sizes (entry_at w.block j) o.id.bucket o.id.slot
      foreign = foreign_unplaced n.sizes (entry_at w.block j) o.id.bucket o.id.slot (own.unclaimed j ne)

      filled : Wrote-on (closing n.sizes (entry_at w.block k) (before_at n k) k (with_line o l)) w (entry_line n.sizes o.id.bucket o.id.slot (o.count + 1)) c r u
          → Kept n.sizes j w w' gs
      filled x =
          let m = still x.mid j gs x.block foreign x.spared g in
          then_kept n.sizes j w x.mid w' gs m
          (closing_others n.sizes (entry_at w.block k) (before_at n k) k (with_line o l) x.mid u w' r p.next.slot x.rest after block j gs ne
          (subst (λ (es : List BlockEntry). has (entry_at es j).vector o.id.bucket ≡ false) (sym x.block) (own.unclaimed j ne)) m.holds)

  module _ (fs : List Found) (h : Holds n.sizes w k fs) where
    here : Unplaced n.sizes (entry_at w.block k) o.id.bucket o.id.slot
    here = next_unplaced n.sizes (entry_at w.block k) o.id.bucket o.id.slot p.next

    stopped : Stopped w (entry_line n.sizes o.id.bucket o.id.slot (o.count + 1)) r u → Appending (state_of n w) k l c r w' o fs
    stopped x =
        record {
          closed = λ q _. cc;
          entries = λ q _. cc;
          unclosed = λ q _. cc;
          refused = λ _ _. still_stopped x k fs here h;
        }

    unfilled : (o.count + 1 ≡ 7 → ⊥) → Wrote-on [] w (entry_line n.sizes o.id.bucket o.id.slot (o.count + 1)) c r u → Appending (state_of n w) k l c r w' o fs
    unfilled ne x =
        record {
          closed = λ _ q. absurd (omega arith);
          entries = λ _ q. absurd (omega arith);
          unclosed = λ _ _. still_wrote x k fs here h;
          refused = λ e q. cc (q, x.rest.0);
        }

    filled : o.count + 1 ≡ 7
        → Wrote-on (closing n.sizes (entry_at w.block k) (before_at n k) k (with_line o l)) w (entry_line n.sizes o.id.bucket o.id.slot (o.count + 1)) c r u
        → Appending (state_of n w) k l c r w' o fs
    unfolding entries_of
    filled is x =
        let m = still x.mid k fs x.block here x.spared h in
        let y =
        closing_kept n.sizes (entry_at w.block k) (before_at n k) k (with_line o l) sized.bounded core
        (proper_more n.sizes (entry_at w.block k) (before_at n k) o l data_line few p) (omega arith) (omega arith) x.mid u w' r fs
        (omega (arith, sized.block, ap length x.block)) (ap (λ (es : List BlockEntry). entry_at es k) x.block) m.holds x.rest after block
        in
        record {
          closed = λ q _. (y.0 q).holds;
          entries =
              λ q six.
              let z =
              entries_more n.sizes (entry_at w.block k) (before_at n k) k o l c w.memory x.mid.memory p.seven few x.inside x.wrote
              in
              let a = (y.0 q).same in
              let b = m.same in
              cc (z, a, b);
          unclosed = λ _ q. absurd (omega arith);
          refused = λ e q. then_kept n.sizes k w x.mid w' fs m (y.1 e q);
        }

    appended : Ran (appending n.sizes (entry_at w.block k) (before_at n k) k o l c) w r u → Appending (state_of n w) k l c r w' o fs
    appended ran = append_ways n.sizes (entry_at w.block k) (before_at n k) k l c o w r u stopped unfilled filled ran

-- ---- the call

module _ (n : Notes) (w : World) (k l : ℕ) (c : Line) (r : Result Unit LogFault) (n₁ : Notes) (u w' : World) (sized : Sized n w) (appends : Appends (state_of n w) k l c r (state_of n₁ u)) (after : AllSpared u.memory w'.memory) (block : w'.block ≡ u.block) where
  declined : (x : LogFault) → (r ≡ Err x) × (state_of n₁ u ≡ state_of n w) → (j : ℕ) (fs : List Found) → Holds n.sizes w j fs
      → Kept n.sizes j w w' fs
  declined x t j fs h = idle_kept n.sizes j w u w' fs h (same_world t.1) after block

  without : log_target n.sizes w.block n.opens k ≡ None → (j : ℕ) (fs : List Found) → Holds n.sizes w j fs → Kept n.sizes j w w' fs
  without none = go (cases_lt k n.sizes.cores) (cases_lt l (data_lines_of n.sizes))
    where
      go : (k < n.sizes.cores) ⊎ (n.sizes.cores ≤ k) → (l < data_lines_of n.sizes) ⊎ (data_lines_of n.sizes ≤ l)
          → (j : ℕ) (fs : List Found) → Holds n.sizes w j fs → Kept n.sizes j w w' fs
      go (inl a) (inl b) = declined _ (appends.full a b none)
      go (inl a) (inr b) = declined _ (appends.outside a b)
      go (inr a) b = declined _ (appends.missing a)

  module _ (o : OpenRecord) (is : log_target n.sizes w.block n.opens k ≡ Some o) (own : Own n w.block k o) where
    few : o.count < 7
    few = target_few n.sizes w.block n.opens k o (sized.opens k) is

    with_target : (fs : List Found) → Holds n.sizes w k fs → Appending (state_of n w) k l c r w' o fs
    with_target fs h = go (cases_lt k n.sizes.cores) (cases_lt l (data_lines_of n.sizes))
      where
        none : (x : LogFault) → (r ≡ Err x) × (state_of n₁ u ≡ state_of n w) → Appending (state_of n w) k l c r w' o fs
        none x t =
            record {
              closed = λ q _. cc (q, t.0);
              entries = λ q _. cc (q, t.0);
              unclosed = λ q _. cc (q, t.0);
              refused = λ _ _. declined x t k fs h;
            }

        go : (k < n.sizes.cores) ⊎ (n.sizes.cores ≤ k) → (l < data_lines_of n.sizes) ⊎ (data_lines_of n.sizes ≤ l) → Appending (state_of n w) k l c r w' o fs
        go (inl a) (inl b) = appended n w k l c r u w' sized after block o a b few own fs h (appends.some a b o is).ran
        go (inl a) (inr b) = none _ (appends.outside a b)
        go (inr a) b = none _ (appends.missing a)

    others_with : OthersKept (state_of n w) k w'
    others_with j gs ne g = go (cases_lt k n.sizes.cores) (cases_lt l (data_lines_of n.sizes))
      where
        go : (k < n.sizes.cores) ⊎ (n.sizes.cores ≤ k) → (l < data_lines_of n.sizes) ⊎ (data_lines_of n.sizes ≤ l) → Kept n.sizes j w w' gs
        go (inl a) (inl b) = appended_others n w k l c r u w' sized after block o a b few own (appends.some a b o is).ran j gs ne g
        go (inl a) (inr b) = declined _ (appends.outside a b) j gs g
        go (inr a) b = declined _ (appends.missing a) j gs g

  others : Tidy n w.block → OthersKept (state_of n w) k w'
  others tidy = go (log_target n.sizes w.block n.opens k) refl
    where
      go : (x : Option OpenRecord) → log_target n.sizes w.block n.opens k ≡ x → OthersKept (state_of n w) k w'
      go None is = λ j gs _ g. without is j gs g
      go (Some o) is = others_with o is (target_own n w.block k tidy sized.bounded.buckets o is)

  pub append_found : SurvivesAppend (state_of n w) k l c r w'
  append_found =
      record {
        none = without;
        some = λ o is fs h. with_target o is (target_own n w.block k h.tidy sized.bounded.buckets o is) fs h.holds;
        others = others;
      }

pub survives_append : (n : Notes) (w : World) (k l : ℕ) (c : Line) (r : Result Unit LogFault) (n' : Notes) (w' : World) → Sized n w
    → AppendsAndCuts (state_of n w) k l c r (state_of n' w') → SurvivesAppend (state_of n w) k l c r w'
survives_append n w k l c r n' w' sized did =
    append_found n w k l c r did.between.notes did.between.world w' sized did.appends
    (cuts_spared did.between.world.memory w'.memory did.cuts.memory) did.cuts.block
