-- Lines with queued writes put in: what is read, what moving down and cutting keep.
use Rattle.std.proofs.Common.{◌≡◌, ℕ, suc, ◌<◌, Bool, true, false, cond, eqb, ◌≢◌, ◌⊎◌, List, [], ◌∷◌, ◌++◌, map, reverse, length, get_or, take, drop, set, Some, None, Option, unwrap_or, sym, refl, ap, ◌∙◌, inl, inr, arith, length-set, eq-eqb, ne_eqb}
use Rattle.std.specs.List.{AllByRecursion as All, find}
use Rattle.std.specs.Option.{option_map, option_or}
use Rattle.std.proofs.ByRecursion.{All-take}
use Rattle.std.proofs.lemmas.List.{reverse-append, get_or-set_same, get_or-set_other, set-set, set_comm, take-append-drop}
use Rattle.std.proofs.lemmas.List.Folds.{find-append}
use Rattle.std.proofs.lemmas.Bool.{cases_eq, or_parts}
use Rattle.lines.specs.Lines.{Line, count_of, line_of, with_line, lines_of, rest_of}
use Rattle.lines.proofs.Rows.{line_length, with_length, with_lines, with_rest, torn_length}
use Rattle.queued.specs.declared.slot.Slot.{Slot}
use Rattle.queued.specs.declared.fate.Fate.{Fate}
use Rattle.queued.specs.declared.fate.Fate.TheVariants.{Old, New, Torn, Other}
use Rattle.queued.specs.Slots.{slot, is_queued, newest, renewed}
use Rattle.queued.specs.Fates.{fate_at, survivor}
use Rattle.queued.specs.Below.{overlaid, moved, cut_down}
use Rattle.queued.specs.Sound.{Full}

pub overlaid_none : (ls : List Line) → overlaid ls [] ≡ ls
unfolding overlaid
overlaid_none ls = refl

overlaid-++ : (ls : List Line) (es fs : List Slot) → overlaid ls (es ++ fs) ≡ overlaid (overlaid ls es) fs
unfolding overlaid
overlaid-++ ls [] fs = refl
overlaid-++ ls (e ∷ es) fs = overlaid-++ (set ls e.line e.content) es fs

unlike : (m n : ℕ) → eqb m n ≡ false → n ≢ m
unlike m n e q = let t : eqb m n ≡ true = eq-eqb m n (sym q) in absurd (grind arith)

-- a line that is not queued reads as below
pub overlaid_other : (ls : List Line) (es : List Slot) (l : ℕ) → is_queued es l ≡ false → get_or (overlaid ls es) l [] ≡ get_or ls l []
unfolding overlaid
overlaid_other ls [] l e = refl
overlaid_other ls (f ∷ es) l e =
    overlaid_other (set ls f.line f.content) es l (or_parts (eqb f.line l) (is_queued es l) e).1
    ∙ get_or-set_other ls f.line l f.content [] (unlike f.line l (or_parts (eqb f.line l) (is_queued es l) e).0)

-- a line reads as its newest entry, else as below
newest_next : (e : Slot) (es : List Slot) (l : ℕ) → newest (e ∷ es) l ≡ option_or (newest es l) (cond (eqb e.line l) (Some e.content) None)
newest_next e es l =
    ap (option_map (λ x. x.content)) (ap (find (λ x. eqb x.line l)) (reverse-append (e ∷ []) es) ∙ find-append (λ x. eqb x.line l) (reverse es) (e ∷ []))
    ∙ go (find (λ x. eqb x.line l) (reverse es)) (eqb e.line l)
  where
    go : (o : Option Slot) (b : Bool) → option_map (λ x. x.content) (option_or o (cond b (Some e) None)) ≡ option_or (option_map (λ x. x.content) o) (cond b (Some e.content) None)
    go None true = refl
    go None false = refl
    go (Some x) b = refl

unwrap_or_or : {A : Type 0} (o p : Option A) (d : A) → unwrap_or (option_or o p) d ≡ unwrap_or o (unwrap_or p d)
unwrap_or_or None p d = refl
unwrap_or_or (Some x) p d = refl

pub overlaid_newest : (ls : List Line) (es : List Slot) (l : ℕ) → l < length ls → get_or (overlaid ls es) l [] ≡ unwrap_or (newest es l) (get_or ls l [])
unfolding overlaid
overlaid_newest ls [] l h = refl
overlaid_newest ls (f ∷ es) l h =
    overlaid_newest (set ls f.line f.content) es l (omega (arith, length-set ls f.line f.content))
    ∙ (ap (unwrap_or (newest es l)) (go (cases_eq f.line l)) ∙ sym (ap (λ o. unwrap_or o (get_or ls l [])) (newest_next f es l) ∙ unwrap_or_or (newest es l) (cond (eqb f.line l) (Some f.content) None) (get_or ls l [])))
  where
    go : (f.line ≡ l) ⊎ (f.line ≢ l) → get_or (set ls f.line f.content) l [] ≡ unwrap_or (cond (eqb f.line l) (Some f.content) None) (get_or ls l [])
    go (inl q) = rw (eq-eqb f.line l q, q, get_or-set_same ls l f.content [] h) refl
    go (inr n) = rw (ne_eqb f.line l n) (get_or-set_other ls f.line l f.content [] (λ p. n (sym p)))

-- moving entries down changes what lies below, and no more
pub moved_length : (bs : List ℕ) (es : List Slot) → All Full es → length (moved bs es) ≡ length bs
unfolding moved
moved_length bs [] a = refl
moved_length bs (e ∷ es) a = moved_length (with_line bs e.line e.content) es a.1 ∙ with_length bs e.line e.content (λ _. a.0)

pub moved_lines : (bs : List ℕ) (es : List Slot) → All Full es → lines_of (moved bs es) ≡ overlaid (lines_of bs) es
unfolding moved overlaid
moved_lines bs [] a = refl
moved_lines bs (e ∷ es) a =
    moved_lines (with_line bs e.line e.content) es a.1
    ∙ ap (λ (ls : List Line). overlaid ls es) (with_lines bs e.line e.content (λ _. a.0))

pub moved_rest : (bs : List ℕ) (es : List Slot) → All Full es → rest_of (moved bs es) ≡ rest_of bs
unfolding moved
moved_rest bs [] a = refl
moved_rest bs (e ∷ es) a = moved_rest (with_line bs e.line e.content) es a.1 ∙ with_rest bs e.line e.content (λ _. a.0)

-- what a fate leaves is 64 bytes
survivor_length : (f : Fate) (old new : Line) → length old ≡ 64 → length new ≡ 64 → length (survivor f old new) ≡ 64
survivor_length Old old new p q = p
survivor_length New old new p q = q
survivor_length Torn old new p q = torn_length old new p q
survivor_length Other old new p q = refl

module _ (choice : ℕ) where
  left_length : (i : ℕ) (bs : List ℕ) (e : Slot) → Full e → e.line < count_of bs → length (survivor (fate_at choice i) (line_of bs e.line) e.content) ≡ 64
  left_length i bs e f h = survivor_length (fate_at choice i) (line_of bs e.line) e.content (line_length bs e.line h) f

  pub cut_length : (i : ℕ) (bs : List ℕ) (es : List Slot) → All Full es → length (cut_down choice i bs es) ≡ length bs
  unfolding cut_down
  cut_length i bs [] a = refl
  cut_length i bs (e ∷ es) a =
      cut_length (suc i) (with_line bs e.line (survivor (fate_at choice i) (line_of bs e.line) e.content)) es a.1
      ∙ with_length bs e.line (survivor (fate_at choice i) (line_of bs e.line) e.content) (left_length i bs e a.0)

  pub cut_rest : (i : ℕ) (bs : List ℕ) (es : List Slot) → All Full es → rest_of (cut_down choice i bs es) ≡ rest_of bs
  unfolding cut_down
  cut_rest i bs [] a = refl
  cut_rest i bs (e ∷ es) a =
      cut_rest (suc i) (with_line bs e.line (survivor (fate_at choice i) (line_of bs e.line) e.content)) es a.1
      ∙ with_rest bs e.line (survivor (fate_at choice i) (line_of bs e.line) e.content) (left_length i bs e a.0)

  -- a cut changes no line that is not queued
  pub cut_other : (i : ℕ) (bs : List ℕ) (es : List Slot) (l : ℕ) → All Full es → is_queued es l ≡ false → get_or (lines_of (cut_down choice i bs es)) l [] ≡ get_or (lines_of bs) l []
  unfolding cut_down
  cut_other i bs [] l a e = refl
  cut_other i bs (f ∷ es) l a e =
      cut_other (suc i) (with_line bs f.line (survivor (fate_at choice i) (line_of bs f.line) f.content)) es l a.1 (or_parts (eqb f.line l) (is_queued es l) e).1
      ∙ (ap (λ (ls : List Line). get_or ls l []) (with_lines bs f.line (survivor (fate_at choice i) (line_of bs f.line) f.content) (left_length i bs f a.0))
      ∙ get_or-set_other (lines_of bs) f.line l (survivor (fate_at choice i) (line_of bs f.line) f.content) [] (unlike f.line l (or_parts (eqb f.line l) (is_queued es l) e).0))

-- put in under all entries, the content comes out on top of them, if they are renewed
renewed_under : (l : ℕ) (c : Line) (ls : List Line) (es : List Slot) → overlaid (set ls l c) (map (renewed l c) es) ≡ set (overlaid ls es) l c
unfolding overlaid
renewed_under l c ls [] = refl
renewed_under l c ls (e ∷ es) = go (cases_eq e.line l) (λ ks. renewed_under l c ks es)
  where
    go : (e.line ≡ l) ⊎ (e.line ≢ l) → ((ks : List Line) → overlaid (set ks l c) (map (renewed l c) es) ≡ set (overlaid ks es) l c) → overlaid (set (set ls l c) (renewed l c e).line (renewed l c e).content) (map (renewed l c) es) ≡ set (overlaid (set ls e.line e.content) es) l c
    go (inl q) ih =
        rw (eq-eqb e.line l q, q) (ap (λ (ks : List Line). overlaid ks (map (renewed l c) es)) (set-set ls l c c ∙ sym (set-set ls l e.content c)) ∙ ih (set ls l e.content))
    go (inr n) ih =
        rw (ne_eqb e.line l n) (ap (λ (ks : List Line). overlaid ks (map (renewed l c) es)) (sym (set_comm ls e.line l e.content c n)) ∙ ih (set ls e.line e.content))

renewed_top : (l : ℕ) (c : Line) (ls : List Line) (es : List Slot) → is_queued es l ≡ true → overlaid ls (map (renewed l c) es) ≡ overlaid (set ls l c) (map (renewed l c) es)
unfolding overlaid
renewed_top l c ls [] h = absurd (grind arith)
renewed_top l c ls (e ∷ es) h = go (cases_eq e.line l) (λ ks g. renewed_top l c ks es g)
  where
    go : (e.line ≡ l) ⊎ (e.line ≢ l) → ((ks : List Line) → is_queued es l ≡ true → overlaid ks (map (renewed l c) es) ≡ overlaid (set ks l c) (map (renewed l c) es)) → overlaid (set ls (renewed l c e).line (renewed l c e).content) (map (renewed l c) es) ≡ overlaid (set (set ls l c) (renewed l c e).line (renewed l c e).content) (map (renewed l c) es)
    go (inl q) ih = rw (eq-eqb e.line l q) (ap (λ (ks : List Line). overlaid ks (map (renewed l c) es)) (sym (set-set ls l c c)))
    go (inr n) ih =
        let rest : is_queued es l ≡ true = rw (ne_eqb e.line l n) at h in
        rw (ne_eqb e.line l n) (ih (set ls e.line e.content) rest ∙ ap (λ (ks : List Line). overlaid ks (map (renewed l c) es)) (set_comm ls e.line l e.content c n))

pub overlaid_renewed : (l : ℕ) (c : Line) (ls : List Line) (es : List Slot) → is_queued es l ≡ true → overlaid ls (map (renewed l c) es) ≡ set (overlaid ls es) l c
overlaid_renewed l c ls es h = renewed_top l c ls es h ∙ renewed_under l c ls es

overlaid_one : (ls : List Line) (l : ℕ) (c : Line) → overlaid ls (slot l c ∷ []) ≡ set ls l c
unfolding overlaid
overlaid_one ls l c = refl

-- entering: the oldest k moved down, and one more behind the others
pub overlaid_entered : (bs : List ℕ) (es : List Slot) (k l : ℕ) (c : Line) → All Full es → overlaid (lines_of (moved bs (take k es))) (drop k es ++ (slot l c ∷ [])) ≡ set (overlaid (lines_of bs) es) l c
overlaid_entered bs es k l c a =
    overlaid-++ (lines_of (moved bs (take k es))) (drop k es) (slot l c ∷ [])
    ∙ (overlaid_one (overlaid (lines_of (moved bs (take k es))) (drop k es)) l c
    ∙ ap (λ (ls : List Line). set ls l c)
    (ap (λ (ls : List Line). overlaid ls (drop k es)) (moved_lines bs (take k es) (All-take Full k es a))
    ∙ (sym (overlaid-++ (lines_of bs) (take k es) (drop k es)) ∙ ap (overlaid (lines_of bs)) (take-append-drop k es))))
