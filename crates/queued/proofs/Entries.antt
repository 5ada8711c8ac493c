-- The entries of the queue: entering, renewing in place, taking the oldest out.
use Rattle.std.proofs.Common.{◌≡◌, ℕ, zero, suc, ◌-◌, ◌<◌, ◌≤◌, true, false, cond, not, eqb, ◌≢◌, ◌⊎◌, List, [], ◌∷◌, ◌++◌, map, length, get_or, set, drop, replicate, None, sym, refl, ap, ◌∙◌, inl, inr, arith, length-append, length-drop, length-set, eq-eqb, ne_eqb}
use Rattle.std.specs.List.{AllByRecursion as All, position, position_or_len, refill}
use Rattle.std.proofs.ByRecursion.{All-get_or, All-append, All-set}
use Rattle.std.proofs.Math.Bool.{or-false}
use Rattle.std.proofs.lemmas.Bool.{cases_eq, cases_lt, and_parts, or_parts, not-true}
use Rattle.std.proofs.lemmas.Grind.{common_steps}
use Rattle.std.proofs.lemmas.List.Folds.{list_any-append, list_any_at, list_any_none}
use Rattle.std.proofs.lemmas.List.Sums.{fails_before_first}
use Rattle.std.proofs.lemmas.List.{get_or_past, append-nil, drop_all, take_all}
use Rattle.lines.specs.Lines.{Line}
use Rattle.queued.specs.declared.slot.Slot.{Slot}
use Rattle.queued.specs.Slots.{slot, Whole, is_queued, distinct, renewed}
use Rattle.queued.specs.Sound.{Full, all_of_whole}

pub whole_of_all : (es : List Slot) → All Full es → Whole es
whole_of_all es a i = go (cases_lt i (length es))
  where
    go : (i < length es) ⊎ (length es ≤ i) → length (get_or es i (slot 0 (replicate 64 0))).content ≡ 64
    go (inl h) = All-get_or Full es i (slot 0 (replicate 64 0)) h a
    go (inr h) = rw (get_or_past es i (slot 0 (replicate 64 0)) h) refl

-- a line that stands nowhere is not queued
pub out : (es : List Slot) (l : ℕ) → position (λ e. eqb e.line l) es ≡ None → is_queued es l ≡ false
out es l e =
    let past : length es ≤ position_or_len (λ e. eqb e.line l) es = grind (arith, common_steps) in
    list_any_none (λ e. eqb e.line l) es (λ k d lt. fails_before_first (λ e. eqb e.line l) es k d (omega arith))

-- renewing a line that is not queued changes nothing
pub renewed_none : (l : ℕ) (c : Line) (es : List Slot) → is_queued es l ≡ false → map (renewed l c) es ≡ es
renewed_none l c [] e = refl
renewed_none l c (f ∷ es) e =
    let parts = or_parts (eqb f.line l) (is_queued es l) e in
    rw parts.0 (ap (λ (gs : List Slot). f ∷ gs) (renewed_none l c es parts.1))

-- no line is queued twice: the first entry's line is not queued behind it, nor is any line among the others
distinct_parts : (f : Slot) (es : List Slot) → distinct (f ∷ es) ≡ true → (is_queued es f.line ≡ false) × (distinct es ≡ true)
distinct_parts f es h = let parts = and_parts (not (is_queued es f.line)) (distinct es) h in (not-true (is_queued es f.line) parts.0, parts.1)

-- renewing a line that is queued replaces its one entry
pub renewed_at : (l : ℕ) (c : Line) (es : List Slot) (i : ℕ) (d : Slot) → i < length es → (get_or es i d).line ≡ l → distinct es ≡ true → map (renewed l c) es ≡ set es i (slot l c)
renewed_at l c [] i d h e o = absurd (omega arith)
renewed_at l c (f ∷ es) zero d h e o =
    let none : is_queued es l ≡ false = rw e at (distinct_parts f es o).0 in
    rw (eq-eqb f.line l e, renewed_none l c es none) refl
renewed_at l c (f ∷ es) (suc i) d h e o =
    let there : is_queued es l ≡ true = list_any_at (λ x. eqb x.line l) es i d (omega arith) (eq-eqb _ l e) in
    let other : f.line ≢ l = λ q. let none : is_queued es l ≡ false = rw q at (distinct_parts f es o).0 in absurd (grind arith) in
    rw (ne_eqb f.line l other, renewed_at l c es i d (omega arith) e (distinct_parts f es o).1) refl

-- renewing leaves every line in its place
renewed_line : (l : ℕ) (c : Line) (e : Slot) → (renewed l c e).line ≡ e.line
renewed_line l c e = go (cases_eq e.line l)
  where
    go : (e.line ≡ l) ⊎ (e.line ≢ l) → (cond (eqb e.line l) (slot l c) e).line ≡ e.line
    go (inl q) = rw (eq-eqb e.line l q) (sym q)
    go (inr n) = rw (ne_eqb e.line l n) refl

pub queued_renewed : (l : ℕ) (c : Line) (es : List Slot) (k : ℕ) → is_queued (map (renewed l c) es) k ≡ is_queued es k
queued_renewed l c [] k = refl
queued_renewed l c (e ∷ es) k = rw (renewed_line l c e, queued_renewed l c es k) refl

pub distinct_renewed : (l : ℕ) (c : Line) (es : List Slot) → distinct (map (renewed l c) es) ≡ distinct es
distinct_renewed l c [] = refl
distinct_renewed l c (e ∷ es) = rw (queued_renewed l c es (renewed l c e).line, renewed_line l c e, distinct_renewed l c es) refl

pub distinct_push : (es : List Slot) (l : ℕ) (c : Line) → is_queued es l ≡ false → distinct es ≡ true → distinct (es ++ (slot l c ∷ [])) ≡ true
distinct_push [] l c away h = refl
distinct_push (e ∷ es) l c away h =
    let apart = or_parts (eqb e.line l) (is_queued es l) away in
    let ne : l ≢ e.line = λ q. let t : eqb e.line l ≡ true = eq-eqb e.line l (sym q) in absurd (grind arith) in
    let here : is_queued (es ++ (slot l c ∷ [])) e.line ≡ is_queued es e.line = list_any-append (λ x. eqb x.line e.line) es (slot l c ∷ []) ∙ rw (ne_eqb l e.line ne) (or-false (is_queued es e.line)) in
    rw (here, distinct_push es l c apart.1 (distinct_parts e es h).1, (distinct_parts e es h).0) refl

-- a list of n elements is refilled by one with an element replaced
pub refill_set : {X : Type 0} (xs ys : List X) (i : ℕ) (y : X) → ys ≡ xs → refill (length xs) xs (set ys i y) ≡ set xs i y
refill_set xs ys i y e =
    let long : length (set xs i y) ≡ length xs = length-set xs i y in
    rw (e, drop_all (length (set xs i y)) xs (omega arith), append-nil (set xs i y)) (take_all (length xs) (set xs i y) (omega arith))

-- what holds of the queue's entries at every moment
pub record Queueable (es : List Slot) : Type 0 where
  pub few : length es ≤ 16
  pub whole : Whole es
  pub once : distinct es ≡ true

pub queued_drop : (n : ℕ) (es : List Slot) (k : ℕ) → is_queued es k ≡ false → is_queued (drop n es) k ≡ false
queued_drop zero es k e = e
queued_drop (suc n) [] k e = refl
queued_drop (suc n) (f ∷ es) k e = queued_drop n es k (or_parts (eqb f.line k) (is_queued es k) e).1

-- once room is made, there is room
pub room_left : (es : List Slot) → length es ≤ 16 → length (drop (length es - 15) es) < 16
room_left es few = simp length-drop (omega arith)

-- a line that was not queued is not then, and can enter
module _ (es gs fs : List Slot) (l : ℕ) (c : Line) (few : length es ≤ 16) (away : is_queued es l ≡ false) (e : gs ≡ drop (length es - 15) es) where
  pub has_room : length gs < 16
  has_room = rw e (room_left es few)

  pub pushed : Queueable gs → length c ≡ 64 → fs ≡ gs ++ (slot l c ∷ []) → Queueable fs
  pushed q w f =
      rw f record {
        few = simp length-append (omega (arith, has_room));
        whole = whole_of_all (gs ++ (slot l c ∷ [])) (All-append Full gs (slot l c ∷ []) (all_of_whole gs q.whole) (w, tt));
        once = distinct_push gs l c (ap (λ xs. is_queued xs l) e ∙ queued_drop (length es - 15) es l away) q.once;
      }

-- the entry at a place is written anew
module _ (es fs : List Slot) (q : Queueable es) (l : ℕ) (c : Line) (i : ℕ) (h : i < length es) (same : (get_or es i (slot 0 [])).line ≡ l) (e : fs ≡ set es i (slot l c)) where
  pub anew : fs ≡ map (renewed l c) es
  anew = e ∙ sym (renewed_at l c es i (slot 0 []) h same q.once)

  pub written : length c ≡ 64 → Queueable fs
  written w =
      record {
        few = omega (arith, ap length e, length-set es i (slot l c));
        whole = rw e (whole_of_all (set es i (slot l c)) (All-set Full es i (slot l c) w (all_of_whole es q.whole)));
        once = ap distinct anew ∙ (distinct_renewed l c es ∙ q.once);
      }
