-- The lines in a row of bytes, and what stands behind them, after one line is written.
use Rattle.std.proofs.Common.{◌≡◌, ℕ, zero, suc, ◌+◌, ◌-◌, ◌*◌, ◌/◌, ◌<◌, ◌≤◌, Bool, true, false, cond, ltb, ◌≢◌, ◌⊎◌, List, [], ◌++◌, length, get_or, take, drop, set, Some, None, Option, is_some, unwrap_or, ok_or, Ok, Err, sym, refl, ap, ◌∙◌, inl, inr, arith, length-append, length-drop, length-set, length-take, rules, ltb-false, ltb-true, lt-ltb}
use Rattle.std.specs.Option.{option_map}
use Rattle.std.specs.Simd.{first_chunks}
use Rattle.std.proofs.lemmas.List.{places, same_lists, drop-drop, drop_at, take_at, length-take-le, get_or-set_same, get_or-set_other, get_or-take, get_or-drop, set_past}
use Rattle.std.proofs.lemmas.List.FromFn.{length-map-range_with_len, get_or-map-range_with_len}
use Rattle.std.proofs.lemmas.Bool.{cases_eq}
use borrow.Rule.Slice.PartMut.{put_mid, Post-is}
use Rattle.lines.specs.Lines.{Line, count_of, line_of, line_at, with_line, counted, lines_of, rest_of, torn}

-- element k of a counted list is f k
pub counted_at : {A : Type 0} (f : ℕ → A) (n k : ℕ) (d : A) → k < n → get_or (counted f n) k d ≡ f k
counted_at f n k d h = get_or-map-range_with_len f 0 n k k d h (omega arith)

pub lines_length : (bs : List ℕ) → length (lines_of bs) ≡ count_of bs
unfolding lines_of
lines_length bs = length-map-range_with_len (line_of bs) 0 (count_of bs)

pub line_at_lem : (bs : List ℕ) (k : ℕ) (d : Line) → k < count_of bs → get_or (lines_of bs) k d ≡ line_of bs k
unfolding lines_of
line_at_lem bs k d h = counted_at (line_of bs) (count_of bs) k d h

pub line_length : (bs : List ℕ) (k : ℕ) → k < count_of bs → length (line_of bs k) ≡ 64
line_length bs k h = simp (length-take, length-drop) (omega arith)

line_byte : (bs : List ℕ) (k j d : ℕ) → j < 64 → get_or (line_of bs k) j d ≡ get_or bs (k * 64 + j) d
line_byte bs k j d h = rw (get_or-take, get_or-drop)

-- the bytes with line l, which is there, replaced
abbrev put : List ℕ → ℕ → Line → List ℕ
put bs l c = take (l * 64) bs ++ (c ++ drop (l * 64 + 64) bs)

module _ (bs : List ℕ) (l : ℕ) (c : Line) (e : length c ≡ 64) (h : l < count_of bs) where
  put_length : length (put bs l c) ≡ length bs
  put_length = search (rules, places)

  put_here : line_of (put bs l c) l ≡ c
  put_here =
      let t : length (take (l * 64) bs) ≡ l * 64 = length-take-le (l * 64) bs (omega arith) in
      rw (drop_at (take (l * 64) bs) (c ++ drop (l * 64 + 64) bs) (l * 64) t, take_at c (drop (l * 64 + 64) bs) 64 e) refl

  put_byte : (i d : ℕ) → (l * 64 ≤ i → l * 64 + 64 ≤ i) → get_or (put bs l c) i d ≡ get_or bs i d
  put_byte i d s = grind (arith, places)

  put_there : (k : ℕ) → k < count_of bs → k ≢ l → line_of (put bs l c) k ≡ line_of bs k
  put_there k g n =
      let len : length (put bs l c) ≡ length bs = put_length in
      let g' : k < count_of (put bs l c) = omega arith in
      same_lists _ _ (line_length (put bs l c) k g' ∙ sym (line_length bs k g)) (λ j d lt.
      let j64 : j < 64 = omega (arith, line_length (put bs l c) k g') in
      let away : l * 64 ≤ k * 64 + j → l * 64 + 64 ≤ k * 64 + j = λ le. omega arith in
      line_byte (put bs l c) k j d j64 ∙ put_byte (k * 64 + j) d away ∙ sym (line_byte bs k j d j64))

  put_lines : lines_of (put bs l c) ≡ set (lines_of bs) l c
  put_lines =
      let len : length (put bs l c) ≡ length bs = put_length in
      same_lists _ _ (lines_length (put bs l c) ∙ ap (λ (n : ℕ). n / 64) len ∙ sym (lines_length bs) ∙ sym (length-set (lines_of bs) l c)) (λ k d lt.
      let low : k < count_of (put bs l c) = omega (arith, lines_length (put bs l c)) in
      let low' : k < count_of bs = omega arith in
      line_at_lem (put bs l c) k d low ∙ at k d low' (cases_eq k l))
    where
      at : (k : ℕ) (d : Line) → k < count_of bs → (k ≡ l) ⊎ (k ≢ l) → line_of (put bs l c) k ≡ get_or (set (lines_of bs) l c) k d
      at k d low (inl p) = rw p (put_here ∙ sym (get_or-set_same (lines_of bs) l c d (omega (arith, lines_length bs))))
      at k d low (inr n) = put_there k low n ∙ sym (line_at_lem bs k d low) ∙ sym (get_or-set_other (lines_of bs) l k c d n)

  put_rest : rest_of (put bs l c) ≡ rest_of bs
  put_rest =
      let len : length (put bs l c) ≡ length bs = put_length in
      same_lists _ _ (simp length-drop (omega arith)) (λ j d lt.
      let away : l * 64 ≤ count_of bs * 64 + j → l * 64 + 64 ≤ count_of bs * 64 + j = λ le. omega arith in
      get_or-drop (count_of (put bs l c) * 64) (put bs l c) j d
      ∙ ap (λ (n : ℕ). get_or (put bs l c) (n / 64 * 64 + j) d) len
      ∙ put_byte (count_of bs * 64 + j) d away
      ∙ sym (get_or-drop (count_of bs * 64) bs j d))

-- a line that is there is replaced, any other changes nothing
with_cases : (bs : List ℕ) (l : ℕ) (c : Line) (P : List ℕ → Type 0) → (l < count_of bs → P (put bs l c)) → (count_of bs ≤ l → P bs) → P (with_line bs l c)
with_cases bs l c P yes' no' = go (ltb l (count_of bs)) refl
  where
    go : (b : Bool) → ltb l (count_of bs) ≡ b → P (cond b (put bs l c) bs)
    go true e = yes' (ltb-true l (count_of bs) e)
    go false e = no' (ltb-false l (count_of bs) e)

pub with_length : (bs : List ℕ) (l : ℕ) (c : Line) → (l < count_of bs → length c ≡ 64) → length (with_line bs l c) ≡ length bs
with_length bs l c e = with_cases bs l c (λ x. length x ≡ length bs) (λ h. put_length bs l c (e h) h) (λ h. refl)

pub with_lines : (bs : List ℕ) (l : ℕ) (c : Line) → (l < count_of bs → length c ≡ 64) → lines_of (with_line bs l c) ≡ set (lines_of bs) l c
with_lines bs l c e =
    with_cases bs l c (λ x. lines_of x ≡ set (lines_of bs) l c) (λ h. put_lines bs l c (e h) h)
    (λ h. sym (set_past (lines_of bs) l c (omega (arith, lines_length bs))))

pub with_rest : (bs : List ℕ) (l : ℕ) (c : Line) → (l < count_of bs → length c ≡ 64) → rest_of (with_line bs l c) ≡ rest_of bs
with_rest bs l c e = with_cases bs l c (λ x. rest_of x ≡ rest_of bs) (λ h. put_rest bs l c (e h) h) (λ h. refl)

-- a line that is there is replaced by its content
with_there : (bs : List ℕ) (l : ℕ) (c : Line) → l < count_of bs → with_line bs l c ≡ put bs l c
with_there bs l c h = rw (lt-ltb l (count_of bs) h) refl

-- what lending the middle part of the bytes to the line writer leaves
pub lent_middle : (bs ys : List ℕ) (l : ℕ) (c : Line) → ys ≡ c → l < count_of bs → put_mid (l * 64) (l * 64 + 64 - l * 64) bs ys ≡ with_line bs l c
lent_middle bs ys l c e h = rw (e, Post-is (l * 64) (l * 64 + 64) bs (omega arith)) (sym (with_there bs l c h))

-- the bytes cut into chunks of 64: chunk l is line l
chunks_length : (n : ℕ) (bs : List ℕ) → length (first_chunks 64 n bs) ≡ n
chunks_length zero bs = refl
chunks_length (suc n) bs = ap suc (chunks_length n (drop 64 bs))

chunk_at : (n k : ℕ) (bs : List ℕ) (d : Line) → k < n → get_or (first_chunks 64 n bs) k d ≡ line_of bs k
chunk_at zero k bs d h = absurd (omega arith)
chunk_at (suc n) zero bs d h = refl
chunk_at (suc n) (suc k) bs d h =
    let e : 64 + k * 64 ≡ suc k * 64 = omega arith in
    chunk_at n k (drop 64 bs) d (omega arith) ∙ ap (take 64) (drop-drop (k * 64) 64 bs ∙ ap (λ (i : ℕ). drop i bs) e)

-- what a look-up among the chunks gives
pub line_among : {X : Type 0} (f : X → Line) (bs : List ℕ) (l : ℕ) (chunks : List Line) (o : Option X) → chunks ≡ first_chunks 64 (count_of bs) bs → is_some o ≡ ltb l (length chunks) → ((d : Line) → unwrap_or (option_map f o) d ≡ get_or chunks l d) → option_map f o ≡ line_at bs l
line_among {X} f bs l chunks o e s u =
    go o (ltb l (count_of bs)) refl (s ∙ ap (ltb l) (ap length e ∙ chunks_length (count_of bs) bs)) (u [] ∙ ap (λ (xs : List Line). get_or xs l []) e)
  where
    go : (p : Option X) (b : Bool) → ltb l (count_of bs) ≡ b → is_some p ≡ ltb l (count_of bs) → unwrap_or (option_map f p) [] ≡ get_or (first_chunks 64 (count_of bs) bs) l [] → option_map f p ≡ cond b (Some (line_of bs l)) None
    go None true k q x = absurd (grind arith)
    go None false k q x = refl
    go (Some y) true k q x = ap Some (x ∙ chunk_at (count_of bs) l bs [] (ltb-true l (count_of bs) k))
    go (Some y) false k q x = absurd (grind arith)

-- what a read of a line says of it
pub line_none : (bs : List ℕ) (l : ℕ) → line_at bs l ≡ None → length (lines_of bs) ≤ l
line_none bs l e = go (ltb l (count_of bs)) refl e
  where
    go : (b : Bool) → ltb l (count_of bs) ≡ b → cond b (Some (line_of bs l)) None ≡ None → length (lines_of bs) ≤ l
    go true p q = absurd (grind arith)
    go false p q = omega (arith, ltb-false l (count_of bs) p, lines_length bs)

pub line_some : (bs : List ℕ) (l : ℕ) (x : Line) → line_at bs l ≡ Some x → (l < count_of bs) × (x ≡ line_of bs l)
line_some bs l x e = go (ltb l (count_of bs)) refl e
  where
    go : (b : Bool) → ltb l (count_of bs) ≡ b → cond b (Some (line_of bs l)) None ≡ Some x → (l < count_of bs) × (x ≡ line_of bs l)
    go true p q = (ltb-true l (count_of bs) p, cc)
    go false p q = absurd (grind arith)

-- the same where a missing line is answered by an error
module _ {E : Type 0} (bs : List ℕ) (l : ℕ) (d : E) where
  pub line_err : (e : E) → ok_or (line_at bs l) d ≡ Err e → (length (lines_of bs) ≤ l) × (e ≡ d)
  line_err e q = go (line_at bs l) refl q
    where
      go : (o : Option Line) → line_at bs l ≡ o → ok_or o d ≡ Err e → (length (lines_of bs) ≤ l) × (e ≡ d)
      go None p k = (line_none bs l p, cc)
      go (Some x) p k = absurd (cc)

  pub line_ok : (x : Line) → ok_or (line_at bs l) d ≡ Ok x → (l < count_of bs) × (x ≡ line_of bs l)
  line_ok x q = go (line_at bs l) refl q
    where
      go : (o : Option Line) → line_at bs l ≡ o → ok_or o d ≡ Ok x → (l < count_of bs) × (x ≡ line_of bs l)
      go None p k = absurd (cc)
      go (Some y) p k = let at = line_some bs l y p in (at.0, cc)

-- every line is 64 bytes
pub lines_whole : (bs : List ℕ) (l : ℕ) → l < length (lines_of bs) → length (get_or (lines_of bs) l []) ≡ 64
lines_whole bs l h =
    let low : l < count_of bs = omega (arith, lines_length bs) in
    ap length (line_at_lem bs l [] low) ∙ line_length bs l low

pub torn_length : (old new : Line) → length old ≡ 64 → length new ≡ 64 → length (torn old new) ≡ 64
torn_length old new p q = simp (length-append, length-take, length-drop) (omega arith)
