-- What a good header says of its fields.
use Rattle.std.proofs.Common.{◌≡◌, ℕ, ◌*◌, ◌/◌, ◌%◌, ◌^◌, ◌<◌, ◌≤◌, Bool, true, false, cond, ◌||◌, eqb, ltb, ◌⊎◌, List, [], map, length, get_or, Some, None, sym, refl, ap, ◌∙◌, subst, inl, inr, ⊎_elim, arith, zero-add}
use Rattle.std.specs.List.{range_with_len}
use Rattle.std.proofs.lemmas.List.Sums.{AllPass-from_list_all, list_all-from_AllPass}
use Rattle.std.proofs.lemmas.List.FromFn.{fill_by_all, get_or-range_with_len, get_or-map-range_with_len, length-map-range_with_len}
use Rattle.std.proofs.lemmas.List.{get_or_past}
use Rattle.std.proofs.lemmas.Option.{cond_some}
use Rattle.std.proofs.lemmas.Bool.{and_parts, or_cases, cases_Bool, cases_lt, both_ways, eqb-true, ltb-true, leb-true, cond-true, cond-false, lt-ltb, le-ltb}
use Rattle.layout.specs.declared.sizes.Sizes.{Sizes}
use Rattle.layout.specs.Sizes.{data_lines_of}
use Rattle.header.specs.declared.Header.{Header}
use Rattle.header.specs.Header.{Line, field_good, line_in, fields_good, lines_at, lines_in, address_at, read_header, good, rest_good, header_in, Sensible}

-- where an answer that hangs on a test is None
pub failed : {X : Type 0} (t : Bool) (x : X) → None ≡ cond t (Some x) None → t ≡ false
failed true x e = cc
failed false x e = refl

module _ (s : Sizes) (bs : Line) where
  abbrev pub Good : ℕ → Type 0
  Good i = field_good s (ltb i (get_or bs 56 0)) (address_at bs i) ≡ true

  pub fields_at : fields_good s bs ≡ true → (i : ℕ) → i < 7 → Good i
  unfolding fields_good
  fields_at h i lt =
      rw (get_or-range_with_len 0 7 i 0 lt, zero-add i) at (AllPass-from_list_all (λ i. field_good s (ltb i (get_or bs 56 0)) (address_at bs i)) (range_with_len 0 7) h i 0 lt)

  pub fields_all : ((i : ℕ) → i < 7 → Good i) → fields_good s bs ≡ true
  unfolding fields_good
  fields_all h =
      list_all-from_AllPass (λ i. field_good s (ltb i (get_or bs 56 0)) (address_at bs i)) (range_with_len 0 7)
      (λ i d lt. rw (get_or-range_with_len 0 7 i d lt, zero-add i) (h i lt))

  -- one field that is not good
  pub fields_fail : (i : ℕ) → i < 7 → field_good s (ltb i (get_or bs 56 0)) (address_at bs i) ≡ false → fields_good s bs ≡ false
  fields_fail i h a = ⊎_elim (λ (q : fields_good s bs ≡ true). absurd (both_ways _ a (fields_at q i h))) (λ (q : fields_good s bs ≡ false). q) (cases_Bool (fields_good s bs))

-- the lines of seven good fields
pub lines_read : (s : Sizes) (bs : Line) (ls : List ℕ) → length ls ≡ 7 → ((i : ℕ) → i < 7 → Good s bs i)
    → ((i : ℕ) → i < 7 → get_or ls i 0 ≡ address_at bs i / 64) → Some ls ≡ lines_in s bs
unfolding lines_at
lines_read s bs ls l g h =
    ap (λ (ls : List ℕ). Some ls) (fill_by_all (λ (i : ℕ). address_at bs i / 64) ls 7 0 l h) ∙ sym (cond-true _ _ _ (fields_all s bs g))

pub lines_declined : (s : Sizes) (bs : Line) (i : ℕ) → i < 7 → None ≡ line_in s (ltb i (get_or bs 56 0)) (address_at bs i) → None ≡ lines_in s bs
lines_declined s bs i h e = sym (cond-false _ _ _ (fields_fail s bs i h (failed _ _ e)))

-- a good field is a line's address
pub field_line : (s : Sizes) (u : Bool) (a : ℕ) → field_good s u a ≡ true → 64 * (a / 64) ≡ a
field_line s true a h = let q = eqb-true (a % 64) 0 (and_parts (eqb (a % 64) 0) (ltb a (64 * data_lines_of s)) h).0 in omega arith
field_line s false a h = let q = eqb-true a 0 h in omega arith

-- bytes that are not good are declined, good ones are read
pub reads_none : (s : Sizes) (bs : Line) → good s bs ≡ false → None ≡ read_header s bs
unfolding read_header
reads_none s bs h = sym (cond-false _ _ _ h)

pub reads_some : (s : Sizes) (bs : Line) (h : Header) → good s bs ≡ true → h ≡ header_in bs → Some h ≡ read_header s bs
unfolding read_header
reads_some s bs h g e = ap (λ (h : Header). Some h) e ∙ sym (cond-true _ _ _ g)

-- and a header that is read is that in good bytes
pub good_from_read : (s : Sizes) (bs : Line) (h : Header) → read_header s bs ≡ Some h → (good s bs ≡ true) × (h ≡ header_in bs)
unfolding read_header
good_from_read s bs h e = let (g, same) = cond_some (good s bs) (header_in bs) h e in (g, sym same)

-- no bytes are no header
pub reads_nothing : (s : Sizes) → read_header s [] ≡ None
unfolding read_header good
reads_nothing s = refl

-- the line of a used field is a data line, and that of an unused field is 0
line_used : (s : Sizes) (a : ℕ) → field_good s true a ≡ true → a / 64 < data_lines_of s
line_used s a h = let z = ltb-true a (64 * data_lines_of s) (and_parts (eqb (a % 64) 0) (ltb a (64 * data_lines_of s)) h).1 in omega arith

line_unused : (s : Sizes) (a : ℕ) → field_good s false a ≡ true → a / 64 ≡ 0
line_unused s a h = let z = eqb-true a 0 h in omega arith

before_from : (s : Sizes) (b : ℕ) → (eqb b 255 || ltb b s.buckets) ≡ true → (b ≡ 255) ⊎ (b < s.buckets)
before_from s b h = ⊎_elim (λ (q : eqb b 255 ≡ true). inl (eqb-true b 255 q)) (λ (q : ltb b s.buckets ≡ true). inr (ltb-true b s.buckets q)) (or_cases (eqb b 255) (ltb b s.buckets) h)

-- good bytes hold a header that may be logged
sensible_in : (s : Sizes) (bs : Line) → (header_in bs).number < 2 ^ 32 → good s bs ≡ true → Sensible s (header_in bs)
unfolding good header_in lines_at
sensible_in s bs small g =
    let (rest, fields) = and_parts (rest_good s bs) (fields_good s bs) g in
    let (p, zero') = and_parts _ _ rest in
    let (q, before) = and_parts _ _ p in
    let (range, core) = and_parts _ _ q in
    let (low, high) = and_parts _ _ range in
    let most : get_or bs 56 0 ≤ 7 = leb-true (get_or bs 56 0) 7 high in
    record {
      seven = length-map-range_with_len line 0 7;
      some = leb-true 1 (get_or bs 56 0) low;
      most = most;
      used = λ i lt. rw (get_or-map-range_with_len line 0 7 i i 0 (omega arith) (omega arith)) (line_used s (address_at bs i) (rw (lt-ltb i (get_or bs 56 0) lt) at (fields_at s bs fields i (omega arith))));
      unused = λ i le. past i le (cases_lt i 7) fields;
      core = ltb-true (get_or bs 57 0) s.cores core;
      before = before_from s (get_or bs 58 0) before;
      number = small;
    }
  where
    line : ℕ → ℕ
    line i = address_at bs i / 64

    past : (i : ℕ) → get_or bs 56 0 ≤ i → (i < 7) ⊎ (7 ≤ i) → fields_good s bs ≡ true → get_or (map line (range_with_len 0 7)) i 0 ≡ 0
    past i le (inl lt) fields = get_or-map-range_with_len line 0 7 i i 0 lt (omega arith) ∙ line_unused s (address_at bs i) (rw (le-ltb i (get_or bs 56 0) le) at (fields_at s bs fields i lt))
    past i le (inr ge) fields = get_or_past (map line (range_with_len 0 7)) i 0 (omega (arith, length-map-range_with_len line 0 7))

-- a header that is read may be logged
pub sensible_from_read : (s : Sizes) (bs : Line) (h : Header) → h.number < 2 ^ 32 → read_header s bs ≡ Some h → Sensible s h
sensible_from_read s bs h small r =
    let (g, e) = good_from_read s bs h r in
    subst (λ (k : Header). Sensible s k) (sym e) (sensible_in s bs (subst (λ (k : Header). k.number < 2 ^ 32) e small) g)
