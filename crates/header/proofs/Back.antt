-- A header that may be logged reads back as what was written.
use Rattle.std.proofs.Common.{◌≡◌, ℕ, zero, suc, ◌+◌, ◌*◌, ◌/◌, ◌%◌, ◌<◌, ◌≤◌, true, ◌||◌, eqb, ltb, List, [], ◌∷◌, ◌++◌, length, get_or, take, drop, Some, sym, refl, ap, ◌∙◌, ⊎_elim, arith}
use Rattle.std.specs.Int.{w32, w64, to_le_bytes, from_le_bytes}
use Rattle.std.proofs.lemmas.Nat.{from_le_bytes-to_le_bytes_4, from_le_bytes-to_le_bytes_8}
use Rattle.std.proofs.lemmas.List.FromFn.{fill_by_all}
use Rattle.std.proofs.lemmas.List.{length-append, append_assoc, drop_at, get_or-drop, drop-drop}
use Rattle.std.proofs.lemmas.Bool.{lt-ltb, le-ltb, le-leb, eq-eqb, and_from, or_left, or_right, cases_lt}
use Rattle.layout.specs.declared.sizes.Sizes.{Sizes}
use Rattle.layout.specs.Sizes.{data_lines_of, within}
use Rattle.header.specs.declared.Header.{Header}
use Rattle.header.specs.Header.{addresses, written, address_at, field_good, lines_at, good, header_in, read_header, Sensible}
use Rattle.header.proofs.Fields.{length-addresses}
use Rattle.header.proofs.Good.{fields_all, reads_some}

-- field i of the addresses of some lines
address_back : (ls rest : List ℕ) (i : ℕ) → i < length ls → get_or ls i 0 < 65536 → address_at (addresses ls ++ rest) i ≡ 64 * get_or ls i 0
unfolding address_at addresses
address_back [] rest i h g = absurd (omega arith)
address_back (l ∷ ls) rest zero h g = from_le_bytes-to_le_bytes_8 (64 * l) (omega arith)
address_back (l ∷ ls) rest (suc i) h g =
    let field : List ℕ = to_le_bytes w64 (64 * l) in
    let e : 8 * suc i ≡ 8 + 8 * i = omega arith in
    let s = append_assoc field (addresses ls) rest in
    let d = drop_at field (addresses ls ++ rest) 8 refl in
    ap (λ (k : ℕ). from_le_bytes w64 (take 8 (drop k ((field ++ addresses ls) ++ rest)))) e
    ∙ ap (λ (bs : List ℕ). from_le_bytes w64 (take 8 bs)) (sym (drop-drop (8 * i) 8 ((field ++ addresses ls) ++ rest)))
    ∙ ap (λ (bs : List ℕ). from_le_bytes w64 (take 8 (drop (8 * i) bs))) (ap (drop 8) s ∙ d)
    ∙ address_back ls rest i (omega arith) g

pub written_long : (h : Header) → length h.lines ≡ 7 → length (written h) ≡ 64
unfolding written
written_long h k = length-append (addresses h.lines) _ ∙ omega (arith, length-addresses h.lines)

-- what stands behind the address fields
rest : Header → List ℕ
rest h = h.count ∷ h.core ∷ h.before ∷ 0 ∷ to_le_bytes w32 h.number

drop-56 : (h : Header) → length h.lines ≡ 7 → drop 56 (written h) ≡ rest h
unfolding written rest
drop-56 h k = drop_at (addresses h.lines) _ 56 (length-addresses h.lines ∙ omega arith)

-- each line is a 16-bit number
abbrev pub Small : Header → Type 0
Small h = (i : ℕ) → i < 7 → get_or h.lines i 0 < 65536

-- where D is a 16-bit number, the lines of a header that may be logged are too
pub small_lines : (s : Sizes) (h : Header) → Sensible s h → data_lines_of s < 65536 → Small h
small_lines s h k d i _ =
    ⊎_elim (λ (q : i < h.count). let u = k.used i q in omega arith) (λ (q : h.count ≤ i). let u = k.unused i q in omega arith) (cases_lt i h.count)

fields_same : (l m : List ℕ) (a b c d e f g i : ℕ) → l ≡ m → a ≡ b → c ≡ d → e ≡ f → g ≡ i
    → ◌≡◌ {A = Header} (record { lines = l; count = a; core = c; before = e; number = g }) (record { lines = m; count = b; core = d; before = f; number = i })
fields_same l m a b c d e f g i p q r s t = cc

module _ (s : Sizes) (h : Header) (k : Sensible s h) (w : Small h) where
  rest_at : (i : ℕ) → get_or (written h) (56 + i) 0 ≡ get_or (rest h) i 0
  rest_at i = sym (get_or-drop 56 (written h) i 0) ∙ ap (λ (xs : List ℕ). get_or xs i 0) (drop-56 h k.seven)

  number_back : from_le_bytes w32 (drop 60 (written h)) ≡ h.number
  unfolding rest
  number_back =
      let d : drop 60 (written h) ≡ to_le_bytes w32 h.number = sym (drop-drop 4 56 (written h)) ∙ ap (drop 4) (drop-56 h k.seven) in
      ap (from_le_bytes w32) d ∙ from_le_bytes-to_le_bytes_4 h.number k.number

  address_is : (i : ℕ) → i < 7 → address_at (written h) i ≡ 64 * get_or h.lines i 0
  unfolding written
  address_is i lt = address_back h.lines _ i (omega (arith, k.seven)) (w i lt)

  -- a field is good, used or not
  as_used : (i : ℕ) → i < h.count → field_good s (ltb i h.count) (64 * get_or h.lines i 0) ≡ true
  as_used i q =
      let u = k.used i q in
      rw (lt-ltb i h.count q)
      (and_from _ _ (eq-eqb (64 * get_or h.lines i 0 % 64) 0 (omega arith)) (lt-ltb (64 * get_or h.lines i 0) (64 * data_lines_of s) (omega arith)))

  as_unused : (i : ℕ) → h.count ≤ i → field_good s (ltb i h.count) (64 * get_or h.lines i 0) ≡ true
  as_unused i q = let u = k.unused i q in rw (le-ltb i h.count q) (eq-eqb (64 * get_or h.lines i 0) 0 (omega arith))

  field_good_lem : (i : ℕ) → i < 7 → field_good s (ltb i (get_or (written h) 56 0)) (address_at (written h) i) ≡ true
  unfolding rest
  field_good_lem i lt = rw (rest_at 0, address_is i lt) (⊎_elim (as_used i) (as_unused i) (cases_lt i h.count))

  before_good : (eqb h.before 255 || ltb h.before s.buckets) ≡ true
  before_good =
      ⊎_elim (λ (q : h.before ≡ 255). or_left _ _ (eq-eqb h.before 255 q))
      (λ (q : h.before < s.buckets). or_right _ _ (lt-ltb h.before s.buckets q)) k.before

  written_good : good s (written h) ≡ true
  unfolding good rest
  written_good =
      let count : within 1 7 h.count ≡ true = and_from _ _ (le-leb 1 h.count k.some) (le-leb h.count 7 k.most) in
      let core : ltb h.core s.cores ≡ true = lt-ltb h.core s.cores k.core in
      and_from _ _ (rw (rest_at 0, rest_at 1, rest_at 2, rest_at 3) (and_from _ _ (and_from _ _ (and_from _ _ count core) before_good) refl))
      (fields_all s (written h) field_good_lem)

  lines_back : h.lines ≡ lines_at (written h)
  unfolding lines_at
  lines_back = fill_by_all (λ (i : ℕ). address_at (written h) i / 64) h.lines 7 0 k.seven (λ i lt. let a = address_is i lt in omega arith)

  pub reads_back : read_header s (written h) ≡ Some h
  unfolding header_in rest
  reads_back =
      sym (reads_some s (written h) h written_good
      (fields_same _ _ _ _ _ _ _ _ _ _ lines_back (sym (rest_at 0)) (sym (rest_at 1)) (sym (rest_at 2)) (sym number_back)))
