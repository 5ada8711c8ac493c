-- Bytes that are read as a header are written again as those very bytes.
use Rattle.std.proofs.Common.{◌≡◌, ℕ, zero, suc, ◌+◌, ◌*◌, ◌/◌, ◌^◌, ◌<◌, ◌≤◌, true, List, [], ◌∷◌, ◌++◌, map, length, get_or, take, drop, Some, sym, refl, ap, ◌∙◌, ⊎_elim, subst, add-one, arith, take-add}
use Rattle.std.specs.Int.{w32, w64, to_le_bytes, from_le_bytes}
use Rattle.std.specs.List.{range_with_len}
use Rattle.std.proofs.lemmas.Nat.{le_bytes_4, le_bytes_8}
use Rattle.std.proofs.lemmas.List.FromFn.{map-range_with_len_more}
use Rattle.std.proofs.lemmas.List.{drop_more, length-take-le, length-drop, take-append-drop, get_or-take, get_or-drop, get_or_past, length-take}
use Rattle.std.proofs.lemmas.Bool.{eqb-true, and_parts, cases_lt}
use Rattle.layout.specs.declared.sizes.Sizes.{Sizes}
use Rattle.header.specs.declared.Header.{Header}
use Rattle.header.specs.Header.{Line, addresses, written, address_at, fields_good, lines_at, rest_good, good, header_in, read_header, Sensible}
use Rattle.header.proofs.Fields.{addresses-append, addresses_one}
use Rattle.header.proofs.Good.{good_from_read, fields_at, field_line, sensible_from_read}

addresses_none : addresses [] ≡ []
unfolding addresses
addresses_none = refl

module _ (s : Sizes) (bs : Line) (l : length bs ≡ 64) (a : (i : ℕ) → get_or bs i 0 < 256) where
  byte_in_field : (k j : ℕ) → get_or (take 8 (drop k bs)) j 0 < 256
  byte_in_field k j =
      ⊎_elim (λ (q : j < 8). rw (get_or-take 8 (drop k bs) j 0 q, get_or-drop k bs j 0) (a (k + j)))
      (λ (q : 8 ≤ j). let n = length-take 8 (drop k bs) in rw (get_or_past (take 8 (drop k bs)) j 0 (omega arith)) (omega arith)) (cases_lt j 8)

  address_again : (i : ℕ) → i < 7 → fields_good s bs ≡ true → to_le_bytes w64 (64 * (address_at bs i / 64)) ≡ take 8 (drop (8 * i) bs)
  unfolding address_at
  address_again i lt g =
      let field : Line = take 8 (drop (8 * i) bs) in
      let f = field_line s _ (from_le_bytes w64 field) (fields_at s bs g i lt) in
      let n : length field ≡ 8 = length-take-le 8 (drop (8 * i) bs) (omega (arith, length-drop (8 * i) bs)) in
      ap (to_le_bytes w64) f ∙ le_bytes_8 field _ n (byte_in_field (8 * i)) refl

  -- the first n address fields
  addresses_again : (n : ℕ) → n ≤ 7 → fields_good s bs ≡ true → addresses (map (λ i. address_at bs i / 64) (range_with_len 0 n)) ≡ take (8 * n) bs
  addresses_again zero h g = addresses_none
  addresses_again (suc n) h g =
      let f : ℕ → ℕ = λ i. address_at bs i / 64 in
      let e : 8 * suc n ≡ 8 * n + 8 = omega arith in
      ap (λ (k : ℕ). addresses (map f (range_with_len 0 k))) (sym (add-one n)) ∙ ap addresses (map-range_with_len_more f 0 n n (omega arith))
      ∙ addresses-append (map f (range_with_len 0 n)) (f n ∷ [])
      ∙ ap (λ (xs : List ℕ). xs ++ addresses (f n ∷ [])) (addresses_again n (omega arith) g)
      ∙ ap (λ (xs : List ℕ). take (8 * n) bs ++ xs) (addresses_one (f n) ∙ address_again n (omega arith) g)
      ∙ sym (take-add (8 * n) 8 bs) ∙ ap (λ (k : ℕ). take k bs) (sym e)

  byte_in_number : (j : ℕ) → get_or (drop 60 bs) j 0 < 256
  byte_in_number j = rw (get_or-drop 60 bs j 0) (a (60 + j))

  number_again : to_le_bytes w32 (from_le_bytes w32 (drop 60 bs)) ≡ drop 60 bs
  number_again = le_bytes_4 (drop 60 bs) _ (length-drop 60 bs ∙ omega arith) byte_in_number refl

  -- what stands behind the address fields
  rest_again : get_or bs 59 0 ≡ 0 → get_or bs 56 0 ∷ get_or bs 57 0 ∷ get_or bs 58 0 ∷ 0 ∷ to_le_bytes w32 (from_le_bytes w32 (drop 60 bs)) ≡ drop 56 bs
  rest_again z =
      let d6 = drop_more bs 56 0 (omega arith) in
      let d7 = drop_more bs 57 0 (omega arith) in
      let d8 = drop_more bs 58 0 (omega arith) in
      let d9 = drop_more bs 59 0 (omega arith) in
      let n = number_again in
      cc

  zero_in : rest_good s bs ≡ true → get_or bs 59 0 ≡ 0
  zero_in r = eqb-true (get_or bs 59 0) 0 (and_parts _ _ r).1

  written_in : good s bs ≡ true → written (header_in bs) ≡ bs
  unfolding written header_in lines_at good
  written_in g =
      let (rest, fields) = and_parts (rest_good s bs) (fields_good s bs) g in
      ap (λ (xs : List ℕ). xs ++ (get_or bs 56 0 ∷ get_or bs 57 0 ∷ get_or bs 58 0 ∷ 0 ∷ to_le_bytes w32 (from_le_bytes w32 (drop 60 bs)))) (addresses_again 7 (omega arith) fields)
      ∙ ap (λ (xs : List ℕ). take 56 bs ++ xs) (rest_again (zero_in rest)) ∙ take-append-drop 56 bs

  number_below : (header_in bs).number < 2 ^ 32
  unfolding header_in
  number_below = omega (arith, byte_in_number 0, byte_in_number 1, byte_in_number 2, byte_in_number 3)

-- a header that is read may be logged, and is written again as its bytes
pub read_again : (s : Sizes) (bs : Line) → length bs ≡ 64 → ((i : ℕ) → get_or bs i 0 < 256) → (h : Header) → read_header s bs ≡ Some h → Sensible s h × (written h ≡ bs)
read_again s bs l a h r =
    let (g, e) = good_from_read s bs h r in (
      sensible_from_read s bs h (subst (λ (k : Header). k.number < 2 ^ 32) (sym e) (number_below s bs l a)) r,
      ap written e ∙ written_in s bs l a g,
    )
