-- Address fields as they are written, one after another, and as they are cut out.
use Rattle.std.proofs.Common.{◌≡◌, ℕ, zero, suc, ◌+◌, ◌*◌, ◌/◌, ◌<◌, ◌≤◌, List, [], ◌∷◌, ◌++◌, length, get_or, take, drop, sym, refl, ap, ◌∙◌, arith, length-append}
use Rattle.std.specs.Int.{w32, w64, to_le_bytes, from_le_bytes}
use Rattle.std.specs.Simd.{first_chunks}
use borrow.Rule.Slice.PartMut.{put_mid}
use Rattle.std.proofs.lemmas.Grind.{flat_map-append}
use Rattle.std.proofs.lemmas.List.{take_more, append_assoc, append-nil, drop_all, drop-drop, length-drop}
use Rattle.std.proofs.lemmas.Slice.{take-put_mid, drop-put_mid}
use Rattle.header.specs.declared.Header.{Header}
use Rattle.header.specs.Header.{addresses, written, address_at}

pub addresses-append : (xs ys : List ℕ) → addresses (xs ++ ys) ≡ addresses xs ++ addresses ys
unfolding addresses
addresses-append xs ys = flat_map-append (λ l. to_le_bytes w64 (64 * l)) xs ys

pub addresses_one : (x : ℕ) → addresses (x ∷ []) ≡ to_le_bytes w64 (64 * x)
unfolding addresses
addresses_one x = refl

pub length-addresses : (ls : List ℕ) → length (addresses ls) ≡ 8 * length ls
unfolding addresses
length-addresses [] = refl
length-addresses (l ∷ ls) = length-append (to_le_bytes w64 (64 * l)) (addresses ls) ∙ omega (arith, length-addresses ls)

-- one more field is put in behind those that stand
pub put_more : (bs new ls : List ℕ) (i k x : ℕ) → i < length ls → 8 * i + 8 ≤ length bs → x ≡ get_or ls i 0 → new ≡ to_le_bytes w64 (64 * x)
    → take (8 * i) bs ≡ addresses (take i ls) → take (8 * (i + 1)) (put_mid (8 * i) k bs new) ≡ addresses (take (i + 1) ls)
put_more bs new ls i k x h g e q a =
    let n : length new ≡ 8 = ap length q in
    take-put_mid (8 * i) k bs new (8 * (i + 1)) (omega arith) (omega arith) ∙ ap (λ (zs : List ℕ). zs ++ new) a
    ∙ ap (λ (zs : List ℕ). addresses (take i ls) ++ zs) (q ∙ ap (λ (y : ℕ). to_le_bytes w64 (64 * y)) e ∙ sym (addresses_one (get_or ls i 0)))
    ∙ sym (addresses-append (take i ls) (get_or ls i 0 ∷ [])) ∙ ap addresses (sym (take_more ls i 0 h))

-- the last eight bytes are put in by four
put_ends : (bs fs ms ns : List ℕ) → length bs ≡ 64 → take 56 bs ≡ fs → length ms ≡ 4 → length ns ≡ 4
    → put_mid 60 4 (put_mid 56 4 bs ms) ns ≡ fs ++ (ms ++ ns)
put_ends bs fs ms ns l a m n =
    let t = take-put_mid 56 4 bs ms 60 (omega arith) (omega arith) in
    let d = drop-put_mid 56 4 bs ms 60 (omega arith) (omega arith) m in
    let z : drop 4 (drop 60 bs) ≡ [] = drop_all 4 (drop 60 bs) (omega (arith, length-drop 60 bs)) in
    ap (λ (xs : List ℕ). xs ++ (ns ++ drop 4 (drop 60 (put_mid 56 4 bs ms)))) t
    ∙ ap (λ (xs : List ℕ). (take 56 bs ++ ms) ++ (ns ++ drop 4 xs)) d
    ∙ ap (λ (xs : List ℕ). (take 56 bs ++ ms) ++ (ns ++ xs)) z
    ∙ rw (append-nil, append_assoc, a)

-- the fields and the eight bytes behind them are the bytes of the header
pub written_from : (h : Header) (bs ms ns : List ℕ) → length bs ≡ 64 → take 56 bs ≡ addresses h.lines
    → ms ≡ h.count ∷ h.core ∷ h.before ∷ 0 ∷ [] → ns ≡ to_le_bytes w32 h.number → put_mid 60 4 (put_mid 56 4 bs ms) ns ≡ written h
unfolding written
written_from h bs ms ns l a m n = put_ends bs (addresses h.lines) ms ns l a (ap length m) (ap length n) ∙ rw (m, n)

-- field i, cut out
pub chunk_at : (n k i : ℕ) (xs ys : List ℕ) → i < k → get_or (first_chunks n k xs) i ys ≡ take n (drop (n * i) xs)
chunk_at n zero i xs ys h = absurd (omega arith)
chunk_at n (suc k) zero xs ys h = let e : n * 0 ≡ 0 = omega arith in ap (λ (j : ℕ). take n (drop j xs)) (sym e)
chunk_at n (suc k) (suc i) xs ys h =
    let e : n + n * i ≡ n * suc i = omega arith in
    chunk_at n k i (drop n xs) ys (omega arith) ∙ ap (take n) (drop-drop (n * i) n xs) ∙ ap (λ (j : ℕ). take n (drop j xs)) e

pub address_read : (bs : List ℕ) (fs : List (List ℕ)) (i x : ℕ) → length bs ≡ 64 → fs ≡ first_chunks 8 (length bs / 8) bs → i < 7
    → x ≡ from_le_bytes w64 (get_or fs i []) → x ≡ address_at bs i
unfolding address_at
address_read bs fs i x l f h e =
    let g : fs ≡ first_chunks 8 8 bs = f ∙ ap (λ (n : ℕ). first_chunks 8 (n / 8) bs) l in
    e ∙ ap (λ (fs : List (List ℕ)). from_le_bytes w64 (get_or fs i [])) g ∙ ap (from_le_bytes w64) (chunk_at 8 8 i bs [] (omega arith))
