-- The buckets of a vector: one more, a union, and how many there are.
use Rattle.std.proofs.Common.{◌≡◌, ℕ, zero, suc, ◌+◌, ◌/◌, ◌%◌, ◌^◌, ◌<◌, ◌≤◌, min, true, false, eqb, ltb, ◌⊎◌, sym, refl, ap, ◌∙◌, subst, inl, inr, ⊎_elim, pow-suc, arith, pow_pos, pow_mono}
use native.Mathlib.Nat.{div-eq_of_lt}
use lib.Bits.{bit_and, bit_or}
use lib.Count.{ones, ones_step}
use Rattle.std.specs.Int.{bit_at}
use Rattle.std.proofs.lemmas.Nat.{le-div}
use Rattle.std.proofs.lemmas.Nat.Bits.{bit_at_lowest, bit_at-suc, bit_at-zero, bit_at_and, bit_at_or, bit_at-pow_same, bit_at-pow_other, bit_at_above}
use Rattle.std.proofs.lemmas.Bool.{eqb-true, eqb-false, eq-eqb, ne_eqb, lt-ltb, le-ltb, cases_eq, cases_lt}
use Rattle.layout.specs.Block.{has, buckets_in}

-- the empty vector has no bucket
pub has_none : (b : ℕ) → has 0 b ≡ false
has_none b = ne_eqb _ 1 (λ p. let z = bit_at-zero b in omega arith)

-- a union has the buckets of both
pub has_left : (v w b : ℕ) → has v b ≡ true → has (bit_or v w) b ≡ true
has_left v w b h = eq-eqb _ 1 (bit_at_or v w b ∙ omega (arith, eqb-true (bit_at v b) 1 h))

pub has_right : (v w b : ℕ) → has w b ≡ true → has (bit_or v w) b ≡ true
has_right v w b h = eq-eqb _ 1 (bit_at_or v w b ∙ omega (arith, eqb-true (bit_at w b) 1 h))

-- vectors that share no bit share no bucket
pub has_apart : (v w b : ℕ) → bit_and v w ≡ 0 → has v b ≡ true → has w b ≡ true → ⊥
has_apart v w b e h k =
    let p = eqb-true (bit_at v b) 1 h in
    let q = eqb-true (bit_at w b) 1 k in
    let z = bit_at-zero b in
    let a : bit_at 0 b ≡ min (bit_at v b) (bit_at w b) = ap (λ (x : ℕ). bit_at x b) (sym e) ∙ bit_at_and v w b in
    omega arith

-- the vector with one more bucket
pub has_new : (v b : ℕ) → has (bit_or v (2 ^ b)) b ≡ true
has_new v b = eq-eqb _ 1 (bit_at_or v (2 ^ b) b ∙ omega (arith, bit_at-pow_same b))

pub has_old : (v b c : ℕ) → has v c ≡ true → has (bit_or v (2 ^ b)) c ≡ true
has_old v b c h = has_left v (2 ^ b) c h

pub has_cases : (v b c : ℕ) → has (bit_or v (2 ^ b)) c ≡ true → (c ≡ b) ⊎ (has v c ≡ true)
has_cases v b c h =
    ⊎_elim (λ (q : c ≡ b). inl q)
    (λ (q : c ≡ b → ⊥). inr (eq-eqb _ 1 (let x = bit_at_or v (2 ^ b) c in let y = bit_at-pow_other b c q in let z = eqb-true _ 1 h in omega arith)))
    (cases_eq c b)

-- a vector below 2 to the n has buckets below n only
pub has_past : (v n b : ℕ) → v < 2 ^ n → n ≤ b → has v b ≡ false
has_past v n b h k = ne_eqb _ 1 (λ e. let z = bit_at_above v n b h k in omega arith)

pub has_below : (v n b : ℕ) → v < 2 ^ n → has v b ≡ true → b < n
has_below v n b h k =
    ⊎_elim (λ (q : b < n). q) (λ (q : n ≤ b). absurd (let e : true ≡ false = sym k ∙ has_past v n b h q in grind arith)) (cases_lt b n)

-- counting the buckets below n
count_past : (n v b : ℕ) → n ≤ b → buckets_in n (bit_or v (2 ^ b)) ≡ buckets_in n v
unfolding buckets_in
count_past zero v b h = refl
count_past (suc n) v b h = omega (arith, bit_at_or v (2 ^ b) n, bit_at-pow_other b n (λ q. omega arith), count_past n v b (omega arith))

pub count_new : (n v b : ℕ) → b < n → has v b ≡ false → buckets_in n (bit_or v (2 ^ b)) ≡ suc (buckets_in n v)
unfolding buckets_in
count_new zero v b h f = absurd (omega (arith, h))
count_new (suc n) v b h f =
    ⊎_elim
    (λ (q : n ≡ b).
    let x = subst (λ (c : ℕ). bit_at (2 ^ b) c ≡ 1) (sym q) (bit_at-pow_same b) in
    let y = subst (λ (c : ℕ). bit_at v c ≡ 1 → ⊥) (sym q) (eqb-false (bit_at v b) 1 f) in
    omega (arith, bit_at_or v (2 ^ b) n, x, y, count_past n v b (omega arith)))
    (λ (q : n ≡ b → ⊥). omega (arith, bit_at_or v (2 ^ b) n, bit_at-pow_other b n q, count_new n v b (omega arith) f))
    (cases_eq n b)

-- a bucket that the vector has already
pub or_old : (n v b : ℕ) → has v b ≡ true → buckets_in n (bit_or v (2 ^ b)) ≡ buckets_in n v
unfolding buckets_in
or_old zero v b h = refl
or_old (suc n) v b h =
    ⊎_elim
    (λ (q : n ≡ b).
    let x = subst (λ (c : ℕ). bit_at (2 ^ b) c ≡ 1) (sym q) (bit_at-pow_same b) in
    let y = subst (λ (c : ℕ). bit_at v c ≡ 1) (sym q) (eqb-true (bit_at v b) 1 h) in
    omega (arith, bit_at_or v (2 ^ b) n, x, y, or_old n v b h))
    (λ (q : n ≡ b → ⊥). omega (arith, bit_at_or v (2 ^ b) n, bit_at-pow_other b n q, or_old n v b h))
    (cases_eq n b)

pub some_in : (n v b : ℕ) → b < n → has v b ≡ true → 0 < buckets_in n v
unfolding buckets_in
some_in zero v b h q = absurd (omega (arith, h))
some_in (suc n) v b h q =
    ⊎_elim
    (λ (e : n ≡ b). let y = subst (λ (c : ℕ). bit_at v c ≡ 1) (sym e) (eqb-true (bit_at v b) 1 q) in omega arith)
    (λ (e : n ≡ b → ⊥). let y = some_in n v b (omega arith) q in omega arith)
    (cases_eq n b)

pub none_in : (n : ℕ) → buckets_in n 0 ≡ 0
unfolding buckets_in
none_in zero = refl
none_in (suc n) = omega (arith, bit_at-zero n, none_in n)

pub most_in : (n v : ℕ) → buckets_in n v ≤ n
unfolding buckets_in
most_in zero v = omega arith
most_in (suc n) v = let y = most_in n v in omega arith

-- the count from the lowest bucket on
count_low : (n v : ℕ) → buckets_in (suc n) v ≡ v % 2 + buckets_in n (v / 2)
unfolding buckets_in
count_low zero v = omega (arith, bit_at_lowest v)
count_low (suc n) v = omega (arith, bit_at-suc v n, count_low n v)

ones_none : ones 0 ≡ 0
unfolding ones
ones_none = refl

pub ones_in : (n v : ℕ) → v < 2 ^ n → ones v ≡ buckets_in n v
unfolding buckets_in
ones_in zero v h = let e : v ≡ 0 = omega arith in ap ones e ∙ ones_none
ones_in (suc n) v h =
    let p = pow-suc 2 n in
    let q : v / 2 < 2 ^ n = omega arith in
    omega (arith, ones_step v, ones_in n (v / 2) q, count_low n v)

-- a shift that leaves nothing, as a bound
pub shifted_out : (v n : ℕ) → eqb (v / 2 ^ n) 0 ≡ ltb v (2 ^ n)
shifted_out v n =
    ⊎_elim
    (λ (q : v < 2 ^ n). eq-eqb (v / 2 ^ n) 0 (div-eq_of_lt q) ∙ sym (lt-ltb v (2 ^ n) q))
    (λ (q : 2 ^ n ≤ v). ne_eqb (v / 2 ^ n) 0 (λ e. let p = le-div 1 v (2 ^ n) (pow_pos n) (omega arith) in omega arith) ∙ sym (le-ltb v (2 ^ n) q))
    (cases_lt v (2 ^ n))

pub all_below : (v n : ℕ) → v < 2 ^ 32 → 32 ≤ n → ltb v (2 ^ n) ≡ true
all_below v n h k = let p : 2 ^ 32 ≤ 2 ^ n = pow_mono k in lt-ltb v (2 ^ n) (omega arith)
