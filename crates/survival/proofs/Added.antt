-- Once a record is counted the walk finds it first, and then what it found before.
use Rattle.std.proofs.Common.{◌≡◌, ℕ, zero, suc, ◌+◌, ◌-◌, ◌*◌, ◌^◌, ◌<◌, ◌≤◌, Bool, true, false, cond, eqb, ltb, ◌⊎◌, List, ◌∷◌, Some, None, Option, sym, refl, ap, ◌∙◌, subst, inl, inr, ⊎_elim, suc-mul, zero-mul, arith}
use lib.Bits.{bit_or}
use Rattle.std.proofs.lemmas.Bool.{eq-eqb, ne_eqb, lt-ltb, and_from, and_parts, cond-true, cond-false}
use Rattle.std.proofs.lemmas.Option.{cond_some}
use Rattle.memory.specs.Meaning.{Line}
use Rattle.layout.specs.declared.block.BlockEntry.{BlockEntry}
use Rattle.layout.specs.declared.sizes.Sizes.{Sizes}
use Rattle.layout.specs.Block.{empty, has, buckets_in, records_of, counting, Filled}
use Rattle.layout.specs.Places.{record_id, header_line, in_log}
use Rattle.layout.proofs.Vectors.{has_old, count_new, or_old, some_in, none_in}
use Rattle.header.specs.declared.Header.{Header}
use Rattle.header.specs.Header.{read_header}
use Rattle.recovery.specs.declared.walk.Found.{Found}
use Rattle.recovery.specs.Walk.{finds, walk, walk_of, fits, fitting, adding, bucket_next, slot_next, turn, header_at}
use Rattle.survival.specs.Proper.{Next}
use Rattle.recovery.proofs.Ends.{none_of}
use Rattle.recovery.proofs.Same.{every, walk_finds}
use Rattle.recovery.proofs.Walks.{walk_none}

-- ---- a larger vector finds the same

abbrev pub Within : BlockEntry → BlockEntry → Type 0
Within e e' = (c : ℕ) → has e.vector c ≡ true → has e'.vector c ≡ true

-- the bucket before is as it must be
abbrev pub linked : Sizes → BlockEntry → ℕ → Header → Bool
linked s e n h = cond (ltb n s.records) (eqb h.before 255) (has e.vector h.before)

linked_more : (s : Sizes) (e e' : BlockEntry) (n : ℕ) (h : Header) → Within e e' → linked s e n h ≡ true → linked s e' n h ≡ true
linked_more s e e' n h more = go (ltb n s.records)
  where
    go : (t : Bool) → cond t (eqb h.before 255) (has e.vector h.before) ≡ true
        → cond t (eqb h.before 255) (has e'.vector h.before) ≡ true
    go true q = q
    go false q = more h.before q

fits_more : (s : Sizes) (k : ℕ) (e e' : BlockEntry) (n : ℕ) (h : Header) → Within e e' → fits s k e n h ≡ true → fits s k e' n h ≡ true
fits_more s k e e' n h more q = let (x, y) = and_parts _ _ q in and_from _ _ x (linked_more s e e' n h more y)

fitting_more : (s : Sizes) (k : ℕ) (e e' : BlockEntry) (n : ℕ) (o : Option Header) (h : Header) → Within e e'
    → fitting s k e n o ≡ Some h → fitting s k e' n o ≡ Some h
fitting_more s k e e' n None h more q = q
fitting_more s k e e' n (Some g) h more q =
    let (t, same) = cond_some (fits s k e n g) g h q in
    cond-true _ _ _ (fits_more s k e e' n g more t) ∙ ap Some same

header_at_more : (s : Sizes) (lines : ℕ → Line) (k : ℕ) (e e' : BlockEntry) (n b r : ℕ) (h : Header) → Within e e'
    → header_at s lines k e n b r ≡ Some h → header_at s lines k e' n b r ≡ Some h
unfolding header_at
header_at_more s lines k e e' n b r h more = go (in_log s b r)
  where
    go : (t : Bool) → cond t (fitting s k e n (read_header s (lines (header_line s b r)))) None ≡ Some h
        → cond t (fitting s k e' n (read_header s (lines (header_line s b r)))) None ≡ Some h
    go true q = fitting_more s k e e' n (read_header s (lines (header_line s b r))) h more q
    go false q = q

walk_more : (s : Sizes) (lines : ℕ → Line) (k : ℕ) (e e' : BlockEntry) (n b r : ℕ) (fs : List Found) → Within e e'
    → walk s lines k e n b r ≡ finds fs → walk s lines k e' n b r ≡ finds fs
walk_more s lines k e e' n b r fs more w =
    walk_finds s lines lines k e e' (λ _. Unit) (λ n b r h _ q. header_at_more s lines k e e' n b r h more q) n b r fs w (every (λ _. Unit) (λ _. tt) fs)

-- ---- one more record

-- what stands in the block where a record is the next: nothing, or a full bucket, or the record's own
pub data Stands (s : Sizes) (e : BlockEntry) (b r : ℕ) : Type 0 where
  none : r ≡ 0 → e ≡ empty → Stands s e b r
  full : r ≡ 0 → e.closed ≡ s.records → Filled s e → Stands s e b r
  here : 0 < r → b ≡ e.current → r ≡ e.closed → Filled s e → Stands s e b r

filled : (s : Sizes) (e : BlockEntry) → (e ≡ empty) ⊎ Filled s e → 0 < e.closed → Filled s e
filled s e (inl q) h = absurd (let z : e.closed ≡ 0 = ap (λ (x : BlockEntry). x.closed) q in omega arith)
filled s e (inr q) h = q

emptied : (s : Sizes) (e : BlockEntry) → (e ≡ empty) ⊎ Filled s e → e.closed ≡ 0 → e ≡ empty
emptied s e (inl q) h = q
emptied s e (inr q) h = absurd (let z = q.some in omega arith)

pub stands : (s : Sizes) (e : BlockEntry) (b r : ℕ) → (e ≡ empty) ⊎ Filled s e → Next s e b r → Stands s e b r
stands s e b zero sound next =
    ⊎_elim (λ (q : e.closed ≡ 0). none refl (emptied s e sound q))
    (λ (q : e.closed ≡ s.records). full refl q (filled s e sound (omega (arith, next.slot)))) (next.full refl)
stands s e b (suc r) sound next =
    let (is_b, is_r) = next.here (omega arith) in here (omega arith) is_b is_r (filled s e sound (omega arith))

pub one_more : (s : Sizes) (e : BlockEntry) (b r : ℕ) → s.buckets ≤ 32 → Next s e b r → Stands s e b r
    → records_of s (counting e b r) ≡ suc (records_of s e)
one_more s e b r few next (none is_r is) =
    let v : e.vector ≡ 0 = ap (λ (x : BlockEntry). x.vector) is in
    let c : e.closed ≡ 0 = ap (λ (x : BlockEntry). x.closed) is in
    let z : buckets_in 32 e.vector ≡ 0 = ap (buckets_in 32) v ∙ none_in 32 in
    let count = count_new 32 e.vector b (omega (arith, next.bucket)) (next.fresh is_r) in
    ap (λ (x : ℕ). (x - 1) * s.records + (r + 1)) (count ∙ ap suc z)
    ∙ omega (arith, zero-mul s.records, ap (λ (x : ℕ). (x - 1) * s.records) z)
one_more s e b r few next (full is_r is_c fill) =
    let count = count_new 32 e.vector b (omega (arith, next.bucket)) (next.fresh is_r) in
    let some = some_in 32 e.vector e.current (omega (arith, fill.below e.current fill.current)) fill.current in
    let is : buckets_in 32 (bit_or e.vector (2 ^ b)) - 1 ≡ suc (buckets_in 32 e.vector - 1) = omega (arith, count, some) in
    ap (λ (x : ℕ). x * s.records + (r + 1)) is ∙ omega (arith, suc-mul (buckets_in 32 e.vector - 1) s.records, is_r, is_c)
one_more s e b r few next (here is_r is_b is_c fill) =
    let count = or_old 32 e.vector b (subst (λ (c : ℕ). has e.vector c ≡ true) (sym is_b) fill.current) in
    ap (λ (x : ℕ). (x - 1) * s.records + (r + 1)) count ∙ omega (arith, is_c)

pub records_none : (s : Sizes) (e : BlockEntry) → e ≡ empty → records_of s e ≡ 0
records_none s e is = ap (records_of s) is ∙ none_of s

-- from the new record the walk goes on to where it began before
walk_on : (s : Sizes) (lines : ℕ → Line) (k : ℕ) (e : BlockEntry) (b r : ℕ) (h : Header) (fs : List Found) → Stands s e b r
    → (r ≡ 0 → h.before ≡ e.current) → walk s lines k e (records_of s e) e.current (e.closed - 1) ≡ finds fs
    → walk s lines k e (records_of s e) (bucket_next b r h) (slot_next s r) ≡ finds fs
walk_on s lines k e b r h fs (none is_r is) first w =
    let zero = records_none s e is in
    walk_none s lines k e (records_of s e) (bucket_next b r h) (slot_next s r) zero
    ∙ sym (walk_none s lines k e (records_of s e) e.current (e.closed - 1) zero) ∙ w
walk_on s lines k e b r h fs (full is_r is_c fill) first w =
    ap (λ (i : ℕ). walk s lines k e (records_of s e) (bucket_next b i h) (slot_next s i)) is_r
    ∙ ap (λ (c : ℕ). walk s lines k e (records_of s e) c (s.records - 1)) (first is_r)
    ∙ ap (λ (i : ℕ). walk s lines k e (records_of s e) e.current (i - 1)) (sym is_c) ∙ w
walk_on s lines k e b r h fs (here is_r is_b is_c fill) first w =
    let some : eqb r 0 ≡ false = ne_eqb r 0 (λ q. omega arith) in
    let is_bucket : bucket_next b r h ≡ e.current = cond-false _ _ _ some ∙ is_b in
    let is_slot : slot_next s r ≡ e.closed - 1 = cond-false _ _ _ some ∙ omega arith in
    ap (λ (c : ℕ). walk s lines k e (records_of s e) c (slot_next s r)) is_bucket
    ∙ ap (walk s lines k e (records_of s e) e.current) is_slot ∙ w

-- with a fitting header in the record's line
pub added_walk : (s : Sizes) (lines : ℕ → Line) (k : ℕ) (e : BlockEntry) (b r : ℕ) (h : Header) (fs : List Found) → s.buckets ≤ 32
    → Next s e b r → Stands s e b r → read_header s (lines (header_line s b r)) ≡ Some h → h.core ≡ k → h.number ≡ records_of s e
    → linked s (counting e b r) (records_of s e) h ≡ true → (r ≡ 0 → h.before ≡ e.current)
    → walk_of s lines k e ≡ finds fs → walk_of s lines k (counting e b r) ≡ finds (record { id = record_id b r; header = h } ∷ fs)
unfolding walk_of walk header_at
added_walk s lines k e b r h fs few next stand reads is_core is_number link first w =
    ap (λ (n : ℕ). walk s lines k (counting e b r) n b (r + 1 - 1)) (one_more s e b r few next stand)
    ∙ ap (λ (i : ℕ). walk s lines k (counting e b r) (suc (records_of s e)) b i) same_slot
    ∙ ap (turn s b r (walk s lines k (counting e b r) (records_of s e))) fitted
    ∙ ap (adding (record { id = record_id b r; header = h }))
    (walk_more s lines k e (counting e b r) (records_of s e) (bucket_next b r h) (slot_next s r) fs (has_old e.vector b)
    (walk_on s lines k e b r h fs stand first w))
  where
    same_slot : r + 1 - 1 ≡ r
    same_slot = omega arith

    inside : in_log s b r ≡ true
    inside = and_from _ _ (lt-ltb b s.buckets next.bucket) (lt-ltb r s.records next.slot)

    fitted : header_at s lines k (counting e b r) (records_of s e) b r ≡ Some h
    fitted =
        cond-true _ _ _ inside ∙ ap (fitting s k (counting e b r) (records_of s e)) reads
        ∙ cond-true _ _ _ (and_from _ _ (and_from _ _ (eq-eqb h.core k is_core) (eq-eqb h.number (records_of s e) is_number)) link)
