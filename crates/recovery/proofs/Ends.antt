-- Under the rules of the block an entry stands for at most as many records as the log has.
use Rattle.std.proofs.Common.{◌≡◌, ℕ, zero, suc, ◌+◌, ◌-◌, ◌*◌, ◌/◌, ◌%◌, ◌^◌, ◌<◌, ◌≤◌, true, List, ap, ◌∙◌, ⊎_elim, add-mul, arith}
use Rattle.std.proofs.lemmas.Nat.{mul-le}
use Rattle.std.proofs.lemmas.Bool.{cases_lt, cases_eq, eq-eqb}
use Rattle.layout.specs.declared.block.BlockEntry.{BlockEntry}
use Rattle.layout.specs.declared.sizes.Sizes.{Sizes}
use Rattle.layout.specs.Block.{empty, entry_at, has, buckets_in, records_of, Filled}
use Rattle.layout.proofs.Vectors.{most_in, none_in}
use Rattle.recovery.specs.Check.{Ends}

-- of buckets below B only there are at most B
few_in : (n v B : ℕ) → ((b : ℕ) → has v b ≡ true → b < B) → buckets_in n v ≤ B
unfolding buckets_in
few_in zero v B h = omega arith
few_in (suc n) v B h =
    ⊎_elim
    (λ (q : n < B). let m = most_in n v in omega arith)
    (λ (q : B ≤ n). ⊎_elim
    (λ (p : v / 2 ^ n % 2 ≡ 1). absurd (omega (arith, h n (eq-eqb (v / 2 ^ n % 2) 1 p))))
    (λ (p : v / 2 ^ n % 2 ≡ 1 → ⊥). omega (arith, few_in n v B h))
    (cases_eq (v / 2 ^ n % 2) 1))
    (cases_lt n B)

pub none_of : (s : Sizes) → records_of s empty ≡ 0
none_of s = let p = none_in 32 in let q : buckets_in 32 0 - 1 ≡ 0 = omega arith in ap (λ (x : ℕ). x * s.records + 0) q ∙ omega arith

few_of : (s : Sizes) (e : BlockEntry) → Filled s e → records_of s e ≤ s.buckets * s.records
few_of s e f =
    let x = few_in 32 e.vector s.buckets f.below in
    let y = f.below e.current f.current in
    let z = mul-le (buckets_in 32 e.vector - 1) s.records (s.buckets - 1) s.records (omega arith) (omega arith) in
    let q : s.buckets * s.records ≡ (s.buckets - 1) * s.records + s.records =
    (let p : s.buckets ≡ s.buckets - 1 + 1 = omega arith in ap (λ (b : ℕ). b * s.records) p ∙ add-mul (s.buckets - 1) 1 s.records ∙ omega arith) in
    omega (arith, f.most)

pub walks_end : (s : Sizes) (block : List BlockEntry) → Ends s block
walks_end s block rules k =
    ⊎_elim
    (λ (p : entry_at block k ≡ empty). let q = ap (records_of s) p ∙ none_of s in omega arith)
    (λ (p : Filled s (entry_at block k)). few_of s (entry_at block k) p)
    (rules.each k)
