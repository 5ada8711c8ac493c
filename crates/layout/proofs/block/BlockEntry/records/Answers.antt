use Rattle.std.proofs.Common.{◌≡◌, ℕ, ◌-◌, ◌*◌, ◌≤◌, arith, rules}
use Rattle.std.proofs.lemmas.Nat.{mul-le}
use Rattle.layout.specs.Block.{buckets_in}
use Rattle.layout.proofs.Vectors.{most_in}
use Rattle.layout.proofs.block.BlockEntry.records.Goals as goal

small : (v n q r : ℕ) → n ≡ buckets_in 32 v → q ≡ n - 1 → r ≤ 255 → q * r ≤ 31 * 255
small v n q r e p k = mul-le q r 31 255 (omega (arith, most_in 32 v)) k

pub overflow_mul-result : goal.overflow_mul-result
overflow_mul-result c = let h = small _ _ _ c.from-2.result c.buckets.ensures c.saturating_sub.ensures (search rules) in search rules

pub overflow_add-result : goal.overflow_add-result
overflow_add-result c = let h = small _ _ _ c.from-2.result c.buckets.ensures c.saturating_sub.ensures (search rules) in search rules

pub returns : goal.returns
returns c =
    let h = small _ _ _ c.from-2.result c.buckets.ensures c.saturating_sub.ensures (search rules) in
    let others : c.saturating_sub.result * c.from-2.result ≡ (buckets_in 32 c.args.self.now.vector - 1) * c.args.sizes.now.records = cc in
    (omega arith, search rules)
