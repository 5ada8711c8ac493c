-- Every line of a record is its own: behind the data lines, within the memory, and of no other record.
use Rattle.std.proofs.Common.{◌≡◌, ℕ, ◌+◌, ◌*◌, ◌/◌, ◌%◌, ◌<◌, ◌≤◌, sym, ap, ◌∙◌, arith}
use lib.Arith.{digits_lt, digits_div, digits_mod}
use Rattle.layout.specs.declared.sizes.Sizes.{Sizes}
use Rattle.layout.specs.Sizes.{lines_needed}
use Rattle.layout.specs.Places.{entry_line, Apart}

lines_alone : (s : Sizes) (b r i b' r' i' : ℕ) → r < s.records → r' < s.records → i ≤ 7 → i' ≤ 7
    → entry_line s b r i ≡ entry_line s b' r' i' → (b ≡ b') × (r ≡ r') × (i ≡ i')
lines_alone s b r i b' r' i' h h' k k' q =
    let p : b * s.records + r ≡ b' * s.records + r' = omega arith in (
      sym (digits_div b h) ∙ ap (λ (n : ℕ). n / s.records) p ∙ digits_div b' h',
      sym (digits_mod b h) ∙ ap (λ (n : ℕ). n % s.records) p ∙ digits_mod b' h',
      omega arith,
    )

lines_inside : (s : Sizes) (b r i : ℕ) → b < s.buckets → r < s.records → i ≤ 7 → entry_line s b r i < lines_needed s
lines_inside s b r i h k g = let p : b * s.records + r < s.buckets * s.records = digits_lt h k in omega arith

pub lines_apart : (s : Sizes) (b r i : ℕ) → Apart s b r i
lines_apart s b r i = record { behind = omega arith; inside = lines_inside s b r i; alone = lines_alone s b r i }
