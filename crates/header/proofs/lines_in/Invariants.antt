use Rattle.std.proofs.Common.{◌≡◌, ℕ, ◌/◌, ◌<◌, true, ltb, get_or}
use Rattle.header.specs.Header.{field_good, address_at}
use Rattle.header.proofs.lines_in.Given as goal

abbrev pub invariant-loop-i : goal.invariant-loop-i
invariant-loop-i l =
    ((k : ℕ) → k < l.i → field_good l.sizes (ltb k (get_or l.bytes 56 0)) (address_at l.bytes k) ≡ true)
    × ((k : ℕ) → k < l.i → get_or l.line-items k 0 ≡ address_at l.bytes k / 64)
