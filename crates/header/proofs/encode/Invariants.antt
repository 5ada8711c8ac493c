use Rattle.std.proofs.Common.{◌≡◌, ℕ, ◌*◌, ◌<◌, take, get_or}
use Rattle.header.specs.Header.{addresses}
use Rattle.header.proofs.encode.Given as goal

abbrev pub invariant-loop-i : goal.invariant-loop-i
invariant-loop-i l =
    (take (8 * l.i) l.bytes ≡ addresses (take l.i l.header.lines))
    × ((k : ℕ) → k < l.i → get_or l.header.lines k 0 < 65536)
