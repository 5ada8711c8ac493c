use Rattle.std.proofs.Common.{ℕ, ◌<◌, ◌≤◌, arith, rules}
use Rattle.std.proofs.lemmas.Nat.{mul-le}
use Rattle.layout.specs.declared.sizes.Sizes.{Sizes}
use Rattle.layout.specs.Sizes.{data_lines_of}
use Rattle.layout.specs.Places.{entry_line}
use Rattle.undo_log.proofs.state.Log.line_of.Goals as goal

-- the lines of a log have 16-bit numbers
low : (s : Sizes) (b r i : ℕ) → data_lines_of s ≤ 512 → s.records ≤ 4 → b ≤ 255 → r ≤ 255 → i ≤ 255 → entry_line s b r i < 65536
low s b r i d e f g h = let p = mul-le b s.records 255 4 f e in omega arith

pub overflow_cast-result : goal.overflow_cast-result
overflow_cast-result g c =
    let l = c.args.self.now in
    let q = c.entry_line.ensures.at in
    let p = low l.sizes c.args.id.bucket c.args.id.slot c.args.«entry» l.bounded.lines l.bounded.records (search rules) (search rules) (search rules) in
    search rules
