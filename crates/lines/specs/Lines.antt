-- Lines of 64 bytes within bytes, and what stands behind the last of them.
use Rattle.std.specs.Prelude.{◌≡◌, ℕ, ◌+◌, ◌*◌, ◌/◌, cond, List, ◌++◌, map, length, take, drop, Some, None, Option, nat_lt}
use Rattle.std.specs.List.{range_with_len}
use Rattle.std.specs.Borrow.{MutBor}

-- a line's content, 64 bytes
abbrev pub Line : Type 0
Line = List ℕ

-- how many whole lines the bytes hold
abbrev pub count_of : List ℕ → ℕ
count_of bs = length bs / 64

-- the 64 bytes of line l
abbrev pub line_of : List ℕ → ℕ → Line
line_of bs l = take 64 (drop (l * 64) bs)

-- line l, if there is one
abbrev pub line_at : List ℕ → ℕ → Option Line
line_at bs l = cond (nat_lt l (count_of bs)) (Some (line_of bs l)) None

-- the bytes with line l replaced, if there is one
abbrev pub with_line : List ℕ → ℕ → Line → List ℕ
with_line bs l c = cond (nat_lt l (count_of bs)) (take (l * 64) bs ++ (c ++ drop (l * 64 + 64) bs)) bs

-- f 0, f 1, .., n of them
abbrev pub counted : {A : Type 0} → (ℕ → A) → ℕ → List A
counted f n = map f (range_with_len 0 n)

-- all whole lines, in order
unfoldable pub lines_of : List ℕ → List Line
lines_of bs = counted (line_of bs) (count_of bs)

-- what stands behind the last whole line
abbrev pub rest_of : List ℕ → List ℕ
rest_of bs = drop (count_of bs * 64) bs

-- the first 32 bytes new, the other 32 old
abbrev pub torn : Line → Line → Line
torn old new = take 32 new ++ drop 32 old

-- the same bytes stay lent, and behind their last line nothing changes
pub record StaysLent (b b' : MutBor (List ℕ)) : Type 0 where
  pub lender : b'.ghost_name ≡ b.ghost_name
  pub rest : rest_of b'.now ≡ rest_of b.now
