-- Straight memory to the byte: what its bytes mean, and what each call leaves in them.
use Rattle.std.specs.Prelude.{ℕ, true, cond, List, replicate, nat_lt}
use Rattle.lines.specs.Lines.{Line, count_of, line_of, with_line, lines_of, torn}
use Rattle.memory.specs.declared.power.Power.{Power}
use Rattle.memory.specs.Power.{is_on, suffices, spent, meaning_of}
use Rattle.memory.specs.Meaning.{Meaning}
use Rattle.straight.specs.declared.Straight.{Straight}

-- the lent bytes
abbrev pub bytes_in : Straight → List ℕ
bytes_in s = s.bytes.now

-- every whole line, all durable
abbrev pub meant : Straight → Meaning
meant s = meaning_of (lines_of (bytes_in s)) (replicate (count_of (bytes_in s)) true) s.power

-- what a write of content c to line l leaves in the bytes: nothing new with power off, the line with operations left,
-- and with none left its first 32 bytes
abbrev pub written : Power → List ℕ → ℕ → Line → List ℕ
written p bs l c = cond (is_on p) (with_line bs l (cond (suffices p) c (torn (line_of bs l) c))) bs

-- a write to a missing line spends nothing
abbrev pub power_after_write : Power → List ℕ → ℕ → Power
power_after_write p bs l = cond (nat_lt l (count_of bs)) (spent p) p
