-- A power supply: off, or on with some operations left.
use Rattle.std.specs.Prelude.{ℕ, ◌-◌, Bool, cond, List, Some, None, Option, is_some, unwrap_or, nat_lt}
use Rattle.memory.specs.declared.power.Power.{Power}
use Rattle.memory.specs.Meaning.{Line, Meaning}

-- this many operations left, if power is on
abbrev pub supply : Option ℕ → Power
supply left = record { left = left }

abbrev pub off : Power
off = supply None

abbrev pub on : ℕ → Power
on n = supply (Some n)

abbrev pub is_on : Power → Bool
is_on p = is_some p.left

abbrev pub left_in : Power → ℕ
left_in p = unwrap_or p.left 0

-- whether one more operation completes
abbrev pub suffices : Power → Bool
suffices p = nat_lt 0 (left_in p)

-- what an operation leaves: one fewer, or with none left no power
abbrev pub spent : Power → Power
spent p = cond (suffices p) (on (left_in p - 1)) off

-- the meaning of lines, marks of the durable ones, and a power supply
abbrev pub meaning_of : List Line → List Bool → Power → Meaning
meaning_of lines durable power = record { lines = lines; durable = durable; on = is_on power; left = left_in power }
