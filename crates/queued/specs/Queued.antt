-- Queued memory to the byte: what its parts mean, and what each call makes of them.
use Rattle.std.specs.Prelude.{ℕ, ◌-◌, cond, not, List, [], ◌∷◌, ◌++◌, map, length, take, drop, nat_lt}
use Rattle.std.specs.Option.{option_map, option_map_or}
use Rattle.lines.specs.Lines.{Line, count_of, lines_of, counted}
use Rattle.memory.specs.declared.power.Power.{Power}
use Rattle.memory.specs.Power.{supply, off, on, is_on, suffices, spent, meaning_of}
use Rattle.memory.specs.Meaning.{Meaning}
use Rattle.queued.specs.declared.slot.Slot.{Slot}
use Rattle.queued.specs.declared.Queued.{Queued}
use Rattle.queued.specs.Slots.{is_queued, renewed, slot}
use Rattle.queued.specs.Queue.{entries_in}
use Rattle.queued.specs.Below.{overlaid, moved, cut_down}

pub record Parts : Type 0 where
  pub bytes : List ℕ  -- the lent bytes
  pub choice : ℕ  -- what a cut leaves of the queued writes
  pub queue : List Slot  -- the queued writes, the oldest first
  pub power : Power

-- nothing is queued but while power is on
abbrev pub parts_of : Queued → Parts
parts_of q =
    record {
      bytes = q.bytes.now;
      choice = q.choice;
      queue = option_map_or (λ r. entries_in r.queue) q.running [];
      power = supply (option_map (λ r. r.left) q.running);
    }

-- a read gives what was queued last, else what lies below; a line is durable unless it is queued
abbrev pub meaning_in : Parts → Meaning
meaning_in s =
    meaning_of (overlaid (lines_of s.bytes) s.queue) (counted (λ l. not (is_queued s.queue l)) (count_of s.bytes)) s.power

abbrev pub meant : Queued → Meaning
meant q = meaning_in (parts_of q)

-- without power nothing is queued
abbrev pub stopped : Parts → Parts
stopped s = record s { queue = []; power = off }

-- power goes: each queued line is left by its fate
abbrev pub darkened : Parts → Parts
darkened s = record (stopped s) { bytes = cut_down s.choice 0 s.bytes s.queue }

-- an operation does f while operations are left; with none left power goes, and with power off nothing changes
abbrev pub operated : (Parts → Parts) → Parts → Parts
operated f s = cond (is_on s.power) (cond (suffices s.power) (f (record s { power = spent s.power })) (darkened s)) s

-- a write to a queued line replaces its bytes in place
abbrev pub renewing : ℕ → Line → Parts → Parts
renewing l c s = record s { queue = map (renewed l c) s.queue }

-- the oldest moves down if sixteen are queued
abbrev pub roomy : Parts → Parts
roomy s = record s { bytes = moved s.bytes (take (length s.queue - 15) s.queue); queue = drop (length s.queue - 15) s.queue }

-- a write to any other line enters last, once there is room
abbrev pub entering : ℕ → Line → Parts → Parts
entering l c s = record (roomy s) { queue = (roomy s).queue ++ (slot l c ∷ []) }

abbrev pub entered : ℕ → Line → Parts → Parts
entered l c s = cond (is_queued s.queue l) (renewing l c s) (entering l c s)

-- all queued lines move down
abbrev pub drained : Parts → Parts
drained s = record s { bytes = moved s.bytes s.queue; queue = [] }

-- what each call leaves; a write to a missing line does nothing
abbrev pub after_write : ℕ → Line → Parts → Parts
after_write l c s = cond (nat_lt l (count_of s.bytes)) (operated (entered l c) s) s

abbrev pub after_fence : Parts → Parts
after_fence s = operated drained s

abbrev pub after_cut : Parts → Parts
after_cut s = cond (is_on s.power) (darkened s) s

abbrev pub after_power_up : ℕ → Parts → Parts
after_power_up k s = record s { power = on k }
