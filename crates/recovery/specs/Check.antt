-- The check of every closed record of every core, cores ascending, before anything is written.
use Rattle.std.specs.Prelude.{◌≡◌, ℕ, ◌+◌, ◌*◌, ◌≤◌, Bool, true, false, ◌&&◌, List, [], ◌∷◌, length, Ok, Err, Result, nat_le}
use Rattle.memory.specs.Meaning.{Line, content_at}
use Rattle.layout.specs.Places.{record_id}
use Rattle.layout.specs.declared.block.BlockEntry.{BlockEntry}
use Rattle.layout.specs.declared.sizes.Sizes.{Sizes}
use Rattle.layout.specs.Block.{entry_at, records_of, BlockRules}
use Rattle.layout.specs.Sizes.{lines_needed}
use Rattle.undo_log.specs.declared.fault.LogFault.{LogFault}
use Rattle.undo_log.specs.declared.fault.LogFault.TheVariants.{NotReady, BadHeader}
use Rattle.undo_log.specs.Closing.{State}
use Rattle.recovery.specs.Walk.{Walk, stops, finds, walk_of, entries_in}

-- the memory has power, and the lines of the log
abbrev pub ready : State → Bool
ready s = s.world.memory.on && nat_le (lines_needed s.notes.sizes) (length s.world.memory.lines)

-- the records and entries of core k's walk, or the place of the header that fails
abbrev pub tally : ℕ → Walk → Result (ℕ × ℕ) LogFault
tally k (stops b r) = Err (BadHeader k (record_id b r))
tally k (finds fs) = Ok (length fs, entries_in fs)

-- more records and entries on top of an answer
abbrev pub plus : ℕ × ℕ → Result (ℕ × ℕ) LogFault → Result (ℕ × ℕ) LogFault
plus m (Ok n) = Ok (m.0 + n.0, m.1 + n.1)
plus m (Err e) = Err e

abbrev pub and_then : Result (ℕ × ℕ) LogFault → Result (ℕ × ℕ) LogFault → Result (ℕ × ℕ) LogFault
and_then (Ok m) later = plus m later
and_then (Err e) later = Err e

-- the cores from k on, which have these entries: all their records and entries, or the first place that fails
unfoldable pub checked : Sizes → (ℕ → Line) → ℕ → List BlockEntry → Result (ℕ × ℕ) LogFault
checked s lines k [] = Ok (0, 0)
checked s lines k (e ∷ es) = and_then (tally k (walk_of s lines k e)) (checked s lines (k + 1) es)

-- all cores of a log
abbrev pub checked_in : State → Result (ℕ × ℕ) LogFault
checked_in s = checked s.notes.sizes (content_at s.world.memory) 0 s.world.block

-- what a check answers; it changes nothing
pub record Checks (s : State) (r : Result (ℕ × ℕ) LogFault) : Type 0 where
  pub unready : ready s ≡ false → r ≡ Err NotReady
  pub done : ready s ≡ true → r ≡ checked_in s

-- However the headers lead, also back to where the walk has been, it ends: under the rules of the block it visits at
-- most B × R records for a core.
abbrev pub Ends : Sizes → List BlockEntry → Type 0
Ends s block = BlockRules s block → (k : ℕ) → records_of s (entry_at block k) ≤ s.buckets * s.records
