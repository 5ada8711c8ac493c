-- Appending: a line's old content becomes the next entry of its core's open record.
use Rattle.std.specs.Prelude.{◌≡◌, ℕ, ◌+◌, ◌<◌, ◌≤◌, cond, List, [], ◌∷◌, Some, None, Ok, Err, Option, Result, ◌==◌}
use Rattle.memory.specs.Meaning.{Line}
use Rattle.layout.specs.declared.block.BlockEntry.{BlockEntry}
use Rattle.layout.specs.declared.open.OpenRecord.{OpenRecord}
use Rattle.layout.specs.declared.sizes.Sizes.{Sizes}
use Rattle.layout.specs.Block.{entry_at}
use Rattle.layout.specs.Places.{entry_line}
use Rattle.layout.specs.Sizes.{data_lines_of}
use Rattle.undo_log.specs.declared.fault.LogFault.{LogFault}
use Rattle.undo_log.specs.declared.fault.LogFault.TheVariants.{NoSuchCore, NoDataLine, NoRoom}
use Rattle.undo_log.specs.Steps.{Step, write, Ran}
use Rattle.undo_log.specs.Open.{log_target, with_line}
use Rattle.undo_log.specs.Closing.{Notes, State, before_at, with_open, record_place, closing, closed_notes}

-- the entry is written, and a record of seven is closed
abbrev pub appending : Sizes → BlockEntry → ℕ → ℕ → OpenRecord → ℕ → Line → List Step
appending s e was k o l c =
    write (entry_line s o.id.bucket o.id.slot (o.count + 1)) c (record_place k o)
    ∷ cond (o.count + 1 == 7) (closing s e was k (with_line o l)) []

-- the notes after it; where power went they are as they were
abbrev pub appended_notes : Result Unit LogFault → Notes → BlockEntry → ℕ → OpenRecord → ℕ → Notes
appended_notes (Err f) n e k o l = n
appended_notes (Ok x) n e k o l =
    cond (o.count + 1 == 7) (closed_notes (Ok x) n e k (with_line o l)) (with_open n k (Some (with_line o l)))

-- the record that takes core k's next entry
abbrev pub target : State → ℕ → Option OpenRecord
target s k = log_target s.notes.sizes s.world.block s.notes.opens k

-- one more entry in record o of core k
pub record AppendsTo (s : State) (k : ℕ) (o : OpenRecord) (l : ℕ) (c : Line) (r : Result Unit LogFault) (s' : State) : Type 0 where
  pub ran : Ran (appending s.notes.sizes (entry_at s.world.block k) (before_at s.notes k) k o l c) s.world r s'.world
  pub notes : s'.notes ≡ appended_notes r s.notes (entry_at s.world.block k) k o l

-- what an append of line l with content c for core k answers and leaves
pub record Appends (s : State) (k l : ℕ) (c : Line) (r : Result Unit LogFault) (s' : State) : Type 0 where
  pub missing : s.notes.sizes.cores ≤ k → (r ≡ Err (NoSuchCore k)) × (s' ≡ s)
  pub outside : k < s.notes.sizes.cores → data_lines_of s.notes.sizes ≤ l → (r ≡ Err (NoDataLine l)) × (s' ≡ s)
  pub full :
      k < s.notes.sizes.cores → l < data_lines_of s.notes.sizes → target s k ≡ None → (r ≡ Err (NoRoom k)) × (s' ≡ s)
  pub some :
      k < s.notes.sizes.cores → l < data_lines_of s.notes.sizes → (o : OpenRecord) → target s k ≡ Some o
      → AppendsTo s k o l c r s'
