-- The closing of a record, and what the manager has at hand besides block and memory.
use Rattle.std.specs.Prelude.{◌≡◌, ℕ, ◌<◌, ◌≤◌, cond, List, [], ◌∷◌, replicate, Some, None, Ok, Err, Option, Result, ◌==◌, slice_index_or, slice_set}
use Rattle.layout.specs.declared.block.BlockEntry.{BlockEntry}
use Rattle.layout.specs.declared.open.OpenRecord.{OpenRecord}
use Rattle.layout.specs.declared.sizes.Sizes.{Sizes}
use Rattle.layout.specs.Block.{entry_at, records_of, counting}
use Rattle.layout.specs.Places.{header_line}
use Rattle.header.specs.declared.Header.{Header}
use Rattle.header.specs.Header.{written}
use Rattle.undo_log.specs.declared.fault.Place.{Place}
use Rattle.undo_log.specs.declared.fault.Place.TheVariants.{Record}
use Rattle.undo_log.specs.declared.fault.LogFault.{LogFault}
use Rattle.undo_log.specs.declared.fault.LogFault.TheVariants.{NoSuchCore}
use Rattle.undo_log.specs.Steps.{World, Step, write, fence, enter, Does, Ran}

-- what goes with the power: each core's open record, and the bucket before its current one
pub record Notes : Type 0 where
  pub sizes : Sizes
  pub opens : List (Option OpenRecord)
  pub befores : List ℕ

-- a log as its user sees it: what goes with the power, and what outlives it
pub record State : Type 0 where
  pub notes : Notes
  pub world : World

abbrev pub state_of : Notes → World → State
state_of n w = record { notes = n; world = w }

-- a step that leaves the notes as they are
pub record Takes (x : Step) (s : State) (r : Result Unit LogFault) (s' : State) : Type 0 where
  pub did : Does x s.world r s'.world
  pub rest : s'.notes ≡ s.notes

-- these steps in order until power goes, and the notes as they are
pub record Runs (xs : List Step) (s : State) (r : Result Unit LogFault) (s' : State) : Type 0 where
  pub ran : Ran xs s.world r s'.world
  pub rest : s'.notes ≡ s.notes

abbrev pub open_at : Notes → ℕ → Option OpenRecord
open_at n k = slice_index_or n.opens k None

abbrev pub before_at : Notes → ℕ → ℕ
before_at n k = slice_index_or n.befores k 255

-- core k with another open record
abbrev pub with_open : Notes → ℕ → Option OpenRecord → Notes
with_open n k o = record { sizes = n.sizes; opens = slice_set n.opens k o; befores = n.befores }

-- core k with another open record and another bucket before
abbrev pub noting : Notes → ℕ → Option OpenRecord → ℕ → Notes
noting n k o b = record { sizes = n.sizes; opens = slice_set n.opens k o; befores = slice_set n.befores k b }

-- no open record, and no bucket before
abbrev pub blank_notes : Sizes → Notes
blank_notes s = record { sizes = s; opens = replicate s.cores None; befores = replicate s.cores 255 }

abbrev pub record_place : ℕ → OpenRecord → Place
record_place k o = Record k o.id

-- the bucket before the record's own, where `was` is the one before the entry's current
abbrev pub bucket_before : BlockEntry → ℕ → OpenRecord → ℕ
bucket_before e was o = cond (o.id.slot == 0) e.current was

abbrev pub header_of : Sizes → BlockEntry → ℕ → ℕ → OpenRecord → Header
header_of s e was k o =
    record { lines = o.lines; count = o.count; core = k; before = bucket_before e was o; number = records_of s e }

-- a record is closed by its header, a fence, and the step in the block that counts it
abbrev pub closing : Sizes → BlockEntry → ℕ → ℕ → OpenRecord → List Step
closing s e was k o =
    write (header_line s o.id.bucket o.id.slot) (written (header_of s e was k o)) (record_place k o)
    ∷ fence (record_place k o)
    ∷ enter k (counting e o.id.bucket o.id.slot)
    ∷ []

-- the notes after it; where power went they are as they were
abbrev pub closed_notes : Result Unit LogFault → Notes → BlockEntry → ℕ → OpenRecord → Notes
closed_notes (Ok x) n e k o = noting n k None (bucket_before e (before_at n k) o)
closed_notes (Err f) n e k o = n

-- the closing of record o of core k
pub record ClosesRecord (s : State) (k : ℕ) (o : OpenRecord) (r : Result Unit LogFault) (s' : State) : Type 0 where
  pub ran : Ran (closing s.notes.sizes (entry_at s.world.block k) (before_at s.notes k) k o) s.world r s'.world
  pub notes : s'.notes ≡ closed_notes r s.notes (entry_at s.world.block k) k o

-- what a close of core k's open record answers and leaves: without one there is nothing to do
pub record Closes (s : State) (k : ℕ) (r : Result Unit LogFault) (s' : State) : Type 0 where
  pub missing : s.notes.sizes.cores ≤ k → (r ≡ Err (NoSuchCore k)) × (s' ≡ s)
  pub none : k < s.notes.sizes.cores → open_at s.notes k ≡ None → (r ≡ Ok tt) × (s' ≡ s)
  pub some : k < s.notes.sizes.cores → (o : OpenRecord) → open_at s.notes k ≡ Some o → ClosesRecord s k o r s'
