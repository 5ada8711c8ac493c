-- Facts between the private functions: what undoing one record or core leaves for the next, and what it needs.
use Rattle.std.specs.Prelude.{◌≡◌, ℕ, ◌<◌, ◌≤◌, true, length, slice_index, slice_set}
use Rattle.memory.specs.Meaning.{Line, content_at}
use Rattle.layout.specs.declared.block.BlockEntry.{BlockEntry}
use Rattle.layout.specs.declared.sizes.Sizes.{Sizes}
use Rattle.layout.specs.Sizes.{data_lines_of, lines_needed}
use Rattle.undo_log.specs.Closing.{State}
use Rattle.recovery.specs.declared.walk.Found.{Found}

-- lines that are no data lines have the same content in both
abbrev pub SameLog : Sizes → (ℕ → Line) → (ℕ → Line) → Type 0
SameLog s f g = (l : ℕ) → data_lines_of s ≤ l → g l ≡ f l

-- the notes, the block and the lines of the log are as they were, and power is on
pub record Kept (s s' : State) : Type 0 where
  pub notes : s'.notes ≡ s.notes
  pub on : s'.world.memory.on ≡ true
  pub count : length s'.world.memory.lines ≡ length s.world.memory.lines
  pub log : SameLog s.notes.sizes (content_at s.world.memory) (content_at s'.world.memory)
  pub block : s'.world.block ≡ s.world.block

-- the lines of the log and the entries of all cores but k are as they were, and power is on
pub record Emptied (k : ℕ) (s s' : State) : Type 0 where
  pub on : s'.world.memory.on ≡ true
  pub count : length s'.world.memory.lines ≡ length s.world.memory.lines
  pub log : SameLog s.notes.sizes (content_at s.world.memory) (content_at s'.world.memory)
  pub others : (e : BlockEntry) × (s'.world.block ≡ slice_set s.world.block k e)

-- record f lies in the memory, which has power, and its header names data lines
pub record Undoable (s : State) (f : Found) : Type 0 where
  pub on : s.world.memory.on ≡ true
  pub bucket : f.id.bucket < s.notes.sizes.buckets
  pub slot : f.id.slot < s.notes.sizes.records
  pub lines : lines_needed s.notes.sizes ≤ length s.world.memory.lines
  pub few : f.header.count ≤ 7
  pub used : (i : ℕ) → i < f.header.count → slice_index f.header.lines i < data_lines_of s.notes.sizes
