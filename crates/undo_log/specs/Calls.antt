-- The log as its user sees it, and what the shorter calls answer and leave.
use Rattle.std.specs.Prelude.{◌≡◌, ℕ, ◌<◌, ◌≤◌, true, false, List, length, None, Ok, Err, Result, ◌≢◌}
use Rattle.memory.specs.declared.Memory.{Ghosts}
use Rattle.memory.specs.Meaning.{Line, Cuts, powered_up}
use Rattle.layout.specs.declared.block.BlockEntry.{BlockEntry}
use Rattle.layout.specs.declared.sizes.Sizes.{Sizes}
use Rattle.layout.specs.Block.{empty, block_sound}
use Rattle.layout.specs.Sizes.{data_lines_of, sizes_fit}
use Rattle.undo_log.specs.declared.fault.Place.{Place}
use Rattle.undo_log.specs.declared.fault.LogFault.{LogFault}
use Rattle.undo_log.specs.declared.fault.LogFault.TheVariants.{UnfitSizes, UnfitList, BrokenBlock, NoDataLine}
use Rattle.undo_log.specs.declared.state.Log.{Log}
use Rattle.undo_log.specs.Steps.{World, write, enter, Does}
use Rattle.undo_log.specs.Closing.{Notes, State, state_of, blank_notes, noting, Takes}

abbrev pub world : {X : Type 0} {G : Ghosts X} → Log X G → World
world {X} {G} l = record { block = l.block.items; memory = G.meaning l.memory }

abbrev pub notes_of : {X : Type 0} {G : Ghosts X} → Log X G → Notes
notes_of l = record { sizes = l.sizes; opens = l.noted.«open».items; befores = l.noted.before.items }

abbrev pub state : {X : Type 0} {G : Ghosts X} → Log X G → State
state l = state_of (notes_of l) (world l)

-- sizes of a log that is not started
abbrev pub no_sizes : Sizes
no_sizes = record { data_lines = 0; buckets = 0; records = 0; cores = 0; cache_lines = 0 }

-- what a start with sizes s and the entries es answers and leaves: the memory is cut
pub record Starts (sizes : Sizes) (es : List BlockEntry) (s : State) (r : Result Unit LogFault) (s' : State) : Type 0 where
  pub unfit : sizes_fit sizes (length s.world.memory.lines) ≡ false → (r ≡ Err UnfitSizes) × (s' ≡ s)
  pub broken :
      sizes_fit sizes (length s.world.memory.lines) ≡ true → block_sound sizes es ≡ false
      → (r ≡ Err BrokenBlock) × (s' ≡ s)
  pub done :
      sizes_fit sizes (length s.world.memory.lines) ≡ true → block_sound sizes es ≡ true
      → (r ≡ Ok tt) × ((s'.notes ≡ blank_notes sizes) × ((s'.world.block ≡ es) × Cuts s.world.memory s'.world.memory))

-- what filling a lent list with the block answers and leaves in it
pub record Lists (block es : List BlockEntry) (r : Result Unit LogFault) (es' : List BlockEntry) : Type 0 where
  pub done : length es ≡ length block → (r ≡ Ok tt) × (es' ≡ block)
  pub unfit : (length es ≢ length block) → (r ≡ Err UnfitList) × (es' ≡ es)

-- what a write of a data line answers and leaves
pub record WritesData (p : Place) (l : ℕ) (c : Line) (s : State) (r : Result Unit LogFault) (s' : State) : Type 0 where
  pub outside : data_lines_of s.notes.sizes ≤ l → (r ≡ Err (NoDataLine l)) × (s' ≡ s)
  pub did : l < data_lines_of s.notes.sizes → Takes (write l c p) s r s'

-- core k's entry is emptied, and it has no open record and no bucket before
pub record Empties (k : ℕ) (s s' : State) : Type 0 where
  pub did : Does (enter k empty) s.world (Ok tt) s'.world
  pub notes : s'.notes ≡ noting s.notes k None 255

-- what goes with the power is forgotten
abbrev pub forgotten : State → State
forgotten s = state_of (blank_notes s.notes.sizes) s.world

-- power goes: the block stays, and the notes go
pub record Loses (s s' : State) : Type 0 where
  pub memory : Cuts s.world.memory s'.world.memory
  pub block : s'.world.block ≡ s.world.block
  pub notes : s'.notes ≡ blank_notes s.notes.sizes

-- power on with k operations left, and nothing else changed
abbrev pub powered : State → ℕ → State
powered s k = state_of s.notes (record { block = s.world.block; memory = powered_up s.world.memory k })
