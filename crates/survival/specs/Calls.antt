-- What the manager's own calls make of logs in order: a start with an empty block brings them about, and every other call
-- but a cut keeps them, whatever the answer.
use Rattle.std.specs.Prelude.{◌≡◌, ℕ, ◌<◌, true, false, List, [], ◌∷◌, length, replicate, Some, None, Ok, Err, Result, ◌≢◌}
use Rattle.memory.specs.Meaning.{Cuts}
use Rattle.layout.specs.declared.open.OpenRecord.{OpenRecord}
use Rattle.layout.specs.declared.sizes.Sizes.{Sizes}
use Rattle.layout.specs.Block.{empty}
use Rattle.layout.specs.Sizes.{sizes_fit}
use Rattle.undo_log.specs.declared.fault.LogFault.{LogFault}
use Rattle.undo_log.specs.declared.fault.LogFault.TheVariants.{UnfitSizes}
use Rattle.undo_log.specs.Closing.{State, open_at, blank_notes}
use Rattle.recovery.specs.declared.walk.Found.{Found}
use Rattle.survival.specs.Orderly.{Tidy, Orderly}
use Rattle.survival.specs.Survives.{found_in, found_with}
use Rattle.undo_log.specs.Append.{target}

-- what a start with sizes s and an empty block answers and leaves
pub record Begins (sizes : Sizes) (s : State) (r : Result Unit LogFault) (s' : State) : Type 0 where
  pub unfit : sizes_fit sizes (length s.world.memory.lines) ≡ false → (r ≡ Err UnfitSizes) × (s' ≡ s)
  pub done :
      sizes_fit sizes (length s.world.memory.lines) ≡ true
      → (r ≡ Ok tt)
      × ((s'.notes ≡ blank_notes sizes) × ((s'.world.block ≡ replicate sizes.cores empty) × Cuts s.world.memory s'.world.memory))

-- after it every log is in order, and without records
abbrev pub OrderlyStart : Result Unit LogFault → State → Type 0
OrderlyStart r s' = r ≡ Ok tt → (k : ℕ) → Orderly s' k []

-- the logs of all cores but k stay in order, and as they were
abbrev pub OthersOrderly : State → ℕ → State → Type 0
OthersOrderly s k s' = (j : ℕ) (fs : List Found) → (j ≢ k) → Orderly s j fs → Orderly s' j fs

-- an append of line l for core k, where o is the record that takes the entry: the seventh closes it
pub record OrderlyAppend (s : State) (k l : ℕ) (r : Result Unit LogFault) (s' : State) : Type 0 where
  pub closed :
      r ≡ Ok tt → (o : OpenRecord) → target s k ≡ Some o → o.count ≡ 6
      → (fs : List Found) → Orderly s k fs → Orderly s' k (found_with s k o l ∷ fs)
  pub unclosed :
      r ≡ Ok tt → (o : OpenRecord) → target s k ≡ Some o → o.count < 6
      → (fs : List Found) → Orderly s k fs → Orderly s' k fs
  pub refused : (x : LogFault) → r ≡ Err x → (fs : List Found) → Orderly s k fs → Orderly s' k fs
  pub others : OthersOrderly s k s'

-- a close of core k's open record, if it has one
pub record OrderlyClose (s : State) (k : ℕ) (r : Result Unit LogFault) (s' : State) : Type 0 where
  pub closed :
      r ≡ Ok tt → (o : OpenRecord) → open_at s.notes k ≡ Some o → (fs : List Found) → Orderly s k fs
      → Orderly s' k (found_in s k o ∷ fs)
  pub idle : open_at s.notes k ≡ None → (fs : List Found) → Orderly s k fs → Orderly s' k fs
  pub refused : (x : LogFault) → r ≡ Err x → (fs : List Found) → Orderly s k fs → Orderly s' k fs
  pub others : OthersOrderly s k s'

-- a call that writes no record: every log stays in order, and as it was
abbrev pub AllOrderly : State → State → Type 0
AllOrderly s s' = (j : ℕ) (fs : List Found) → Orderly s j fs → Orderly s' j fs

-- core k's entry is emptied
pub record OrderlyEmpty (s : State) (k : ℕ) (s' : State) : Type 0 where
  pub own : Tidy s.notes s.world.block → Orderly s' k []
  pub others : OthersOrderly s k s'
