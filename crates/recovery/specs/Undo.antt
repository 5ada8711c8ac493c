-- Undoing: the steps in which recovery writes the logged lines back.
use Rattle.std.specs.Prelude.{◌≡◌, ℕ, zero, suc, ◌+◌, ◌-◌, true, false, cond, List, [], ◌∷◌, ◌++◌, Ok, Err, Result, ◌==◌, slice_index}
use Rattle.std.specs.Result.{result_and}
use Rattle.memory.specs.Meaning.{Line, content_at}
use Rattle.layout.specs.declared.block.BlockEntry.{BlockEntry}
use Rattle.layout.specs.declared.sizes.Sizes.{Sizes}
use Rattle.layout.specs.Block.{empty, entry_at, records_of}
use Rattle.layout.specs.Places.{record_id, entry_line}
use Rattle.undo_log.specs.declared.fault.Place.{Place}
use Rattle.undo_log.specs.declared.fault.Place.TheVariants.{Record}
use Rattle.undo_log.specs.declared.fault.LogFault.{LogFault}
use Rattle.undo_log.specs.declared.fault.LogFault.TheVariants.{NotReady}
use Rattle.undo_log.specs.Steps.{Step, write, fence, enter, Ran}
use Rattle.undo_log.specs.Closing.{State, blank_notes}
use Rattle.recovery.specs.declared.walk.Found.{Found}
use Rattle.recovery.specs.Walk.{Walk, stops, finds, walk_of}
use Rattle.recovery.specs.Check.{ready, checked_in}

-- entries n down to 1 of record f are written back
unfoldable pub undoing : Sizes → (ℕ → Line) → ℕ → Found → ℕ → List Step
undoing s lines k f zero = []
undoing s lines k f (suc i) =
    write (slice_index f.header.lines i) (lines (entry_line s f.id.bucket f.id.slot (i + 1))) (Record k f.id)
    ∷ undoing s lines k f i

-- the records of core k, newest first; p is the record undone last, so after record 0 of the update it is that which the
-- fence names, and then the entry is emptied
unfoldable pub undoing_all : Sizes → (ℕ → Line) → ℕ → Place → List Found → List Step
undoing_all s lines k p [] = fence p ∷ enter k empty ∷ []
undoing_all s lines k p (f ∷ fs) =
    undoing s lines k f f.header.count ++ undoing_all s lines k (Record k f.id) fs

abbrev pub undone_by : Sizes → (ℕ → Line) → ℕ → Place → Walk → List Step
undone_by s lines k p (stops b r) = []
undone_by s lines k p (finds fs) = undoing_all s lines k p fs

-- the steps for core k with entry e: none, without a fence, where it has no records
unfoldable pub undoing_core : Sizes → (ℕ → Line) → ℕ → BlockEntry → List Step
undoing_core s lines k e =
    cond (records_of s e == 0) [] (undone_by s lines k (Record k (record_id e.current (e.closed - 1))) (walk_of s lines k e))

-- and for the cores from k on, which have these entries
unfoldable pub undoing_from : Sizes → (ℕ → Line) → ℕ → List BlockEntry → List Step
undoing_from s lines k [] = []
undoing_from s lines k (e ∷ es) = undoing_core s lines k e ++ undoing_from s lines (k + 1) es

-- the steps for record f of core k of a log
abbrev pub undoing_record_in : State → ℕ → Found → List Step
undoing_record_in s k f = undoing s.notes.sizes (content_at s.world.memory) k f f.header.count

-- for core k
abbrev pub undoing_core_in : State → ℕ → List Step
undoing_core_in s k = undoing_core s.notes.sizes (content_at s.world.memory) k (entry_at s.world.block k)

-- and for all cores
abbrev pub undoing_in : State → List Step
undoing_in s = undoing_from s.notes.sizes (content_at s.world.memory) 0 s.world.block

-- what recovery answers and leaves, by what the check answers: once undoing begins no record is open any more
abbrev pub AfterCheck : Result (ℕ × ℕ) LogFault → List Step → State → Result (ℕ × ℕ) LogFault → State → Type 0
AfterCheck (Err e) ss s r s' = (r ≡ Err e) × (s' ≡ s)
AfterCheck (Ok m) ss s r s' =
    (q : Result Unit LogFault) × ((r ≡ result_and q (Ok m)) × ((s'.notes ≡ blank_notes s.notes.sizes) × Ran ss s.world q s'.world))

-- what a recovery answers and leaves: the check alone decides whether anything is written
pub record Recovers (s : State) (r : Result (ℕ × ℕ) LogFault) (s' : State) : Type 0 where
  pub unready : ready s ≡ false → (r ≡ Err NotReady) × (s' ≡ s)
  pub done : ready s ≡ true → AfterCheck (checked_in s) (undoing_in s) s r s'
