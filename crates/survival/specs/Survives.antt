-- What was logged and closed is found again, after any cut too, newest first and with its content, and what was not
-- closed is not found.
use Rattle.std.specs.Prelude.{◌≡◌, ℕ, ◌<◌, List, ◌∷◌, ◌++◌, Some, None, Ok, Err, Result, ◌≢◌}
use Rattle.memory.specs.Meaning.{Line, content_at}
use Rattle.layout.specs.declared.open.OpenRecord.{OpenRecord}
use Rattle.layout.specs.Block.{entry_at}
use Rattle.undo_log.specs.declared.fault.LogFault.{LogFault}
use Rattle.undo_log.specs.Append.{target, Appends}
use Rattle.undo_log.specs.Closing.{State, open_at, before_at, Closes}
use Rattle.undo_log.specs.Open.{with_line}
use Rattle.undo_log.specs.Calls.{Loses}
use Rattle.undo_log.specs.Steps.{World}
use Rattle.recovery.specs.Undone.{entries_from, entries_of}
use Rattle.recovery.specs.declared.walk.Found.{Found}
use Rattle.survival.specs.Held.{Holds, Kept}
use Rattle.survival.specs.Orderly.{Tidy, Orderly}
use Rattle.survival.specs.Proper.{found_of}

-- ---- what is done

-- a close of core k's open record, and then a cut
pub record ClosesAndCuts (s : State) (k : ℕ) (r : Result Unit LogFault) (s' : State) : Type 0 where
  pub between : State
  pub closes : Closes s k r between
  pub cuts : Loses between s'

-- an append of line l with content c for core k, and then a cut
pub record AppendsAndCuts (s : State) (k l : ℕ) (c : Line) (r : Result Unit LogFault) (s' : State) : Type 0 where
  pub between : State
  pub appends : Appends s k l c r between
  pub cuts : Loses between s'

-- the log of every core but k is as it was
abbrev pub OthersKept : State → ℕ → World → Type 0
OthersKept s k w' = (j : ℕ) (fs : List Found) → (j ≢ k) → Holds s.notes.sizes s.world j fs → Kept s.notes.sizes j s.world w' fs

-- core k's record o as the walk finds it once it is closed
abbrev pub found_in : State → ℕ → OpenRecord → Found
found_in s k o = found_of s.notes.sizes (entry_at s.world.block k) (before_at s.notes k) k o

-- ---- closing

-- Where core k's log was fs and its open record o, after a close the log is o before fs, each entry with the content that
-- it had, if the close was answered Ok, and else it is fs.
pub record Closing (s : State) (k : ℕ) (r : Result Unit LogFault) (w' : World) (o : OpenRecord) (fs : List Found) : Type 0 where
  pub closed : r ≡ Ok tt → Kept s.notes.sizes k s.world w' (found_in s k o ∷ fs)
  pub refused : (e : LogFault) → r ≡ Err e → Kept s.notes.sizes k s.world w' fs

-- What a close for core k makes of the logs, also if a cut follows. Where it has no open record, every log is as it was.
pub record SurvivesClose (s : State) (k : ℕ) (r : Result Unit LogFault) (w' : World) : Type 0 where
  pub none :
      open_at s.notes k ≡ None → (j : ℕ) (fs : List Found) → Holds s.notes.sizes s.world j fs
      → Kept s.notes.sizes j s.world w' fs
  pub some : (o : OpenRecord) → open_at s.notes k ≡ Some o → (fs : List Found) → Orderly s k fs → Closing s k r w' o fs
  pub others : Tidy s.notes s.world.block → OthersKept s k w'

-- ---- appending

-- record o of core k with an entry of line l, as the walk finds it once it is closed
abbrev pub found_with : State → ℕ → OpenRecord → ℕ → Found
found_with s k o l = found_in s k (with_line o l)

-- Where core k's log was fs and o the record that takes its next entry, after an append of line l with content c the log
-- is o with that entry before fs if the append was answered Ok and the entry was the seventh: the new entry comes first,
-- with c, and then those that o had. Else it is fs.
pub record Appending (s : State) (k l : ℕ) (c : Line) (r : Result Unit LogFault) (w' : World) (o : OpenRecord) (fs : List Found) : Type 0 where
  pub closed : r ≡ Ok tt → o.count ≡ 6 → Holds s.notes.sizes w' k (found_with s k o l ∷ fs)
  pub entries :
      r ≡ Ok tt → o.count ≡ 6
      → entries_of s.notes.sizes (content_at w'.memory) (found_with s k o l ∷ fs)
      ≡ (record { line = l; content = c } ∷ entries_from s.notes.sizes (content_at s.world.memory) (found_with s k o l) 6)
      ++ entries_of s.notes.sizes (content_at s.world.memory) fs
  pub unclosed : r ≡ Ok tt → o.count < 6 → Kept s.notes.sizes k s.world w' fs
  pub refused : (e : LogFault) → r ≡ Err e → Kept s.notes.sizes k s.world w' fs

-- What an append for core k makes of the logs, also if a cut follows. Where there is no room for the entry, every log is
-- as it was.
pub record SurvivesAppend (s : State) (k l : ℕ) (c : Line) (r : Result Unit LogFault) (w' : World) : Type 0 where
  pub none :
      target s k ≡ None → (j : ℕ) (fs : List Found) → Holds s.notes.sizes s.world j fs → Kept s.notes.sizes j s.world w' fs
  pub some :
      (o : OpenRecord) → target s k ≡ Some o → (fs : List Found) → Orderly s k fs → Appending s k l c r w' o fs
  pub others : Tidy s.notes s.world.block → OthersKept s k w'
