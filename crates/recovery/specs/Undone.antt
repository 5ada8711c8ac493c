-- What undoing comes to, line by line: the content that was logged first.
use Rattle.std.specs.Prelude.{◌≡◌, ℕ, zero, suc, ◌+◌, ◌<◌, List, [], ◌∷◌, ◌++◌, length, None, Option, ◌==◌, slice_index}
use Rattle.std.specs.Bool.{then_some}
use Rattle.std.specs.Option.{option_or, unwrap_or}
use Rattle.memory.specs.Meaning.{Line, Meaning, content_at}
use Rattle.layout.specs.declared.block.BlockEntry.{BlockEntry}
use Rattle.layout.specs.declared.sizes.Sizes.{Sizes}
use Rattle.layout.specs.Places.{entry_line}
use Rattle.undo_log.specs.Closing.{State}
use Rattle.recovery.specs.declared.walk.Found.{Found}
use Rattle.recovery.specs.Walk.{walk_of, records_in}

-- an entry of the log: a data line, and the content that it had
pub record Logged : Type 0 where
  pub line : ℕ
  pub content : Line

-- the first n entries of a record, the last of them first
unfoldable pub entries_from : Sizes → (ℕ → Line) → Found → ℕ → List Logged
entries_from s lines f zero = []
entries_from s lines f (suc i) =
    record { line = slice_index f.header.lines i; content = lines (entry_line s f.id.bucket f.id.slot (i + 1)) }
    ∷ entries_from s lines f i

-- the entries of some records, newest first
unfoldable pub entries_of : Sizes → (ℕ → Line) → List Found → List Logged
entries_of s lines [] = []
entries_of s lines (f ∷ fs) = entries_from s lines f f.header.count ++ entries_of s lines fs

-- the entries of the closed records of the cores from k on, core after core
unfoldable pub logged_from : Sizes → (ℕ → Line) → ℕ → List BlockEntry → List Logged
logged_from s lines k [] = []
logged_from s lines k (e ∷ es) = entries_of s lines (records_in (walk_of s lines k e)) ++ logged_from s lines (k + 1) es

-- the entries of all closed records of a log
abbrev pub logged_in : State → List Logged
logged_in s = logged_from s.notes.sizes (content_at s.world.memory) 0 s.world.block

-- the content of the oldest entry of line l, in a list that has the newest first
unfoldable pub oldest : ℕ → List Logged → Option Line
oldest l [] = None
oldest l (e ∷ es) = option_or (oldest l es) (then_some (e.line == l) e.content)

-- Undoing leaves at each line that the log names the content that was logged first, and touches no other line. (Where
-- two cores name one line, which the layer above does not let happen, it is the later core's.)
abbrev pub Restored : List Logged → Meaning → Meaning → Type 0
Restored es m m' = (l : ℕ) → l < length m.lines → content_at m' l ≡ unwrap_or (oldest l es) (content_at m l)
