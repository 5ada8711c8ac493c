-- The walk over a core's closed records, newest first, in lines given by a function from their numbers.
use Rattle.std.specs.Prelude.{ℕ, zero, suc, ◌+◌, ◌-◌, Bool, true, false, cond, ◌&&◌, List, [], ◌∷◌, Some, None, Option, ◌==◌, nat_lt}
use Rattle.memory.specs.Meaning.{Line, content_at}
use Rattle.layout.specs.declared.block.BlockEntry.{BlockEntry}
use Rattle.layout.specs.declared.sizes.Sizes.{Sizes}
use Rattle.layout.specs.Block.{entry_at, has, records_of}
use Rattle.layout.specs.Places.{record_id, header_line, in_log}
use Rattle.header.specs.declared.Header.{Header}
use Rattle.header.specs.Header.{read_header}
use Rattle.undo_log.specs.Closing.{State}
use Rattle.recovery.specs.declared.walk.Found.{Found}

pub data Walk : Type 0 where
  stops : ℕ → ℕ → Walk  -- at a header that fails, by its bucket and its number in that
  finds : List Found → Walk  -- newest first

-- the header fits: it is of core k, numbered n, and names as the bucket before none if the number is below R, and else
-- a bucket of the vector
abbrev pub fits : Sizes → ℕ → BlockEntry → ℕ → Header → Bool
fits s k e n h =
    (h.core == k) && (h.number == n) && cond (nat_lt n s.records) (h.before == 255) (has e.vector h.before)

abbrev pub fitting : Sizes → ℕ → BlockEntry → ℕ → Option Header → Option Header
fitting s k e n None = None
fitting s k e n (Some h) = cond (fits s k e n h) (Some h) None

-- the header of record r of bucket b, if there is such a record and its header is good and fits
unfoldable pub header_at : Sizes → (ℕ → Line) → ℕ → BlockEntry → ℕ → ℕ → ℕ → Option Header
header_at s lines k e n b r = cond (in_log s b r) (fitting s k e n (read_header s (lines (header_line s b r)))) None

-- from record 0 of a bucket the walk goes to the last record of the bucket before
abbrev pub bucket_next : ℕ → ℕ → Header → ℕ
bucket_next b r h = cond (r == 0) h.before b

abbrev pub slot_next : Sizes → ℕ → ℕ
slot_next s r = cond (r == 0) (s.records - 1) (r - 1)

abbrev pub adding : Found → Walk → Walk
adding f (stops b r) = stops b r
adding f (finds fs) = finds (f ∷ fs)

-- one record of the walk, and the rest of it from where its header leads
abbrev pub turn : Sizes → ℕ → ℕ → (ℕ → ℕ → Walk) → Option Header → Walk
turn s b r rest None = stops b r
turn s b r rest (Some h) = adding (record { id = record_id b r; header = h }) (rest (bucket_next b r h) (slot_next s r))

-- the n records from record r of bucket b back to record 0 of the update
unfoldable pub walk : Sizes → (ℕ → Line) → ℕ → BlockEntry → ℕ → ℕ → ℕ → Walk
walk s lines k e zero b r = finds []
walk s lines k e (suc n) b r = turn s b r (walk s lines k e n) (header_at s lines k e n b r)

-- the closed records of core k with entry e; with an empty entry it has none
unfoldable pub walk_of : Sizes → (ℕ → Line) → ℕ → BlockEntry → Walk
walk_of s lines k e = walk s lines k e (records_of s e) e.current (e.closed - 1)

-- the walk over the closed records of core k in a log
abbrev pub walk_in : State → ℕ → Walk
walk_in s k = walk_of s.notes.sizes (content_at s.world.memory) k (entry_at s.world.block k)

-- the walk came to its end
abbrev pub found : Walk → Bool
found (stops b r) = false
found (finds fs) = true

-- the records that it found
abbrev pub records_in : Walk → List Found
records_in (stops b r) = []
records_in (finds fs) = fs

unfoldable pub entries_in : List Found → ℕ
entries_in [] = 0
entries_in (f ∷ fs) = f.header.count + entries_in fs
