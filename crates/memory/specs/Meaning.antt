-- What a memory is to its user: its lines, which of them are durable, whether power is on, and the operations left;
-- and what each call answers and may leave.
use Rattle.std.specs.Prelude.{◌≡◌, ℕ, ◌+◌, ◌<◌, ◌≤◌, Bool, true, false, List, [], length, Ok, Err, Result, ◌≢◌, slice_index_or, slice_set}
use Rattle.memory.specs.declared.fault.MemoryFault.{MemoryFault}
use Rattle.memory.specs.declared.fault.MemoryFault.TheVariants.{NoSuchLine, NoPower, Unreadable}
use Rattle.memory.specs.declared.fault.Operation.TheVariants.{Write, Fence}

-- a line's content, 64 bytes
abbrev pub Line : Type 0
Line = List ℕ

pub record Meaning : Type 0 where
  pub lines : List Line  -- the content of each line, as a read gives it
  pub durable : List Bool  -- for each line, whether it is sure to keep its content at a cut
  pub on : Bool  -- power
  pub left : ℕ  -- operations that complete before power goes

-- line l keeps its content at a cut
abbrev pub Durable : Meaning → ℕ → Type 0
Durable m l = slice_index_or m.durable l true ≡ true

-- the content of line l
abbrev pub content_at : Meaning → ℕ → Line
content_at m l = slice_index_or m.lines l []

-- what holds of every memory at every moment
pub record Sound (m : Meaning) : Type 0 where
  pub marked : length m.durable ≡ length m.lines
  pub whole : (l : ℕ) → l < length m.lines → length (content_at m l) ≡ 64
  pub none : m.on ≡ false → m.left ≡ 0
  pub safe : m.on ≡ false → (l : ℕ) → Durable m l

-- what a loss of power makes of m: line by line and without order, a durable line keeps its content, and any other may
-- hold its old bytes, its new ones or any other 64
pub record Cut (m m' : Meaning) : Type 0 where
  pub count : length m'.lines ≡ length m.lines
  pub kept : (l : ℕ) → Durable m l → content_at m' l ≡ content_at m l
  pub whole : (l : ℕ) → l < length m.lines → length (content_at m' l) ≡ 64
  pub safe : (l : ℕ) → Durable m' l
  pub off : m'.on ≡ false
  pub none : m'.left ≡ 0

-- m with line l not durable: how the write at which power goes begins
abbrev pub loosened : Meaning → ℕ → Meaning
loosened m l = record { lines = m.lines; durable = slice_set m.durable l false; on = m.on; left = m.left }

-- a write of content c to line l that completes: the line may then be durable or not
pub record Wrote (m : Meaning) (l : ℕ) (c : Line) (m' : Meaning) : Type 0 where
  pub content : m'.lines ≡ slice_set m.lines l c
  pub kept : (k : ℕ) → (k ≢ l) → Durable m k → Durable m' k
  pub on : m'.on ≡ true
  pub spent : m'.left + 1 ≡ m.left

-- a fence that completes
pub record Fenced (m m' : Meaning) : Type 0 where
  pub content : m'.lines ≡ m.lines
  pub safe : (k : ℕ) → Durable m' k
  pub on : m'.on ≡ true
  pub spent : m'.left + 1 ≡ m.left

-- what a read of line l answers; it changes nothing
pub record Reads (m : Meaning) (l : ℕ) (r : Result Line MemoryFault) : Type 0 where
  pub missing : length m.lines ≤ l → r ≡ Err (NoSuchLine l)
  pub dark : l < length m.lines → m.on ≡ false → r ≡ Err (Unreadable l)
  pub done : l < length m.lines → m.on ≡ true → r ≡ Ok (content_at m l)

-- what a write of content c to line l answers and leaves
pub record Writes (m : Meaning) (l : ℕ) (c : Line) (r : Result Unit MemoryFault) (m' : Meaning) : Type 0 where
  pub count : length m'.lines ≡ length m.lines
  pub missing : length m.lines ≤ l → (r ≡ Err (NoSuchLine l)) × (m' ≡ m)
  pub dark : l < length m.lines → m.on ≡ false → (r ≡ Err (NoPower (Write l))) × (m' ≡ m)
  pub lost : l < length m.lines → m.on ≡ true → m.left ≡ 0 → (r ≡ Err (NoPower (Write l))) × Cut (loosened m l) m'
  pub done : l < length m.lines → m.on ≡ true → 0 < m.left → (r ≡ Ok tt) × Wrote m l c m'

-- what a fence answers and leaves
pub record Fences (m : Meaning) (r : Result Unit MemoryFault) (m' : Meaning) : Type 0 where
  pub count : length m'.lines ≡ length m.lines
  pub dark : m.on ≡ false → (r ≡ Err (NoPower Fence)) × (m' ≡ m)
  pub lost : m.on ≡ true → m.left ≡ 0 → (r ≡ Err (NoPower Fence)) × Cut m m'
  pub done : m.on ≡ true → 0 < m.left → (r ≡ Ok tt) × Fenced m m'

-- what a cut leaves
pub record Cuts (m m' : Meaning) : Type 0 where
  pub count : length m'.lines ≡ length m.lines
  pub dark : m.on ≡ false → m' ≡ m
  pub done : m.on ≡ true → Cut m m'

-- power on with k operations left, and nothing else changed
abbrev pub powered_up : Meaning → ℕ → Meaning
powered_up m k = record { lines = m.lines; durable = m.durable; on = true; left = k }
