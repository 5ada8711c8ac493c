-- What a user of any kind of memory may rely on.
use Rattle.std.specs.Prelude.{◌≡◌, ℕ, ◌<◌, ◌≤◌, true, false, [], length, Ok, Err, Result, ◌≢◌, slice_index_or, slice_set}
use Rattle.memory.specs.declared.fault.MemoryFault.{MemoryFault}
use Rattle.memory.specs.declared.fault.MemoryFault.TheVariants.{NoSuchLine, NoPower}
use Rattle.memory.specs.declared.fault.Operation.TheVariants.{Write, Fence}
use Rattle.memory.specs.Meaning.{Line, Meaning, Durable, content_at}

-- Power went at line l's write or at the fence after it: every other durable line keeps its content.
pub record Spared (m : Meaning) (l : ℕ) (m' : Meaning) : Type 0 where
  pub count : length m'.lines ≡ length m.lines
  pub kept : (k : ℕ) → (k ≢ l) → Durable m k → content_at m' k ≡ content_at m k
  pub off : m'.on ≡ false

-- A line that is written and fenced reads back after a cut and a power-up, whatever the cut did, and so does every
-- other line: r is the read's answer.
pub record Survives (m : Meaning) (l : ℕ) (c : Line) (k : ℕ) (r : Result Line MemoryFault) (m' : Meaning) : Type 0 where
  pub missing : length m.lines ≤ l → (r ≡ Err (NoSuchLine l)) × (m' ≡ m)
  pub dark : l < length m.lines → m.on ≡ false → (r ≡ Err (NoPower (Write l))) × (m' ≡ m)
  pub at_write : l < length m.lines → m.on ≡ true → m.left ≡ 0 → (r ≡ Err (NoPower (Write l))) × Spared m l m'
  pub at_fence : l < length m.lines → m.on ≡ true → m.left ≡ 1 → (r ≡ Err (NoPower Fence)) × Spared m l m'
  pub reads : l < length m.lines → m.on ≡ true → 2 ≤ m.left → r ≡ Ok c
  pub lines : l < length m.lines → m.on ≡ true → 2 ≤ m.left → (j : ℕ) → content_at m' j ≡ slice_index_or (slice_set m.lines l c) j []
  pub left : l < length m.lines → m.on ≡ true → 2 ≤ m.left → (m'.on ≡ true) × (m'.left ≡ k)

-- A cut changes no durable line: r is what a read of line l then answers.
pub record Outlasts (m : Meaning) (l k : ℕ) (r : Result Line MemoryFault) (m' : Meaning) : Type 0 where
  pub missing : length m.lines ≤ l → r ≡ Err (NoSuchLine l)
  pub reads : l < length m.lines → r ≡ Ok (content_at m' l)
  pub kept : l < length m.lines → Durable m l → r ≡ Ok (content_at m l)
  pub lines : (j : ℕ) → Durable m j → content_at m' j ≡ content_at m j
  pub count : length m'.lines ≡ length m.lines
  pub on : m'.on ≡ true
  pub left : m'.left ≡ k
