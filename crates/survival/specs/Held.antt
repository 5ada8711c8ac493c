-- A core's closed records as they stand: the walk finds them, each in its place, and their lines are durable.
use Rattle.std.specs.Prelude.{◌≡◌, ℕ, ◌<◌, ◌≤◌, true, List}
use Rattle.std.specs.List.{AllByRecursion}
use Rattle.memory.specs.Meaning.{Meaning, Durable, content_at}
use Rattle.layout.specs.declared.block.BlockEntry.{BlockEntry}
use Rattle.layout.specs.declared.sizes.Sizes.{Sizes}
use Rattle.layout.specs.Block.{entry_at, has}
use Rattle.layout.specs.Places.{entry_line}
use Rattle.undo_log.specs.Steps.{World}
use Rattle.recovery.specs.Undone.{entries_of}
use Rattle.recovery.specs.declared.walk.Found.{Found}
use Rattle.recovery.specs.Walk.{finds, walk_of}

-- where a closed record lies, by its core's entry: in a bucket of the vector and, in the current one, among the closed
pub record Placed (s : Sizes) (e : BlockEntry) (f : Found) : Type 0 where
  pub held : has e.vector f.id.bucket ≡ true
  pub slot : f.id.slot < s.records
  pub earlier : f.id.bucket ≡ e.current → f.id.slot < e.closed
  pub seven : f.header.count ≤ 7

-- its header, which is line 0, and its entries are durable
abbrev pub DurableRecord : Sizes → Meaning → Found → Type 0
DurableRecord s m f = (i : ℕ) → i ≤ f.header.count → Durable m (entry_line s f.id.bucket f.id.slot i)

-- core k's log in the world w is fs, newest first
pub record Holds (s : Sizes) (w : World) (k : ℕ) (fs : List Found) : Type 0 where
  pub walked : walk_of s (content_at w.memory) k (entry_at w.block k) ≡ finds fs
  pub placed : AllByRecursion (Placed s (entry_at w.block k)) fs
  pub durable : AllByRecursion (DurableRecord s w.memory) fs

-- core k's log in w' is fs, and its entries have the content that they had in w
pub record Kept (s : Sizes) (k : ℕ) (w w' : World) (fs : List Found) : Type 0 where
  pub holds : Holds s w' k fs
  pub same : entries_of s (content_at w'.memory) fs ≡ entries_of s (content_at w.memory) fs
