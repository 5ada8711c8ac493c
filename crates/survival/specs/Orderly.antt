-- A log in order: what its manager has noted agrees with the block, so that each core's next record may be closed.
use Rattle.std.specs.Prelude.{◌≡◌, ℕ, ◌<◌, ◌≤◌, true, false, List, Some, ◌≢◌}
use Rattle.layout.specs.declared.block.BlockEntry.{BlockEntry}
use Rattle.layout.specs.declared.open.OpenRecord.{OpenRecord}
use Rattle.layout.specs.declared.sizes.Sizes.{Sizes}
use Rattle.layout.specs.Block.{entry_at, has, records_of, BlockRules}
use Rattle.undo_log.specs.Closing.{Notes, State, open_at, before_at}
use Rattle.recovery.specs.declared.walk.Found.{Found}
use Rattle.survival.specs.Held.{Holds}
use Rattle.survival.specs.Proper.{Proper}

-- The bucket before the current one is as recovery will ask of the current one's next record: none if it is the first
-- bucket, and else a bucket of the entry.
pub record Chained (s : Sizes) (e : BlockEntry) (was : ℕ) : Type 0 where
  pub first : 0 < e.closed → e.closed < s.records → records_of s e < s.records → was ≡ 255
  pub later : 0 < e.closed → e.closed < s.records → s.records ≤ records_of s e → has e.vector was ≡ true

-- Record o is proper to core k, and its bucket is no other core's: neither in its vector nor that of its open record.
pub record Own (n : Notes) (block : List BlockEntry) (k : ℕ) (o : OpenRecord) : Type 0 where
  pub proper : Proper n.sizes (entry_at block k) (before_at n k) o
  pub unclaimed : (j : ℕ) → (j ≢ k) → has (entry_at block j).vector o.id.bucket ≡ false
  pub unshared : (j : ℕ) → (j ≢ k) → (p : OpenRecord) → open_at n j ≡ Some p → p.id.bucket ≢ o.id.bucket

-- notes and block agree, core by core; an open record has an entry
pub record Tidy (n : Notes) (block : List BlockEntry) : Type 0 where
  pub records : 1 ≤ n.sizes.records
  pub rules : BlockRules n.sizes block
  pub chained : (k : ℕ) → Chained n.sizes (entry_at block k) (before_at n k)
  pub opened : (k : ℕ) (o : OpenRecord) → open_at n k ≡ Some o → (1 ≤ o.count) × Own n block k o

-- all is in order, and core k's log is fs, newest first
pub record Orderly (s : State) (k : ℕ) (fs : List Found) : Type 0 where
  pub tidy : Tidy s.notes s.world.block
  pub holds : Holds s.notes.sizes s.world k fs
