-- An open record that may be closed.
use Rattle.std.specs.Prelude.{◌≡◌, ℕ, ◌<◌, ◌≤◌, true, false, ◌⊎◌, length, slice_index}
use Rattle.layout.specs.declared.block.BlockEntry.{BlockEntry}
use Rattle.layout.specs.declared.open.OpenRecord.{OpenRecord}
use Rattle.layout.specs.declared.sizes.Sizes.{Sizes}
use Rattle.layout.specs.Block.{empty, has, records_of, Filled}
use Rattle.layout.specs.Sizes.{data_lines_of}
use Rattle.undo_log.specs.Closing.{header_of}
use Rattle.recovery.specs.declared.walk.Found.{Found}

-- Record r of bucket b is the next of an entry: the next of its current bucket or, if that is full or missing, record 0
-- of a bucket that it has not.
pub record Next (s : Sizes) (e : BlockEntry) (b r : ℕ) : Type 0 where
  pub bucket : b < s.buckets
  pub slot : r < s.records
  -- the next of the current bucket
  pub here : 0 < r → (b ≡ e.current) × (r ≡ e.closed)
  -- the first of a new bucket: the current one is missing or full
  pub fresh : r ≡ 0 → has e.vector b ≡ false
  pub full : r ≡ 0 → (e.closed ≡ 0) ⊎ (e.closed ≡ s.records)

-- Record o is proper to a core with the entry e, where `was` is the bucket before the current one: it lies where the next
-- one has to, its used entries name data lines, and the bucket before it is as recovery will ask.
pub record Proper (s : Sizes) (e : BlockEntry) (was : ℕ) (o : OpenRecord) : Type 0 where
  -- as the rules of the block have it
  pub sound : (e ≡ empty) ⊎ Filled s e
  pub next : Next s e o.id.bucket o.id.slot
  pub seven : length o.lines ≡ 7
  -- used entries name data lines, and the others 0
  pub used : (i : ℕ) → i < o.count → slice_index o.lines i < data_lines_of s
  pub unused : (i : ℕ) → o.count ≤ i → slice_index o.lines i ≡ 0
  -- in the current bucket, `was` is none for the records of the first bucket, and else a bucket of the entry
  pub first : 0 < o.id.slot → records_of s e < s.records → was ≡ 255
  pub later : 0 < o.id.slot → s.records ≤ records_of s e → has e.vector was ≡ true

-- the record as the walk finds it once it is closed
abbrev pub found_of : Sizes → BlockEntry → ℕ → ℕ → OpenRecord → Found
found_of s e was k o = record { id = o.id; header = header_of s e was k o }
