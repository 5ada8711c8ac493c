-- Free buckets: no core's vector has one, and no open record lies in it.
use Rattle.std.specs.Prelude.{◌≡◌, ℕ, ◌<◌, Bool, false, not, ◌&&◌, List, find, Some, None, Option, ◌==◌, ◌≢◌, slice_index_or}
use Rattle.std.specs.List.{list_any, range_with_len}
use Rattle.layout.specs.declared.block.BlockEntry.{BlockEntry}
use Rattle.layout.specs.declared.«open».OpenRecord.{OpenRecord}
use Rattle.layout.specs.Block.{entry_at, has}

-- some vector of the block has bucket b
abbrev pub claimed : ℕ → List BlockEntry → Bool
claimed b es = list_any (λ e. has e.vector b) es

abbrev pub lies_in : ℕ → Option OpenRecord → Bool
lies_in b None = false
lies_in b (Some o) = o.id.bucket == b

-- some open record lies in bucket b
abbrev pub in_use : ℕ → List (Option OpenRecord) → Bool
in_use b opens = list_any (lies_in b) opens

abbrev pub free : List BlockEntry → List (Option OpenRecord) → ℕ → Bool
free block opens b = not (claimed b block) && not (in_use b opens)

-- the lowest bucket from b on that passes the test, of n buckets
abbrev pub lowest_free : (ℕ → Bool) → ℕ → ℕ → Option ℕ
lowest_free f n b = find f (range_with_len b n)

-- bucket b is free, core by core
pub record Free (block : List BlockEntry) (opens : List (Option OpenRecord)) (b : ℕ) : Type 0 where
  pub unclaimed : (k : ℕ) → has (entry_at block k).vector b ≡ false
  pub unused : (k : ℕ) (o : OpenRecord) → slice_index_or opens k None ≡ Some o → o.id.bucket ≢ b

-- r is the lowest of the free buckets below a number, or None where there is none
pub record LowestFree (block : List BlockEntry) (opens : List (Option OpenRecord)) (buckets : ℕ) (r : Option ℕ) : Type 0 where
  pub some : (b : ℕ) → r ≡ Some b → (b < buckets) × Free block opens b × ((c : ℕ) → c < b → Free block opens c → ⊥)
  pub none : r ≡ None → (b : ℕ) → b < buckets → Free block opens b → ⊥
