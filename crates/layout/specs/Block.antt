-- The block: for each core a vector of the buckets of its update, the current bucket, and the closed records in that.
use Rattle.std.specs.Prelude.{◌≡◌, ℕ, zero, suc, ◌+◌, ◌-◌, ◌*◌, ◌/◌, ◌%◌, ◌^◌, ◌<◌, ◌≤◌, Bool, true, ◌&&◌, ◌||◌, ◌⊎◌, List, [], ◌∷◌, length, ◌==◌, bit_and, bit_or, nat_lt, slice_index_or}
use Rattle.layout.specs.declared.block.BlockEntry.{BlockEntry}
use Rattle.layout.specs.declared.sizes.Sizes.{Sizes}
use Rattle.layout.specs.Sizes.{within}

-- the entry of a core without closed records
abbrev pub empty : BlockEntry
empty = record { vector = 0; current = 255; closed = 0 }

-- core k's entry
abbrev pub entry_at : List BlockEntry → ℕ → BlockEntry
entry_at block k = slice_index_or block k empty

-- bucket b is in the vector v
abbrev pub has : ℕ → ℕ → Bool
has v b = v / 2 ^ b % 2 == 1

-- how many of the buckets below n the vector v has
unfoldable pub buckets_in : ℕ → ℕ → ℕ
buckets_in zero v = 0
buckets_in (suc n) v = v / 2 ^ n % 2 + buckets_in n v

-- how many closed records an entry stands for: those of the current bucket, and R in each other; none if it is empty
abbrev pub records_of : Sizes → BlockEntry → ℕ
records_of s e = (buckets_in 32 e.vector - 1) * s.records + e.closed

-- the entry after the closing of record r of bucket b
abbrev pub counting : BlockEntry → ℕ → ℕ → BlockEntry
counting e b r = record { vector = bit_or e.vector (2 ^ b); current = b; closed = r + 1 }

abbrev pub is_empty : BlockEntry → Bool
is_empty e = e.vector == 0 && e.current == 255 && e.closed == 0

-- an entry is empty, or has buckets below B only, a current one of them and 1 to R closed records
abbrev pub entry_sound : Sizes → BlockEntry → Bool
entry_sound s e = is_empty e || (nat_lt e.vector (2 ^ s.buckets) && has e.vector e.current && within 1 s.records e.closed)

-- each entry is sound, and shares no bucket with the vector v nor with another entry
unfoldable pub all_sound : Sizes → ℕ → List BlockEntry → Bool
all_sound s v [] = true
all_sound s v (e ∷ es) = entry_sound s e && bit_and v e.vector == 0 && all_sound s (bit_or v e.vector) es

-- the list is a block: an entry for each core, each sound, no bucket in two of them
abbrev pub block_sound : Sizes → List BlockEntry → Bool
block_sound s es = length es == s.cores && all_sound s 0 es

-- an entry that is not empty
pub record Filled (s : Sizes) (e : BlockEntry) : Type 0 where
  pub some : 1 ≤ e.closed
  pub most : e.closed ≤ s.records
  pub current : has e.vector e.current ≡ true
  pub below : (b : ℕ) → has e.vector b ≡ true → b < s.buckets

-- the rules of the block, core by core and bucket by bucket
pub record BlockRules (s : Sizes) (block : List BlockEntry) : Type 0 where
  pub count : length block ≡ s.cores
  pub each : (k : ℕ) → (entry_at block k ≡ empty) ⊎ Filled s (entry_at block k)
  pub apart : (j k b : ℕ) → has (entry_at block j).vector b ≡ true → has (entry_at block k).vector b ≡ true → j ≡ k
