-- The sizes of a log, their ranges, and the lines that they ask of a memory.
use Rattle.std.specs.Prelude.{ℕ, ◌+◌, ◌*◌, ◌≤◌, Bool, ◌&&◌, ◌==◌, nat_le}
use Rattle.layout.specs.declared.sizes.Sizes.{Sizes}

abbrev pub within : ℕ → ℕ → ℕ → Bool
within low high n = nat_le low n && nat_le n high

abbrev pub data_lines_of : Sizes → ℕ
data_lines_of s = s.data_lines

abbrev pub cache_lines_of : Sizes → ℕ
cache_lines_of s = s.cache_lines

-- 1 to 512 data lines, 32 buckets, 4 records in a bucket, 32 cores and 64 cached lines
abbrev pub in_range : Sizes → Bool
in_range s =
    within 1 512 (data_lines_of s) && within 1 32 s.buckets && within 1 4 s.records && within 1 32 s.cores
    && within 1 64 (cache_lines_of s)

-- the data lines, and for each record its header and seven entries
abbrev pub lines_needed : Sizes → ℕ
lines_needed s = data_lines_of s + 8 * (s.buckets * s.records)

-- each size is in its range, and the memory has just the lines needed
abbrev pub sizes_fit : Sizes → ℕ → Bool
sizes_fit s lines = in_range s && lines == lines_needed s

-- no size is past its range
pub record Bounded (s : Sizes) : Type 0 where
  pub lines : data_lines_of s ≤ 512
  pub buckets : s.buckets ≤ 32
  pub records : s.records ≤ 4
  pub cores : s.cores ≤ 32
