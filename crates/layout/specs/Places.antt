-- Where the records of the log lie in the memory.
use Rattle.std.specs.Prelude.{◌≡◌, ℕ, ◌+◌, ◌*◌, ◌<◌, ◌≤◌, Bool, ◌&&◌, nat_lt}
use Rattle.layout.specs.declared.places.RecordId.{RecordId}
use Rattle.layout.specs.declared.sizes.Sizes.{Sizes}
use Rattle.layout.specs.Sizes.{data_lines_of, lines_needed}

abbrev pub record_id : ℕ → ℕ → RecordId
record_id b r = record { bucket = b; slot = r }

-- the line of the header of record r of bucket b: eight lines to a record, behind the data lines
abbrev pub header_line : Sizes → ℕ → ℕ → ℕ
header_line s b r = data_lines_of s + 8 * (b * s.records + r)

-- the line of its entry i, from 1 to 7
abbrev pub entry_line : Sizes → ℕ → ℕ → ℕ → ℕ
entry_line s b r i = header_line s b r + i

-- there is such a record
abbrev pub in_log : Sizes → ℕ → ℕ → Bool
in_log s b r = nat_lt b s.buckets && nat_lt r s.records

-- line i of record r of bucket b, the header being 0, is no data line and lies within the memory, and no other record
-- has it
pub record Apart (s : Sizes) (b r i : ℕ) : Type 0 where
  pub behind : data_lines_of s ≤ entry_line s b r i
  pub inside : b < s.buckets → r < s.records → i ≤ 7 → entry_line s b r i < lines_needed s
  pub alone :
      (b' r' i' : ℕ) → r < s.records → r' < s.records → i ≤ 7 → i' ≤ 7 → entry_line s b r i ≡ entry_line s b' r' i'
      → (b ≡ b') × (r ≡ r') × (i ≡ i')
