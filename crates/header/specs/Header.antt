-- A record's header, its 64 bytes, and which bytes are a header.
use Rattle.std.specs.Prelude.{◌≡◌, ℕ, ◌*◌, ◌/◌, ◌%◌, ◌^◌, ◌<◌, ◌≤◌, Bool, if◌then◌else◌, ◌&&◌, ◌||◌, ◌⊎◌, List, ◌∷◌, ◌++◌, map, length, take, drop, Some, None, Option, ◌==◌, nat_lt, slice_index}
use Rattle.std.specs.Int.{w32, w64, to_le_bytes, from_le_bytes}
use Rattle.std.specs.List.{flat_map, list_all, range_with_len}
use Rattle.layout.specs.declared.sizes.Sizes.{Sizes}
use Rattle.layout.specs.Sizes.{within, data_lines_of}
use Rattle.header.specs.declared.Header.{Header}

-- a line's content, 64 bytes
abbrev pub Line : Type 0
Line = List ℕ

-- the address fields of the lines
unfoldable pub addresses : List ℕ → List ℕ
addresses ls = flat_map (λ l. to_le_bytes w64 (64 * l)) ls

-- the bytes of a header, each number low byte first:
--    0 to 55  seven address fields of 8 bytes: 64 times the data line of a used entry, 0 for an unused one
--   56        how many entries are used, 1 to 7
--   57        the core
--   58        the bucket before this one in the same update, 255 for the first
--   59        0
--   60 to 63  the number of the record in its update, from 0
unfoldable pub written : Header → Line
written h = addresses h.lines ++ (h.count ∷ h.core ∷ h.before ∷ 0 ∷ to_le_bytes w32 h.number)

-- address field i of some bytes
unfoldable pub address_at : Line → ℕ → ℕ
address_at bs i = from_le_bytes w64 (take 8 (drop (8 * i) bs))

-- a used address is a multiple of 64 below 64 × D, an unused one 0
abbrev pub field_good : Sizes → Bool → ℕ → Bool
field_good s used a = if used then a % 64 == 0 && nat_lt a (64 * data_lines_of s) else a == 0

-- the line of a good address
abbrev pub line_in : Sizes → Bool → ℕ → Option ℕ
line_in s used a = if field_good s used a then Some (a / 64) else None

-- each of the seven address fields is good, where as many are used as byte 56 says
unfoldable pub fields_good : Sizes → Line → Bool
fields_good s bs = list_all (λ i. field_good s (nat_lt i (slice_index bs 56)) (address_at bs i)) (range_with_len 0 7)

-- the line of each
unfoldable pub lines_at : Line → List ℕ
lines_at bs = map (λ i. address_at bs i / 64) (range_with_len 0 7)

-- the lines of the address fields, if each is good
abbrev pub lines_in : Sizes → Line → Option (List ℕ)
lines_in s bs = if fields_good s bs then Some (lines_at bs) else None

-- what stands behind the address fields is good
abbrev pub rest_good : Sizes → Line → Bool
rest_good s bs =
    within 1 7 (slice_index bs 56) && nat_lt (slice_index bs 57) s.cores
    && (slice_index bs 58 == 255 || nat_lt (slice_index bs 58) s.buckets) && slice_index bs 59 == 0

unfoldable pub good : Sizes → Line → Bool
good s bs = rest_good s bs && fields_good s bs

-- the fields of some bytes
unfoldable pub header_in : Line → Header
header_in bs =
    record {
      lines = lines_at bs;
      count = slice_index bs 56;
      core = slice_index bs 57;
      before = slice_index bs 58;
      number = from_le_bytes w32 (drop 60 bs);
    }

-- the header in some bytes, if they are a good one
unfoldable pub read_header : Sizes → Line → Option Header
read_header s bs = if good s bs then Some (header_in bs) else None

-- a header that may be logged
pub record Sensible (s : Sizes) (h : Header) : Type 0 where
  pub seven : length h.lines ≡ 7
  pub some : 1 ≤ h.count
  pub most : h.count ≤ 7
  pub used : (i : ℕ) → i < h.count → slice_index h.lines i < data_lines_of s
  pub unused : (i : ℕ) → h.count ≤ i → slice_index h.lines i ≡ 0
  pub core : h.core < s.cores
  pub before : (h.before ≡ 255) ⊎ (h.before < s.buckets)
  pub number : h.number < 2 ^ 32
