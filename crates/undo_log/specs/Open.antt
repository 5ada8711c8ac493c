-- Open records: where a core's next entry goes.
use Rattle.std.specs.Prelude.{ℕ, ◌+◌, Bool, true, false, cond, ◌&&◌, List, take, replicate, Some, None, Option, ◌==◌, nat_lt, slice_index_or, slice_set}
use Rattle.std.specs.List.{list_any}
use Rattle.std.specs.Option.{option_map, option_map_or, option_or}
use Rattle.layout.specs.declared.block.BlockEntry.{BlockEntry}
use Rattle.layout.specs.declared.open.OpenRecord.{OpenRecord}
use Rattle.layout.specs.declared.sizes.Sizes.{Sizes}
use Rattle.layout.specs.Block.{entry_at}
use Rattle.layout.specs.Places.{in_log}
use Rattle.buckets.specs.Buckets.{free, lowest_free}

-- an open record has a place that its numbers can name, and room for one more entry
abbrev pub open_fits : Option OpenRecord → Bool
open_fits None = true
open_fits (Some o) = nat_lt o.id.bucket 32 && nat_lt o.id.slot 4 && nat_lt o.count 7

-- record r of bucket b with no entry yet
abbrev pub opening : ℕ → ℕ → OpenRecord
opening b r = record { id = record { bucket = b; slot = r }; count = 0; lines = replicate 7 0 }

-- the record that a core without an open one opens next: the next of its current bucket or, if that is full or
-- missing, record 0 of the lowest free bucket
abbrev pub next_record : Sizes → List BlockEntry → List (Option OpenRecord) → BlockEntry → Option OpenRecord
next_record s block opens e =
    cond (in_log s e.current e.closed) (Some (opening e.current e.closed))
    (option_map (λ b. opening b 0) (lowest_free (free block opens) s.buckets 0))

-- the record that takes core k's next entry
abbrev pub log_target : Sizes → List BlockEntry → List (Option OpenRecord) → ℕ → Option OpenRecord
log_target s block opens k = option_or (slice_index_or opens k None) (next_record s block opens (entry_at block k))

-- the record with one more entry, of line l
abbrev pub with_line : OpenRecord → ℕ → OpenRecord
with_line o l = record { id = o.id; count = o.count + 1; lines = slice_set o.lines o.count l }

-- the open record, if there is one, has an entry of line l
abbrev pub names_line : ℕ → Option OpenRecord → Bool
names_line l q = option_map_or (λ o. list_any (λ x. x == l) (take o.count o.lines)) q false
