-- How a walk goes on, record by record, by a cursor that says how far it has come.
use Rattle.std.specs.Prelude.{◌≡◌, ℕ, ◌-◌, ◌<◌, Some, None, Ok, Err, Option, Result}
use Rattle.memory.specs.Meaning.{content_at}
use Rattle.layout.specs.declared.places.RecordId.{RecordId}
use Rattle.layout.specs.declared.sizes.Sizes.{Sizes}
use Rattle.layout.specs.Block.{entry_at, records_of}
use Rattle.layout.specs.Places.{record_id}
use Rattle.header.specs.declared.Header.{Header}
use Rattle.undo_log.specs.declared.fault.LogFault.{LogFault}
use Rattle.undo_log.specs.declared.fault.LogFault.TheVariants.{BadHeader}
use Rattle.undo_log.specs.Closing.{State}
use Rattle.recovery.specs.declared.walk.Cursor.{Cursor}
use Rattle.recovery.specs.declared.walk.Found.{Found}
use Rattle.recovery.specs.Walk.{Walk, header_at, bucket_next, slot_next, walk}

-- at the newest record of core k
abbrev pub newest : State → ℕ → Cursor
newest s k =
    let e = entry_at s.world.block k in
    record { core = k; held = e; left = records_of s.notes.sizes e; id = record_id e.current (e.closed - 1) }

-- the record that the walk goes to from record i, which has header h
abbrev pub next_id : Sizes → RecordId → Header → RecordId
next_id s i h = record_id (bucket_next i.bucket i.slot h) (slot_next s i.slot)

-- past a record with header h
abbrev pub past : State → Cursor → Header → Cursor
past s c h = record { core = c.core; held = c.held; left = c.left - 1; id = next_id s.notes.sizes c.id h }

-- the walk from a cursor on
abbrev pub to_come : State → Cursor → Walk
to_come s c = walk s.notes.sizes (content_at s.world.memory) c.core c.held c.left c.id.bucket c.id.slot

-- the header of record n, if it is the next, good, and fits
abbrev pub header_here : State → Cursor → ℕ → Option Header
header_here s c n = header_at s.notes.sizes (content_at s.world.memory) c.core c.held n c.id.bucket c.id.slot

-- what a step of the walk answers, and the cursor after it
abbrev pub Next : State → Cursor → Result (Option Found) LogFault → Cursor → Type 0
Next s c (Ok None) c' = c.left ≡ 0
Next s c (Ok (Some f)) c' =
    (0 < c.left) × (f.id ≡ c.id) × (Some f.header ≡ header_here s c (c.left - 1)) × (c' ≡ past s c f.header)
Next s c (Err e) c' = (0 < c.left) × (None ≡ header_here s c (c.left - 1)) × (e ≡ BadHeader c.core c.id)
