-- The queue as a list of entries.
use Rattle.std.specs.Prelude.{List}
use Rattle.queued.specs.declared.slot.Slot.{Slot}
use Rattle.queued.specs.declared.queue.Queue.{Queue}

-- the entries, the oldest first
abbrev pub entries_in : Queue → List Slot
entries_in q = q.slots.items
