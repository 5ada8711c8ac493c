use Rattle.undo_log.specs.Calls.{state, world}
use Rattle.recovery.specs.Kept.{Kept}
use Rattle.recovery.proofs.Entries.{EntriesLeft}
use Rattle.recovery.proofs.undo.undo_record.Given as goal

-- the log is as it was, and what is left leads to the end
abbrev pub invariant-loop-i : goal.invariant-loop-i
invariant-loop-i g l =
    record {
      kept : Kept (state l.initial.log) (state l.log);
      left : EntriesLeft (state l.initial.log) (world l.log) l.core l.found l.i;
    }
