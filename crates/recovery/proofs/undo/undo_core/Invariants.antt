use Rattle.std.proofs.Common.{◌≡◌, ◌≤◌, true}
use Rattle.undo_log.specs.Calls.{state, world}
use Rattle.recovery.specs.Cursor.{to_come}
use Rattle.recovery.specs.Kept.{Kept}
use Rattle.recovery.specs.Walk.{found}
use Rattle.recovery.proofs.Records.{RecordsLeft}
use Rattle.recovery.proofs.undo.undo_core.Given as goal

-- the log is as it was, the walk comes to its end, and what is left leads to the end
abbrev pub invariant-loop-found : goal.invariant-loop-found
invariant-loop-found g l =
    let s = state l.initial.log in
    record {
      kept : Kept s (state l.log);
      core : l.cursor.core ≡ l.core;
      few : l.cursor.left ≤ 8160;
      passes : found (to_come s l.cursor) ≡ true;
      left : RecordsLeft s l.core l.cursor l.last (world l.log);
    }

abbrev pub decreases-loop-found : goal.decreases-loop-found
decreases-loop-found g l = l.cursor.left
