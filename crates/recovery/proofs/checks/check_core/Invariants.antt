use Rattle.std.proofs.Common.{◌≡◌, ◌+◌, ◌-◌, ◌*◌, ◌≤◌}
use Rattle.undo_log.specs.Calls.{state}
use Rattle.recovery.specs.Check.{plus, tally}
use Rattle.recovery.specs.Cursor.{to_come}
use Rattle.recovery.specs.Walk.{walk_in}
use Rattle.recovery.proofs.checks.check_core.Given as goal

-- what is counted and what is left come to the answer
abbrev pub invariant-loop-found : goal.invariant-loop-found
invariant-loop-found g l =
    record {
      core : l.cursor.core ≡ l.core;
      few : l.entries + 255 * l.cursor.left ≤ 255 * l.records;
      tallied : plus (l.records - l.cursor.left, l.entries) (tally l.core (to_come (state l.log) l.cursor)) ≡ tally l.core (walk_in (state l.log) l.core);
    }

abbrev pub decreases-loop-found : goal.decreases-loop-found
decreases-loop-found g l = l.cursor.left
