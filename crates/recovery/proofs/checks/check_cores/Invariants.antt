use Rattle.std.proofs.Common.{◌≡◌, ◌*◌, ◌≤◌, drop}
use Rattle.memory.specs.Meaning.{content_at}
use Rattle.undo_log.specs.Calls.{state, world, notes_of}
use Rattle.recovery.specs.Check.{plus, checked, checked_in}
use Rattle.recovery.proofs.checks.check_cores.Given as goal

-- what is counted and what is left come to the answer
abbrev pub invariant-loop-core : goal.invariant-loop-core
invariant-loop-core g l =
    let w = world l.log in
    record {
      records : l.records ≤ 8160 * l.core;
      entries : l.entries ≤ 255 * 8160 * l.core;
      counted : plus (l.records, l.entries) (checked (notes_of l.log).sizes (content_at w.memory) l.core (drop l.core w.block)) ≡ checked_in (state l.log);
    }
