use Rattle.undo_log.specs.Calls.{state, world}
use Rattle.recovery.proofs.AllCores.{Sees, CoresLeft}
use Rattle.recovery.proofs.undo.undo_cores.Given as goal

-- the cores to come are as they were, and what is left leads to the end
abbrev pub invariant-loop-core : goal.invariant-loop-core
invariant-loop-core g l =
    record {
      sees : Sees (state l.initial.log) l.core (state l.log);
      left : CoresLeft (state l.initial.log) l.core (world l.log);
    }
