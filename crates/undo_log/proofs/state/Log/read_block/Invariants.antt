use Rattle.std.proofs.Common.{◌≡◌, length, take}
use Rattle.undo_log.proofs.state.Log.read_block.Given as goal

abbrev pub invariant-loop-core : goal.invariant-loop-core
invariant-loop-core g l = (length l.entries ≡ length l.initial.entries) × (take l.core l.entries ≡ take l.core l.self.block.items)
