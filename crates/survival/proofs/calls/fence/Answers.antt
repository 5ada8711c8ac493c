use Rattle.undo_log.specs.Calls.{state}
use Rattle.survival.proofs.Others.{orderly_fence}
use Rattle.survival.proofs.calls.fence.Goals as goal

pub returns-clause-orderly : goal.returns-clause-orderly
returns-clause-orderly g c = orderly_fence (state c.args.log.now) (state c.fence.new.self) _ _ c.fence.ensures
