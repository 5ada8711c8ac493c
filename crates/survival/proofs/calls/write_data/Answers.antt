use Rattle.undo_log.specs.Calls.{state}
use Rattle.survival.proofs.Others.{orderly_data}
use Rattle.survival.proofs.calls.write_data.Goals as goal

pub returns-clause-orderly : goal.returns-clause-orderly
returns-clause-orderly g c = orderly_data (state c.args.log.now) (state c.write_data.new.self) _ _ _ _ c.write_data.ensures
