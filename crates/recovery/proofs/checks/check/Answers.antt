use Rattle.undo_log.specs.Calls.{world}
use Rattle.recovery.proofs.Ends.{walks_end}
use Rattle.recovery.proofs.checks.check.Goals as goal

pub returns-then-not-is_ready-clause-ends : goal.returns-then-not-is_ready-clause-ends
returns-then-not-is_ready-clause-ends g c = walks_end c.args.log.now.sizes (world c.args.log.now).block

pub returns-clause-ends : goal.returns-clause-ends
returns-clause-ends g c = walks_end c.args.log.now.sizes (world c.args.log.now).block
