use Rattle.std.proofs.Common.{ap}
use Rattle.undo_log.specs.Closing.{State}
use Rattle.undo_log.specs.Calls.{state, world}
use Rattle.recovery.proofs.Recovered.{restored}
use Rattle.recovery.proofs.undo.recover.Goals as goal

pub returns-clause-restored : goal.returns-clause-restored
returns-clause-restored g c =
    restored (state c.args.log.now) (state c.forget.new.self) c.in_ok-undone.undone (world c.undo_cores.new.log) c.in_ok-undone.ensures.checks (ap (λ (s : State). s.notes) c.forget.ensures)
    (ap (λ (s : State). s.world) c.forget.ensures) c.in_ok-undo_cores.ensures.ran
