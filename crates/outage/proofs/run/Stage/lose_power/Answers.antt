use Rattle.std.proofs.Common.{refl}
use Rattle.outage.specs.History.{asked_in}
use Rattle.outage.proofs.Steps.{settled_on, reads_as_asked}
use Rattle.outage.proofs.run.Stage.lose_power.Goals as goal

pub returns : goal.returns
returns g c =
    let means = g.M.Memory.meaning in
    let settled = settled_on (means c.settle.new.self.memory) (means c.power_up.new.self) c.args.operations c.power_up.ensures.did c.in_ok-settle.ensures.settled in
    record {
      tells = c.take_steps-history.ensures.tells;
      asked = λ k honest l h q.
          reads_as_asked (means c.take_steps-history.new.self.memory) (means c.power_up-2.new.self) 0 (asked_in c.take_steps-history.result l) l _ c.power_up-2.ensures.did (c.take_steps-history.ensures.kept k honest l (settled.old l h) (settled.safe l) q) (c.in_ok-stands.ensures.found l h);
      given = refl;
    }
