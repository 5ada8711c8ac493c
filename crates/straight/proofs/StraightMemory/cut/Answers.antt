use Rattle.straight.proofs.Meant.{cuts_in}
use Rattle.straight.proofs.StraightMemory.cut.Goals as goal

pub returns-clause-did : goal.returns-clause-did
returns-clause-did c = rw c.off-self.ensures (cuts_in c.args.self.now.bytes.now c.args.self.now.power)
