use Rattle.straight.proofs.Meant.{fences_in}
use Rattle.straight.proofs.StraightMemory.fence.Goals as goal

pub returns-clause-did : goal.returns-clause-did
returns-clause-did c =
    rw (c.spend.ensures.answer, c.spend.ensures.after) (fences_in c.args.self.now.bytes.now c.args.self.now.power)
