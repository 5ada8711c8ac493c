use Rattle.std.proofs.Common.{arith}
use Rattle.memory.proofs.Told.{wrote}
use Rattle.outage.proofs.Steps.{settled_more}
use Rattle.outage.proofs.run.Stage.settle.Goals as goal

pub loop-line-preserved : goal.loop-line-preserved
loop-line-preserved g c =
    let m = g.M.Memory.meaning c.loop-line.self.memory in
    let m' = g.M.Memory.meaning c.write.new.self in
    let did = c.in_ok-write.ensures.did in
    let was = (wrote m m' c.loop-line.line c.old_content.result did).1 in (
      settled_more m m' c.loop-line.line c.old_content.result c.old_content.ensures did c.loop-line.invariant.0,
      was.on,
      omega (arith, was.spent, c.loop-line.invariant.2),
    )
