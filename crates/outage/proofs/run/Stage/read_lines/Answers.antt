use Rattle.std.proofs.Common.{◌∙◌, arith}
use Rattle.std.proofs.lemmas.List.{length-set}
use Rattle.outage.proofs.Steps.{found_more}
use Rattle.outage.proofs.run.Stage.read_lines.Goals as goal

pub loop-line-preserved : goal.loop-line-preserved
loop-line-preserved g c = (
  length-set c.loop-line.place-items c.loop-line.line c.stands_as.result ∙ c.loop-line.invariant.0,
  found_more (g.M.Memory.meaning c.args.self.now.memory) c.loop-line.line c.in_ok-read.field-0 c.stands_as.result c.loop-line.place-items (omega (arith, c.loop-line.invariant.0)) c.in_ok-read.ensures c.stands_as.ensures c.loop-line.invariant.1,
)
