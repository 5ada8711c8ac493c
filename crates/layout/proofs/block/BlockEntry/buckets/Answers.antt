use Rattle.std.proofs.Common.{rules}
use Rattle.layout.proofs.Vectors.{ones_in}
use Rattle.layout.proofs.block.BlockEntry.buckets.Goals as goal

pub returns : goal.returns
returns c = ones_in 32 c.args.self.now.vector (search rules)
