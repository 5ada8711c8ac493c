use Rattle.std.proofs.Common.{sym, ◌∙◌, rules}
use Rattle.std.proofs.lemmas.Bool.{le-ltb}
use Rattle.layout.proofs.Vectors.{has_past}
use Rattle.layout.proofs.block.BlockEntry.has_bucket.Goals as goal

pub returns-else-bucket-lt32 : goal.returns-else-bucket-lt32
returns-else-bucket-lt32 c = le-ltb c.args.bucket 32 (search rules) ∙ sym (has_past c.args.self.now.vector 32 c.args.bucket (search rules) (search rules))
