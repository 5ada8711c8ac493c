use Rattle.std.proofs.Common.{sym, ◌∙◌, rules}
use Rattle.std.proofs.lemmas.Bool.{le-leb}
use Rattle.layout.proofs.Vectors.{shifted_out, all_below}
use Rattle.layout.proofs.block.BlockEntry.is_below.Goals as goal

pub returns-then-buckets-ge32 : goal.returns-then-buckets-ge32
returns-then-buckets-ge32 c = le-leb 32 c.args.buckets (search rules) ∙ sym (all_below c.args.self.now.vector c.args.buckets (search rules) (search rules))

pub returns-else-buckets-ge32 : goal.returns-else-buckets-ge32
returns-else-buckets-ge32 c = shifted_out c.args.self.now.vector c.args.buckets
