use Rattle.std.proofs.Common.{sym, ◌∙◌, eq-eqb}
use Rattle.std.proofs.lemmas.Bool.{and_from}
use Rattle.layout.proofs.Blocks.{block_rules}
use Rattle.layout.proofs.block.is_block.Goals as goal

pub returns-then-entries-from-clause-rules : goal.returns-then-entries-from-clause-rules
returns-then-entries-from-clause-rules c =
    λ e. block_rules _ _ (and_from _ _ (eq-eqb _ _ (c.if-entries-from.true ∙ c.from.ensures)) (sym c.all_sound.ensures ∙ e))
