use Rattle.std.proofs.Common.{sym, ◌∙◌}
use Rattle.lines.proofs.Rows.{lines_length}
use Rattle.straight.proofs.StraightMemory.line_count.Goals as goal

pub returns : goal.returns
returns c = c.line_count.ensures ∙ sym (lines_length c.args.self.now.bytes.now)
