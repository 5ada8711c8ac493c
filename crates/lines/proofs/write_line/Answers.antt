-- The middle part that was lent holds the content; behind the last line nothing changed.
use Rattle.std.proofs.Common.{ap, ◌∙◌, arith}
use Rattle.lines.specs.Lines.{rest_of}
use Rattle.lines.proofs.Rows.{with_rest, lent_middle}
use Rattle.lines.proofs.write_line.Goals as goal

pub returns : goal.returns
returns c =
    let after = lent_middle c.args.bytes.now c.fill_line.new.part c.args.line c.args.content.now c.fill_line.ensures (omega arith) in
    let rest = with_rest c.args.bytes.now c.args.line c.args.content.now (λ _. c.told-content) in
    record { after = after; rest = ap rest_of after ∙ rest }
