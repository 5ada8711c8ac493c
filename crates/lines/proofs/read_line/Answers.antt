-- The line among the chunks of 64 bytes, if it is there.
use Rattle.std.proofs.Common.{◌∙◌, arith}
use Rattle.lines.proofs.Rows.{line_among}
use Rattle.lines.proofs.read_line.Goals as goal

pub returns : goal.returns
returns c =
    c.copied.ensures
    ∙ line_among (λ x. x.now) c.args.bytes.now c.args.line c.as_chunks.result.0.now c.get.result c.as_chunks.ensures.front c.get.ensures.lookup.0 (c.get.ensures.lookup.4 (omega arith))
