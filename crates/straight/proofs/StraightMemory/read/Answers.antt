use Rattle.std.proofs.Common.{sym}
use Rattle.std.proofs.lemmas.Result.{err_from_is_err_and}
use Rattle.straight.proofs.Meant.{read_none, read_off, read_on}
use Rattle.straight.proofs.StraightMemory.read.Goals as goal

pub returns-in_err-content : goal.returns-in_err-content
returns-in_err-content c =
    let p = err_from_is_err_and c.from_residual.result c.from_residual.ensures.1 in
    rw (p.1, p.2) (read_none c.args.self.now.bytes.now c.args.self.now.power c.args.line _ (sym c.in_err-content.ensures))

pub returns-then-not-is_on : goal.returns-then-not-is_on
returns-then-not-is_on c =
    read_off c.args.self.now.bytes.now c.args.self.now.power c.args.line c.in_ok-content.content
    (sym c.in_ok-content.ensures) (sym c.if-not-is_on.ensures)

pub returns : goal.returns
returns c =
    read_on c.args.self.now.bytes.now c.args.self.now.power c.args.line c.in_ok-content.content
    (sym c.in_ok-content.ensures) (sym c.if-not-is_on.ensures)
