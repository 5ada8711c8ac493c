use Rattle.std.proofs.Common.{sym, arith}
use Rattle.std.proofs.lemmas.Grind.{common_steps}
use Rattle.std.proofs.lemmas.Result.{err_from_is_err_and}
use Rattle.straight.proofs.Meant.{write_none, wrote_in}
use Rattle.straight.proofs.StraightMemory.write.Goals as goal

pub returns-in_err-old-clause-did : goal.returns-in_err-old-clause-did
returns-in_err-old-clause-did c =
    let p = err_from_is_err_and c.from_residual.result c.from_residual.ensures.1 in
    rw (p.1, p.2) (write_none c.args.self.now.bytes.now c.args.line c.args.content.now c.args.self.now.power _ (sym c.in_err-old.ensures))

pub returns-then-is_ok-clause-did : goal.returns-then-is_ok-clause-did
returns-then-is_ok-clause-did c =
    wrote_in c.args.self.now.bytes.now c.args.line c.args.content.now c.args.self.now.power c.told-content
    c.in_ok-old.old (sym c.in_ok-old.ensures) _ _ _ c.spend-spent.ensures.answer (grind (arith, common_steps)) (grind (arith, common_steps))

pub returns-then-was_on-clause-did : goal.returns-then-was_on-clause-did
returns-then-was_on-clause-did c =
    wrote_in c.args.self.now.bytes.now c.args.line c.args.content.now c.args.self.now.power c.told-content
    c.in_ok-old.old (sym c.in_ok-old.ensures) _ _ _ c.spend-spent.ensures.answer (grind (arith, common_steps)) (grind (arith, common_steps))

pub returns-else-was_on-clause-did : goal.returns-else-was_on-clause-did
returns-else-was_on-clause-did c =
    wrote_in c.args.self.now.bytes.now c.args.line c.args.content.now c.args.self.now.power c.told-content
    c.in_ok-old.old (sym c.in_ok-old.ensures) _ _ _ c.spend-spent.ensures.answer (grind (arith, common_steps)) (grind (arith, common_steps))
