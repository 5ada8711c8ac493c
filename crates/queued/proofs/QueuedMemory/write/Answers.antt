use Rattle.std.proofs.Common.{sym, rules}
use Rattle.std.proofs.lemmas.Result.{err_from_is_err_and}
use Rattle.queued.specs.Queued.{parts_of}
use Rattle.queued.specs.Sound.{full_of}
use Rattle.queued.proofs.Meant.{write_none, wrote_in}
use Rattle.queued.proofs.QueuedMemory.write.Goals as goal

pub returns-in_err-below-clause-did : goal.returns-in_err-below-clause-did
returns-in_err-below-clause-did c =
    let p = err_from_is_err_and c.from_residual.result c.from_residual.ensures.1 in
    rw (p.1, p.2) (write_none (parts_of c.args.self.now) c.args.line c.args.content.now _ (sym c.in_err-below.ensures))

pub returns-in_err-spend-clause-did : goal.returns-in_err-spend-clause-did
returns-in_err-spend-clause-did c =
    let p = err_from_is_err_and c.from_residual-in_err-spend.result c.from_residual-in_err-spend.ensures.1 in
    rw (p.1, p.2)
    (wrote_in (parts_of c.args.self.now) c.args.line c.args.content.now (full_of c.args.self.now) _ (sym c.in_ok-below.ensures) _ (parts_of c.spend.new.self) c.in_err-spend.ensures.answer (search rules))

pub returns-clause-did : goal.returns-clause-did
returns-clause-did c =
    wrote_in (parts_of c.args.self.now) c.args.line c.args.content.now (full_of c.args.self.now) _ (sym c.in_ok-below.ensures) _ (parts_of c.take_write.new.self) c.in_ok-spend.ensures.answer (search rules)
