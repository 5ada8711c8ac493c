use Rattle.std.proofs.Common.{rules}
use Rattle.std.proofs.lemmas.Result.{err_from_is_err_and}
use Rattle.queued.specs.Queued.{parts_of}
use Rattle.queued.specs.Sound.{full_of}
use Rattle.queued.proofs.Meant.{fenced_in}
use Rattle.queued.proofs.QueuedMemory.fence.Goals as goal

pub returns-in_err-spend-clause-did : goal.returns-in_err-spend-clause-did
returns-in_err-spend-clause-did c =
    let p = err_from_is_err_and c.from_residual.result c.from_residual.ensures.1 in
    rw (p.1, p.2) (fenced_in (parts_of c.args.self.now) (full_of c.args.self.now) _ (parts_of c.spend.new.self) c.in_err-spend.ensures.answer (search rules))

pub returns-clause-did : goal.returns-clause-did
returns-clause-did c = fenced_in (parts_of c.args.self.now) (full_of c.args.self.now) _ (parts_of c.drain.new.self) c.in_ok-spend.ensures.answer (search rules)
