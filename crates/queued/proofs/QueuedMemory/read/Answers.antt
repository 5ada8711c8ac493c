use Rattle.std.proofs.Common.{◌≡◌, Some, sym, ap, ◌∙◌}
use Rattle.std.specs.Option.{option_copied}
use Rattle.std.proofs.lemmas.Result.{err_from_is_err_and}
use Rattle.queued.specs.Queued.{parts_of}
use Rattle.queued.proofs.Meant.{read_none, read_off, read_by, dark_from, fault_of}
use Rattle.queued.proofs.QueuedMemory.read.Goals as goal

pub returns-in_err-below : goal.returns-in_err-below
returns-in_err-below c =
    let p = err_from_is_err_and c.from_residual.result c.from_residual.ensures.1 in
    rw (p.1, p.2) (read_none (parts_of c.args.self.now) c.args.line _ (sym c.in_err-below.ensures))

pub returns-in_err-running : goal.returns-in_err-running
returns-in_err-running c =
    let p = err_from_is_err_and c.from_residual-in_err-running.result c.from_residual-in_err-running.ensures.1 in
    rw (p.1, p.2, fault_of c.as_ref.result _ _ c.in_err-running.ensures.value)
    (read_off (parts_of c.args.self.now) c.args.line c.in_ok-below.below (sym c.in_ok-below.ensures)
    (dark_from c.args.self.now (sym (c.in_err-running.ensures.variant ∙ c.as_ref.ensures.variant))))

pub returns : goal.returns
returns c =
    let is : c.args.self.now.running ≡ Some c.in_ok-running.running.now = sym c.as_ref.ensures.value ∙ ap option_copied c.in_ok-running.ensures.ok_part in
    read_by c.args.self.now c.in_ok-running.running.now c.args.line c.in_ok-below.below _ _ is (sym c.in_ok-below.ensures) c.content.ensures c.unwrap_or.ensures
