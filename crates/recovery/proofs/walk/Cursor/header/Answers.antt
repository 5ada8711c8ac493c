use Rattle.std.proofs.Common.{sym, ◌∙◌, rules}
use Rattle.undo_log.specs.Calls.{state}
use Rattle.recovery.proofs.Headers.{header_outside, header_unread, header_read, filtered}
use Rattle.recovery.proofs.walk.Cursor.header.Goals as goal

pub returns-then-not-is_in : goal.returns-then-not-is_in
returns-then-not-is_in g c =
    header_outside (state c.args.log.now) c.args.self.now c.args.number c.sizes-sizes.result c.sizes-sizes.ensures.is (sym c.if-not-is_in.ensures)

pub returns-in_err-bytes : goal.returns-in_err-bytes
returns-in_err-bytes g c =
    rw c.from_residual.ensures
    (header_unread (state c.args.log.now) c.args.self.now c.args.number _ c.sizes-sizes.ensures.is _ _ _ c.memory.ensures c.requires.on
    (sym c.if-not-is_in.ensures) c.header_line-line.ensures.at c.read.ensures c.in_err-bytes.ensures.value)

pub returns : goal.returns
returns g c =
    let r = c.args.self.now in
    filtered c.sizes-sizes.result r.core r.held c.args.number _ c.decode.result c.filter.result c.filter.ensures (λ h b p. search rules)
    ∙ header_read (state c.args.log.now) r c.args.number _ c.sizes-sizes.ensures.is _ _ _ c.memory.ensures c.requires.on
    (sym c.if-not-is_in.ensures) c.header_line-line.ensures.at c.read.ensures _ _ c.in_ok-bytes.ensures.value c.decode.ensures.read
