use Rattle.std.proofs.Common.{refl}
use Rattle.undo_log.specs.Calls.{notes_of, world}
use Rattle.undo_log.proofs.Appending.{seventh, before_seventh}
use Rattle.undo_log.proofs.state.Log.append_to.Goals as goal

pub returns-then-more-eq7 : goal.returns-then-more-eq7
returns-then-more-eq7 g c =
    seventh (notes_of c.args.self.now) (notes_of c.write.new.self) _ (world c.args.self.now) (world c.write.new.self) _
    c.args.core c.args.opened c.with_line-more.result c.args.line c.line_of-at.result _ _ c.line_of-at.ensures c.in_ok-write.ensures.did c.in_ok-write.ensures.rest
    c.with_line-more.ensures c.if-more-eq7.true c.close_record.ensures

pub returns : goal.returns
returns g c =
    let v = c.write.new.self in
    rw c.note_open.ensures (before_seventh (notes_of c.args.self.now) (notes_of v) _ (world c.args.self.now) (world v)
    c.args.core c.args.opened c.with_line-more.result c.args.line c.line_of-at.result _ c.line_of-at.ensures c.in_ok-write.ensures.did c.in_ok-write.ensures.rest
    c.with_line-more.ensures c.if-more-eq7.false refl)
