use Rattle.std.proofs.lemmas.Result.{err_from_is_err_and}
use Rattle.undo_log.specs.Calls.{notes_of}
use Rattle.undo_log.proofs.Closings.{the_steps, the_notes}
use Rattle.undo_log.proofs.Runs.{ran_same}
use Rattle.undo_log.proofs.state.Log.close_record.Goals as goal

pub returns-in_err-close_by : goal.returns-in_err-close_by
returns-in_err-close_by g c =
    let l = c.args.self.now in
    let p = err_from_is_err_and c.from_residual.result c.from_residual.ensures.1 in
    rw (p.1, p.2) (record {
      ran = ran_same _ _ _ _ _ (the_steps l.sizes _ _ _ _ _ _ _ c.args.opened _ _ c.line_of-line.ensures c.encode-bytes.ensures.written c.entry-held.ensures c.before_at-was.ensures c.header_of-header.ensures c.counted.ensures) c.in_err-close_by.ensures.ran;
      notes = c.in_err-close_by.ensures.rest;
    })

pub returns : goal.returns
returns g c =
    let l = c.args.self.now in
    let v = c.close_by.new.self in
    rw c.note_closed.ensures (record {
      ran = ran_same _ _ _ _ _ (the_steps l.sizes _ _ _ _ _ _ _ c.args.opened _ _ c.line_of-line.ensures c.encode-bytes.ensures.written c.entry-held.ensures c.before_at-was.ensures c.header_of-header.ensures c.counted.ensures) c.in_ok-close_by.ensures.ran;
      notes = the_notes (notes_of l) (notes_of v) _ _ _ _ c.args.core c.args.opened l.sizes _ c.in_ok-close_by.ensures.rest c.entry-held.ensures c.before_at-was.ensures c.header_of-header.ensures;
    })
