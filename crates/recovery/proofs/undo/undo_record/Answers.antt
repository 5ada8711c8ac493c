use Rattle.std.proofs.Common.{refl, arith}
use Rattle.std.proofs.lemmas.Result.{err_from_is_err_and}
use Rattle.undo_log.specs.Calls.{state, world}
use Rattle.recovery.proofs.Entries.{entry_kept, entry_more, entry_stop, entry_end}
use Rattle.recovery.proofs.undo.undo_record.Goals as goal

pub loop-i-preserved : goal.loop-i-preserved
loop-i-preserved g c =
    let s = state c.args.log.now in
    let v = state c.loop-i.log in
    let u = state c.restore.new.log in
    let x = c.args.found.now in
    let i = c.loop-i.invariant in
    let at = c.entry_line-from.ensures.at in
    let d = c.in_ok-restore.ensures in
    record {
      kept = entry_kept s v c.args.core x c.loop-i.i _ _ _ c.sizes-sizes.ensures.is c.loop-i-test.true i.kept at refl u c.loop-i.auto.i c.requires d.rest d.did;
      left = entry_more s v c.args.core x c.loop-i.i _ _ _ c.sizes-sizes.ensures.is c.loop-i-test.true i.kept at refl u.world d.did i.left;
    }

pub returns-in_err-restore-clause-ran : goal.returns-in_err-restore-clause-ran
returns-in_err-restore-clause-ran g c =
    let i = c.loop-i.invariant in
    let p = err_from_is_err_and c.from_residual.result c.from_residual.ensures.1 in
    rw (p.1, p.2) (entry_stop (state c.args.log.now) (state c.loop-i.log) c.args.core c.args.found.now c.loop-i.i _ _ _ c.sizes-sizes.ensures.is c.loop-i-test.true i.kept
    c.entry_line-from.ensures.at refl (world c.restore.new.log) _ c.in_err-restore.ensures.did i.left)

pub returns-clause-ran : goal.returns-clause-ran
returns-clause-ran g c = entry_end (state c.args.log.now) (world c.loop-i.log) c.args.core c.args.found.now c.loop-i.i (omega arith) c.loop-i.invariant.left
