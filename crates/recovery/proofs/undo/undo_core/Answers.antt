use Rattle.std.proofs.Common.{◌^◌, ◌<◌, None, sym, refl, ap, ◌∙◌, arith}
use Rattle.std.proofs.lemmas.Result.{err_from_is_err_and}
use Rattle.undo_log.specs.Calls.{state, world}
use Rattle.undo_log.specs.Closing.{Notes, noting}
use Rattle.recovery.specs.declared.walk.Cursor.{Cursor}
use Rattle.recovery.specs.Walk.{found}
use Rattle.recovery.proofs.Entries.{kept_all, kept_then}
use Rattle.recovery.proofs.Records.{ready_on, undoable, emptied_none, not_fails, goes, found_more, record_more, record_stop, core_none, core_end, core_unfenced, blank_stays}
use Rattle.recovery.proofs.Walks.{begins}
use Rattle.recovery.proofs.undo.undo_core.Goals as goal

pub loop-found-init : goal.loop-found-init
loop-found-init g c =
    let s = state c.args.log.now in
    let d = c.newest-cursor in
    record {
      kept = kept_all s (ready_on s c.requires.able);
      core = ap (λ (d : Cursor). d.core) d.ensures.is;
      few = d.ensures.few;
      passes = ap found (begins s c.args.core d.result d.ensures.is) ∙ c.requires.passed;
      left = (d.ensures.is, refl);
    }

pub returns-in_err-found-clause-ran : goal.returns-in_err-found-clause-ran
returns-in_err-found-clause-ran g c =
    let i = c.loop-found.invariant in
    absurd (not_fails (state c.args.log.now) (state c.loop-found.log) i.kept c.loop-found.cursor c.next.new.self c.args.core _ i.core i.passes c.in_err-found.ensures)

pub undo_record-requires : goal.undo_record-requires
undo_record-requires g c =
    let i = c.loop-found.invariant in
    let small : c.loop-found.cursor.left < 2 ^ 32 = omega (arith, i.few) in
    undoable (state c.args.log.now) (state c.loop-found.log) c.loop-found.cursor c.next.new.self c.in_ok-found.field-0 c.in-Some.found c.requires.able i.kept small
    c.in-Some.is c.in_ok-found.ensures

pub returns-in_err-undo_record-clause-ran : goal.returns-in_err-undo_record-clause-ran
returns-in_err-undo_record-clause-ran g c =
    let i = c.loop-found.invariant in
    let p = err_from_is_err_and c.from_residual-in_err-undo_record.result c.from_residual-in_err-undo_record.ensures.1 in
    rw (p.1, p.2) (record_stop (state c.args.log.now) (state c.loop-found.log) i.kept c.loop-found.cursor c.next.new.self c.args.core _ c.in_ok-found.ensures _ i.left
    c.in-Some.found c.in-Some.is i.passes (world c.undo_record.new.log) _ c.in_err-undo_record.ensures.ran)

pub loop-found-preserved : goal.loop-found-preserved
loop-found-preserved g c =
    let s = state c.args.log.now in
    let v = state c.loop-found.log in
    let u = state c.undo_record.new.log in
    let i = c.loop-found.invariant in
    let d = c.loop-found.cursor in
    let b = c.next.new.self in
    let x = c.in-Some in
    let r = c.in_ok-undo_record.ensures in
    let m = goes s v i.kept d b c.args.core _ c.in_ok-found.ensures _ i.left x.found x.is i.passes in
    record {
      kept = kept_then s v u i.kept r.kept;
      core = m.core ∙ i.core;
      few = omega (arith, m.left, i.few);
      passes = found_more s v i.kept d b c.args.core _ c.in_ok-found.ensures _ i.left x.found x.is i.passes;
      left = record_more s v i.kept d b c.args.core _ c.in_ok-found.ensures _ i.left x.found x.is i.passes u.world r.ran;
    }

pub returns-in_err-fence-clause-ran : goal.returns-in_err-fence-clause-ran
returns-in_err-fence-clause-ran g c =
    let i = c.loop-found.invariant in
    let p = err_from_is_err_and c.from_residual-in_err-fence.result c.from_residual-in_err-fence.ensures.1 in
    rw (p.1, p.2) (core_unfenced (state c.args.log.now) (state c.loop-found.log) i.kept c.loop-found.cursor c.next.new.self c.args.core _ c.in_ok-found.ensures _ i.left
    c.in_default.is c.in-Some-last.id (world c.fence.new.self) _ c.in-Some-last.is c.in_err-fence.ensures.did)

pub returns-in_ok-fence-clause-ran : goal.returns-in_ok-fence-clause-ran
returns-in_ok-fence-clause-ran g c =
    let i = c.loop-found.invariant in
    core_end (state c.args.log.now) (state c.loop-found.log) i.kept c.loop-found.cursor c.next.new.self c.args.core _ c.in_ok-found.ensures _ i.left c.in_default.is
    c.in-Some-last.id (world c.fence.new.self) (world c.empty.new.self) c.in-Some-last.is c.in_ok-fence.ensures.did c.empty.ensures.did

pub returns-in_ok-fence-clause-rest : goal.returns-in_ok-fence-clause-rest
returns-in_ok-fence-clause-rest g c =
    c.empty.ensures.notes
    ∙ ap (λ (n : Notes). noting n c.args.core None 255) (c.in_ok-fence.ensures.rest ∙ c.loop-found.invariant.kept.notes ∙ c.requires.blank)
    ∙ blank_stays c.args.log.now.sizes c.args.core ∙ sym c.requires.blank

pub returns-in_default-last-clause-ran : goal.returns-in_default-last-clause-ran
returns-in_default-last-clause-ran g c =
    let i = c.loop-found.invariant in
    core_none (state c.args.log.now) (state c.loop-found.log) i.kept c.loop-found.cursor c.next.new.self c.args.core _ c.in_ok-found.ensures _ i.left c.in_default.is
    c.in_default-last.is

pub returns-in_default-last-clause-kept : goal.returns-in_default-last-clause-kept
returns-in_default-last-clause-kept g c = emptied_none (state c.args.log.now) (state c.loop-found.log) c.args.core c.loop-found.invariant.kept
