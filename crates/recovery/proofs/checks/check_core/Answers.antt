use Rattle.std.proofs.Common.{ℕ, ◌+◌, ◌-◌, ap, ◌∙◌, arith, rules}
use Rattle.std.proofs.lemmas.Result.{err_from_is_err_and}
use Rattle.undo_log.specs.Calls.{state}
use Rattle.recovery.specs.declared.walk.Cursor.{Cursor}
use Rattle.recovery.specs.Check.{plus, tally}
use Rattle.recovery.specs.Cursor.{to_come}
use Rattle.recovery.proofs.Walks.{begins, onward, ends, fails, count_none, count_more, count_fails, count_ends}
use Rattle.recovery.proofs.checks.check_core.Goals as goal

pub loop-found-init : goal.loop-found-init
loop-found-init g c =
    let s = state c.args.log.now in
    let d = c.newest-cursor in
    record {
      core = ap (λ (d : Cursor). d.core) d.ensures.is;
      few = omega arith;
      tallied = count_none (tally c.args.core (to_come s d.result)) d.result.left ∙ ap (tally c.args.core) (begins s c.args.core d.result d.ensures.is);
    }

pub returns-in_err-found-clause-tallied : goal.returns-in_err-found-clause-tallied
returns-in_err-found-clause-tallied g c =
    let i = c.loop-found.invariant in
    let x = err_from_is_err_and c.from_residual.result c.from_residual.ensures.1 in
    rw (x.1, x.2) (count_fails c.args.core _ _ _ _ _ i.tallied _
    (fails (state c.args.log.now) c.loop-found.cursor c.next.new.self c.args.core _ i.core c.in_err-found.ensures))

pub loop-found-preserved : goal.loop-found-preserved
loop-found-preserved g c =
    let s = state c.args.log.now in
    let i = c.loop-found.invariant in
    let d = c.loop-found.cursor in
    let b = c.next.new.self in
    let n = onward s d b c.in_ok-found.field-0 c.in-Some.found c.in-Some.is c.in_ok-found.ensures in
    let R = c.newest-cursor.result.left in
    record {
      core = n.core ∙ i.core;
      few = search rules;
      tallied = ap (λ (m : ℕ). plus (R - b.left, c.loop-found.entries + m) (tally c.args.core (to_come s b))) c.from-entries.ensures
          ∙ count_more c.args.core R d.left c.loop-found.entries _ _ i.tallied c.in-Some.found _ b.left n.some (omega (arith, i.few)) n.left n.walk;
    }

pub returns-clause-tallied : goal.returns-clause-tallied
returns-clause-tallied g c =
    let n = ends (state c.args.log.now) c.loop-found.cursor c.next.new.self c.in_ok-found.field-0 c.in_default.is c.in_ok-found.ensures in
    count_ends c.args.core _ _ _ _ _ c.loop-found.invariant.tallied n.0 n.1
