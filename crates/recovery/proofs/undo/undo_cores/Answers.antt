use Rattle.std.proofs.Common.{◌<◌, length, ◌∙◌, arith}
use Rattle.std.proofs.lemmas.Result.{err_from_is_err_and}
use Rattle.undo_log.specs.Calls.{state, world}
use Rattle.recovery.proofs.AllCores.{core_found, core_more, core_stop, cores_done, sees_more}
use Rattle.recovery.proofs.undo.undo_cores.Goals as goal

pub undo_core-requires-clause-passed : goal.undo_core-requires-clause-passed
undo_core-requires-clause-passed g c =
    let k = c.loop-core.core in
    let h : k < length (world c.args.log.now).block = omega (arith, c.loop-core-test.true, c.sizes-core-end.ensures.block) in
    core_found (state c.args.log.now) (state c.loop-core.log) k h c.loop-core.invariant.sees

pub returns-in_err-undo_core : goal.returns-in_err-undo_core
returns-in_err-undo_core g c =
    let k = c.loop-core.core in
    let h : k < length (world c.args.log.now).block = omega (arith, c.loop-core-test.true, c.sizes-core-end.ensures.block) in
    let i = c.loop-core.invariant in
    let x = err_from_is_err_and c.from_residual.result c.from_residual.ensures.1 in
    rw (x.1, x.2) (record {
      ran = core_stop (state c.args.log.now) (state c.loop-core.log) k h i.sees (world c.undo_core.new.log) _ c.in_err-undo_core.ensures.ran i.left;
      rest = c.in_err-undo_core.ensures.rest ∙ i.sees.notes;
    })

pub loop-core-preserved : goal.loop-core-preserved
loop-core-preserved g c =
    let s = state c.args.log.now in
    let v = state c.loop-core.log in
    let u = state c.undo_core.new.log in
    let k = c.loop-core.core in
    let h : k < length s.world.block = omega (arith, c.loop-core-test.true, c.sizes-core-end.ensures.block) in
    let i = c.loop-core.invariant in
    let d = c.in_ok-undo_core.ensures in
    record { sees = sees_more s v k h i.sees u d.rest d.kept; left = core_more s v k h i.sees u.world d.ran i.left }

pub returns : goal.returns
returns g c =
    let i = c.loop-core.invariant in
    record {
      ran = cores_done (state c.args.log.now) (world c.loop-core.log) c.loop-core.core (omega (arith, c.loop-core-test.false, c.sizes-core-end.ensures.block)) i.left;
      rest = i.sees.notes;
    }
