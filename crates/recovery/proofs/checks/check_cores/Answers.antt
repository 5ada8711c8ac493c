use Rattle.std.proofs.Common.{arith}
use Rattle.std.proofs.lemmas.Result.{err_from_is_err_and}
use Rattle.memory.specs.Meaning.{content_at}
use Rattle.undo_log.specs.Calls.{world}
use Rattle.recovery.proofs.Cores.{cores_more, cores_stop, cores_end}
use Rattle.recovery.proofs.checks.check_cores.Goals as goal

pub returns-in_err-more : goal.returns-in_err-more
returns-in_err-more g c =
    let w = world c.args.log.now in
    let p = err_from_is_err_and c.from_residual.result c.from_residual.ensures.1 in
    rw (p.1, p.2) (cores_stop c.args.log.now.sizes (content_at w.memory) c.loop-core.core w.block _ _ c.loop-core.invariant.counted _
    (omega (arith, c.loop-core-test.true, c.sizes-core-end.ensures.block)) c.in_err-more.ensures.tallied)

pub loop-core-preserved : goal.loop-core-preserved
loop-core-preserved g c =
    let w = world c.args.log.now in
    let f = c.in_ok-more.ensures.few in
    record {
      records = omega (arith, f.0);
      entries = omega (arith, f.1);
      counted = cores_more c.args.log.now.sizes (content_at w.memory) c.loop-core.core w.block _ _ c.loop-core.invariant.counted _
          (omega (arith, c.loop-core-test.true, c.sizes-core-end.ensures.block)) c.in_ok-more.ensures.tallied;
    }

pub returns : goal.returns
returns g c =
    let w = world c.args.log.now in
    cores_end c.args.log.now.sizes (content_at w.memory) c.loop-core.core w.block _ _ c.loop-core.invariant.counted
    (omega (arith, c.loop-core-test.false, c.sizes-core-end.ensures.block))
