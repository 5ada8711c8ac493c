use Rattle.std.proofs.Common.{Ok, Err, refl, ◌∙◌}
use Rattle.std.proofs.lemmas.Result.{err_from_is_err_and}
use Rattle.undo_log.proofs.state.Log.close_by.Goals as goal

pub returns-in_err-fence : goal.returns-in_err-fence
returns-in_err-fence g c =
    let p = err_from_is_err_and c.from_residual-in_err-fence.result c.from_residual-in_err-fence.ensures.1 in
    rw (p.1, p.2) (record {
      ran = (Ok tt, (_, (c.in_ok-write.ensures.did, (Err _, (_, (c.in_err-fence.ensures.did, (refl, refl)))))));
      rest = c.in_err-fence.ensures.rest ∙ c.in_ok-write.ensures.rest;
    })

pub returns : goal.returns
returns g c = record {
  ran = (Ok tt, (_, (c.in_ok-write.ensures.did, (Ok tt, (_, (c.in_ok-fence.ensures.did, (Ok tt, (_, (c.enter.ensures.did, (refl, refl))))))))));
  rest = c.enter.ensures.rest ∙ c.in_ok-fence.ensures.rest ∙ c.in_ok-write.ensures.rest;
}
