use Rattle.std.proofs.Common.{◌≡◌, ◌-◌, get_or, take, sym, refl, ap, ◌∙◌, arith}
use Rattle.std.proofs.lemmas.List.{take_all}
use Rattle.std.proofs.lemmas.List.Sums.{fold_more}
use Rattle.outage.specs.declared.story.Step.TheVariants.{Write}
use Rattle.outage.specs.declared.history.Asked.TheVariants.{Nothing}
use Rattle.outage.specs.declared.history.Durability.TheVariants.{Durable}
use Rattle.outage.specs.History.{asked_next, asked_by, durability_next, durability_by}
use Rattle.outage.specs.Run.{content_for}
use Rattle.outage.proofs.Steps.{content_more, safe_more, kept}
use Rattle.outage.proofs.run.Stage.take_steps.Goals as goal

pub returns-in-Err : goal.returns-in-Err
returns-in-Err g c =
    let m = g.M.Memory.meaning c.loop-i.self.memory in
    let m' = g.M.Memory.meaning c.take_step.new.self.memory in
    let ss = c.args.steps.now in
    let i = c.loop-i.i in
    let part : take (i - 0) ss ≡ take i ss = ap (λ n. take n ss) (omega arith) in
    record {
      tells = (i, c.loop-i-test.true, part, refl);
      kept = λ k honest l old safe q.
          kept m m' (get_or ss i (Write 0)) l c.in-Err.fault c.in-Err.ensures (durability_by k (take (i - 0) ss) l) (asked_by (take (i - 0) ss) l) q
          (λ e. c.loop-i.invariant.1 k honest l safe (ap (λ xs. durability_by k xs l) (sym part) ∙ e))
          (c.loop-i.invariant.0 l old ∙ ap (λ xs. content_for (asked_by xs l) l) (sym part));
    }

pub loop-i-preserved : goal.loop-i-preserved
loop-i-preserved g c =
    let m = g.M.Memory.meaning c.loop-i.self.memory in
    let m' = g.M.Memory.meaning c.take_step.new.self.memory in
    let ss = c.args.steps.now in
    let i = c.loop-i.i in
    let s = get_or ss i (Write 0) in (
      λ l old. content_more m m' s l c.in_default.ensures (asked_by (take i ss) l) _ (fold_more (asked_next l) Nothing ss i (Write 0) c.loop-i-test.true) (c.loop-i.invariant.0 l old),
      λ k honest l safe q. safe_more k m m' s l c.in_default.ensures (durability_by k (take i ss) l) _ (fold_more (durability_next k l) Durable ss i (Write 0) c.loop-i-test.true) (λ e. honest e c.take_step.new.self.memory l) (c.loop-i.invariant.1 k honest l safe) q,
    )

pub returns : goal.returns
returns g c =
    record {
      tells = refl;
      kept = λ k honest l old safe q.
          c.loop-i.invariant.0 l old ∙ ap (λ ss. content_for (asked_by ss l) l) (take_all c.loop-i.i c.args.steps.now c.loop-i-test.false);
    }
