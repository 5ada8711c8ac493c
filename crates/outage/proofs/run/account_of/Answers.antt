use Rattle.std.proofs.Common.{◌≡◌, length, sym, ap, ◌∙◌, arith}
use Rattle.lines.specs.Lines.{count_of}
use Rattle.lines.proofs.Rows.{lines_length}
use Rattle.std.proofs.lemmas.Result.{IfOk-weaker}
use Rattle.straight.specs.Straight.{meant}
use Rattle.straight.specs.Sound.{all_durable}
use Rattle.queued.specs.Queued.{Parts, parts_of}
use Rattle.queued.proofs.Meant.{count_of_lem}
use Rattle.outage.specs.declared.history.Durability.TheVariants.{Durable, NotDurable}
use Rattle.outage.specs.declared.story.Choice.{Choice}
use Rattle.outage.specs.declared.story.Kind.{Kind}
use Rattle.outage.specs.declared.story.Kind.TheVariants.{Queued}
use Rattle.outage.specs.History.{after_write}
use Rattle.outage.specs.Run.{Honest, AsAsked}
use Rattle.outage.proofs.run.account_of.Goals as goal

-- every line of a straight memory is durable
straight_honest : (k : Kind) → Honest meant k
straight_honest k e x l = all_durable (count_of x.bytes.now) l

-- on queued memory a completed write is not durable
waits : (k : Kind) (choice : Choice) → k ≡ Queued choice → after_write k ≡ Durable → ⊥
waits k choice e d = let dead : NotDurable ≡ Durable = sym (ap after_write e) ∙ d in absurd (grind arith)

pub invariant_of-lose_power : goal.invariant_of-lose_power
invariant_of-lose_power c =
    record { lines = omega (arith, lines_length c.new-memory.result.bytes.now, ap length c.new-memory.ensures.bytes) }

pub invariant_of-lose_power-in-Queued : goal.invariant_of-lose_power-in-Queued
invariant_of-lose_power-in-Queued c =
    record { lines = omega (arith, count_of_lem (parts_of c.new-memory-in-Queued.result), ap (λ (s : Parts). length s.bytes) c.new-memory-in-Queued.ensures.parts) }

pub returns-in-Straight : goal.returns-in-Straight
returns-in-Straight c =
    record {
      tells = c.lose_power.ensures.tells;
      asked = IfOk-weaker c.lose_power.result _ (AsAsked c.args.kind) (λ a h. h c.args.kind (straight_honest c.args.kind)) c.lose_power.ensures.asked;
      given = c.lose_power.ensures.given;
    }

pub returns-in-Queued : goal.returns-in-Queued
returns-in-Queued c =
    record {
      tells = c.lose_power-in-Queued.ensures.tells;
      asked = IfOk-weaker c.lose_power-in-Queued.result _ (AsAsked c.args.kind) (λ a h. h c.args.kind (λ e. absurd (waits c.args.kind _ c.in-Queued.is e))) c.lose_power-in-Queued.ensures.asked;
      given = c.lose_power-in-Queued.ensures.given;
    }
