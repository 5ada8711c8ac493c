use Rattle.std.proofs.Common.{refl, ap, ◌∙◌}
use Rattle.lines.specs.Lines.{rest_of}
use Rattle.queued.specs.Below.{moved}
use Rattle.queued.specs.Sound.{all_of_whole}
use Rattle.queued.proofs.Overlaid.{moved_rest}
use Rattle.queued.proofs.Meant.{undrained}
use Rattle.queued.proofs.Queued.drain.Goals as goal

pub returns-in-Some-clause-lent : goal.returns-in-Some-clause-lent
returns-in-Some-clause-lent c =
    let queue = c.in-Some.running.queue in
    record {
      lender = refl;
      rest = ap rest_of (c.move_down.ensures ∙ ap (moved c.args.self.now.bytes.now) c.entries.ensures)
          ∙ moved_rest c.args.self.now.bytes.now queue.slots.items (all_of_whole queue.slots.items queue.whole);
    }

pub returns-in_default-clause-parts : goal.returns-in_default-clause-parts
returns-in_default-clause-parts c = undrained c.args.self.now c.in_default.is
