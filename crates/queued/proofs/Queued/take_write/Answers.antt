use Rattle.std.proofs.Common.{Some, None, ◌∙◌}
use Rattle.queued.proofs.Meant.{moved_one, moved_none, take_parts}
use Rattle.queued.proofs.Queued.take_write.Goals as goal

pub returns-in-Some-take-clause-parts : goal.returns-in-Some-take-clause-parts
returns-in-Some-take-clause-parts c =
    take_parts c.args.self.now c.in-Some.running c.args.line c.args.content.now c.take.new.self.slots.items (Some c.in-Some-take.oldest) _ c.in-Some.is c.in-Some-take.ensures.out c.in-Some-take.ensures.after
    (c.write_line.ensures.after ∙ moved_one c.args.self.now.bytes.now c.in-Some-take.oldest)

pub returns-in_default-take-clause-parts : goal.returns-in_default-take-clause-parts
returns-in_default-take-clause-parts c =
    take_parts c.args.self.now c.in-Some.running c.args.line c.args.content.now c.take.new.self.slots.items None _ c.in-Some.is c.in_default-take.ensures.out c.in_default-take.ensures.after
    (moved_none c.args.self.now.bytes.now)
