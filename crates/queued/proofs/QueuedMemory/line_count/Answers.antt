use Rattle.std.proofs.Common.{sym, ◌∙◌}
use Rattle.queued.specs.Queued.{parts_of}
use Rattle.queued.proofs.Meant.{count_of_lem}
use Rattle.queued.proofs.QueuedMemory.line_count.Goals as goal

pub returns : goal.returns
returns c = c.line_count.ensures ∙ sym (count_of_lem (parts_of c.args.self.now))
