use Rattle.std.proofs.Common.{rules, []}
use Rattle.memory.specs.Power.{off}
use Rattle.queued.specs.Queued.{Parts, parts_of}
use Rattle.queued.specs.Sound.{full_of}
use Rattle.queued.proofs.Meant.{cut_in, cut_keeps}
use Rattle.queued.proofs.QueuedMemory.cut.Goals as goal

pub returns-in-Some-clause-did : goal.returns-in-Some-clause-did
returns-in-Some-clause-did c =
    let s : Parts = record { bytes = c.cut_down.new.bytes; choice = c.args.self.now.choice; queue = []; power = off } in
    cut_in (parts_of c.args.self.now) (full_of c.args.self.now) s (search rules)

pub returns-in-Some-clause-lent : goal.returns-in-Some-clause-lent
returns-in-Some-clause-lent c =
    let s : Parts = record { bytes = c.cut_down.new.bytes; choice = c.args.self.now.choice; queue = []; power = off } in
    record { lender = search rules; rest = cut_keeps (parts_of c.args.self.now) (full_of c.args.self.now) s (search rules) }
