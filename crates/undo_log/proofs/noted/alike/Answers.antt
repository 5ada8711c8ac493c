use Rattle.std.proofs.Common.{rules}
use Rattle.std.proofs.lemmas.List.{take-replicate}
use Rattle.undo_log.proofs.noted.alike.Goals as goal

pub returns : goal.returns
returns g c = let e = take-replicate c.args.cores 32 c.args.value c.requires in search (rules, e)
