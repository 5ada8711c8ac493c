use Rattle.layout.proofs.Apart.{lines_apart}
use Rattle.layout.proofs.places.RecordId.entry_line.Goals as goal

pub returns-clause-apart : goal.returns-clause-apart
returns-clause-apart c = lines_apart c.args.sizes.now c.args.self.bucket c.args.self.slot c.args.entry
