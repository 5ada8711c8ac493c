use Rattle.std.proofs.Common.{◌≡◌, ℕ, ◌<◌, length, get_or}
use Rattle.memory.specs.Meaning.{content_at}
use Rattle.outage.specs.declared.content.Stands.TheVariants.{Other}
use Rattle.outage.specs.Content.{called}
use Rattle.outage.proofs.run.Stage.read_lines.Given as goal

-- the lines so far are named
abbrev pub invariant-loop-line : goal.invariant-loop-line
invariant-loop-line g l =
    (length l.place-items ≡ 6)
    × ((j : ℕ) → j < l.line → get_or l.place-items j Other ≡ called j (content_at (g.M.Memory.meaning l.self.memory) j))
