use Rattle.std.proofs.Common.{◌≡◌, ℕ, ◌+◌, ◌<◌, true}
use Rattle.memory.specs.Meaning.{content_at}
use Rattle.outage.specs.Content.{old_content}
use Rattle.outage.proofs.run.Stage.settle.Given as goal

-- the lines so far are old, and the operations last
abbrev pub invariant-loop-line : goal.invariant-loop-line
invariant-loop-line g l =
    ((j : ℕ) → j < l.line → content_at (g.M.Memory.meaning l.self.memory) j ≡ old_content j)
    × ((g.M.Memory.meaning l.self.memory).on ≡ true)
    × ((g.M.Memory.meaning l.self.memory).left + l.line ≡ 4294967295)
