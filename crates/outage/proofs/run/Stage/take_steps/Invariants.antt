use Rattle.std.proofs.Common.{◌≡◌, ℕ, take}
use Rattle.memory.specs.Meaning.{content_at, Durable}
use Rattle.outage.specs.declared.story.Kind.{Kind}
use Rattle.outage.specs.declared.history.Durability.TheVariants as durability
use Rattle.outage.specs.Content.{old_content}
use Rattle.outage.specs.History.{asked_by, durability_by}
use Rattle.outage.specs.Run.{content_for, Honest}
use Rattle.outage.proofs.run.Stage.take_steps.Given as goal

-- the steps so far: a line holds what they asked, and is durable if they say so
abbrev pub invariant-loop-i : goal.invariant-loop-i
invariant-loop-i g l =
    ((j : ℕ) → content_at (g.M.Memory.meaning l.initial.self.memory) j ≡ old_content j → content_at (g.M.Memory.meaning l.self.memory) j ≡ content_for (asked_by (take l.i l.steps) j) j)
    × ((k : Kind) → Honest g.M.Memory.meaning k → (j : ℕ) → Durable (g.M.Memory.meaning l.initial.self.memory) j → durability_by k (take l.i l.steps) j ≡ durability.Durable → Durable (g.M.Memory.meaning l.self.memory) j)
