-- The numbers of the story.
use Rattle.std.specs.Prelude.{ℕ, ◌+◌, ◌*◌}
use Rattle.outage.specs.declared.story.Part.{Part}
use Rattle.outage.specs.declared.story.Part.TheVariants.{PowerGoesAtWrite, PowerGoesAtFence}
use Rattle.outage.specs.declared.story.Choice.{Choice}
use Rattle.outage.specs.declared.story.Choice.TheVariants.{AllOld, AllNew, InTurn, AllOther}

-- how many operations complete before power goes
abbrev pub operations_in : Part → ℕ
operations_in PowerGoesAtWrite = 5
operations_in PowerGoesAtFence = 6

-- two bits for each queued line, those of the oldest lowest: 0 old, 1 new, 2 torn, 3 other
abbrev pub choice_bits : Choice → ℕ
choice_bits AllOld = 0
choice_bits AllNew = 0x5555_5555
choice_bits InTurn = 0 + 4 * (1 + 4 * (2 + 4 * 3))
choice_bits AllOther = 0xffff_ffff
