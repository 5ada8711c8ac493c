use Rattle.std.proofs.Common.{◌≡◌, drop}
use Rattle.layout.specs.Block.{all_sound}
use Rattle.layout.proofs.block.all_sound.Given as goal

abbrev pub invariant-loop-held : goal.invariant-loop-held
invariant-loop-held l = all_sound l.sizes l.taken (drop l.held-index l.entries) ≡ all_sound l.sizes 0 l.entries
