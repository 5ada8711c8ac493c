-- What holds of every log.
use Rattle.std.proofs.Common.{◌≡◌, ℕ, true, length, ap}
use Rattle.memory.specs.declared.Memory.{Ghosts}
use Rattle.undo_log.specs.declared.state.Log.{Log}
use Rattle.undo_log.specs.Calls.{world, notes_of}
use Rattle.undo_log.specs.Closing.{Notes, State, open_at}
use Rattle.undo_log.specs.Open.{open_fits}
use Rattle.undo_log.specs.Steps.{World}
use Rattle.layout.specs.Sizes.{Bounded}

-- its sizes are bounded, block and notes have a place for each core, and open records have room
pub record Sized (n : Notes) (w : World) : Type 0 where
  pub bounded : Bounded n.sizes
  pub block : length w.block ≡ n.sizes.cores
  pub opens : (k : ℕ) → open_fits (open_at n k) ≡ true
  pub opens_long : length n.opens ≡ n.sizes.cores
  pub befores_long : length n.befores ≡ n.sizes.cores

pub log_sized : {X : Type 0} {G : Ghosts X} (l : Log X G) → Sized (notes_of l) (world l)
log_sized l = record { bounded = l.bounded; block = l.entries; opens = l.fits; opens_long = l.opens; befores_long = l.befores }

-- the parts of states that are the same
pub same_notes : {s s' : State} → s ≡ s' → s.notes ≡ s'.notes
same_notes e = ap (λ (s : State). s.notes) e

pub same_world : {s s' : State} → s ≡ s' → s.world ≡ s'.world
same_world e = ap (λ (s : State). s.world) e
