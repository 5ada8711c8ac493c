-- The check and the undoing put together.
use Rattle.std.proofs.Common.{◌≡◌, ℕ, true, false, Ok, subst, ⊎_elim}
use Rattle.std.proofs.lemmas.Bool.{cases_Bool}
use Rattle.memory.specs.Meaning.{content_at}
use Rattle.undo_log.specs.Closing.{Notes, State, state_of, blank_notes}
use Rattle.undo_log.specs.Steps.{World, Ran}
use Rattle.recovery.specs.Check.{ready, Checks}
use Rattle.recovery.specs.Undo.{undoing_in}
use Rattle.recovery.specs.Undone.{logged_in, Restored}
use Rattle.recovery.proofs.Records.{ready_on}
use Rattle.recovery.proofs.Undone.{restores}

-- a check that passes has found the memory ready
pub passed_ready : (s : State) (m : ℕ × ℕ) → Checks s (Ok m) → ready s ≡ true
passed_ready s m c =
    ⊎_elim (λ (t : ready s ≡ true). t)
    (λ (t : ready s ≡ false). cc (c.unready t))
    (cases_Bool (ready s))

-- the steps begin in a log t with the world of the check, and no record open
pub restored : (s t : State) (m : ℕ × ℕ) (w : World) → Checks s (Ok m) → t.notes ≡ blank_notes s.notes.sizes → t.world ≡ s.world → Ran (undoing_in t) t.world (Ok tt) w
    → Restored (logged_in s) s.world.memory w.memory
restored s t m w c n e r =
    let r = subst (λ (n : Notes). Ran (undoing_in (state_of n t.world)) t.world (Ok tt) w) n r in
    let r = subst (λ (v : World). Ran (undoing_in (state_of (blank_notes s.notes.sizes) v)) v (Ok tt) w) e r in
    restores s.notes.sizes (content_at s.world.memory) s.world.block s.world w (ready_on s (passed_ready s m c)) r
