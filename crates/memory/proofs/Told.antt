-- What an accepting answer tells: the line was there, and what it was or became.
use Rattle.std.proofs.Common.{◌≡◌, ℕ, ◌<◌, Bool, true, false, length, Ok, refl, ⊎_elim, arith}
use Rattle.std.proofs.lemmas.Bool.{cases_lt}
use Rattle.memory.specs.Meaning.{Line, Meaning, content_at, Wrote, Reads, Writes}

-- a write that completes is of a line that is there
module _ (m m' : Meaning) (l : ℕ) (c : Line) (w : Writes m l c (Ok tt) m') where
  wrote_here : l < length m.lines → (b : Bool) → m.on ≡ b → (l < length m.lines) × Wrote m l c m'
  wrote_here h true e =
      ⊎_elim (λ z. (h, (w.done h e z).1)) (λ z. let dead = (w.lost h e (omega arith)).0 in absurd (grind arith)) (cases_lt 0 m.left)
  wrote_here h false e = let dead = (w.dark h e).0 in absurd (grind arith)

  pub wrote : (l < length m.lines) × Wrote m l c m'
  wrote = ⊎_elim (λ h. wrote_here h m.on refl) (λ z. let dead = (w.missing z).0 in absurd (grind arith)) (cases_lt l (length m.lines))

-- a read that completes gives the content
module _ (m : Meaning) (l : ℕ) (x : Line) (w : Reads m l (Ok x)) where
  read_here : l < length m.lines → (b : Bool) → m.on ≡ b → x ≡ content_at m l
  read_here h true e = let is = w.done h e in grind arith
  read_here h false e = let dead = w.dark h e in absurd (grind arith)

  pub was_read : x ≡ content_at m l
  was_read = ⊎_elim (λ h. read_here h m.on refl) (λ z. let dead = w.missing z in absurd (grind arith)) (cases_lt l (length m.lines))
