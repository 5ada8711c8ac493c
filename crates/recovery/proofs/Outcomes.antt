-- How a write or a fence comes out: it completed, power went at it, or nothing was done.
use Rattle.std.proofs.Common.{◌≡◌, ℕ, ◌<◌, ◌≤◌, Bool, true, false, ◌⊎◌, length, Ok, Err, Result, refl, inl, inr, arith}
use Rattle.std.proofs.lemmas.Bool.{cases_lt}
use Rattle.memory.specs.Meaning.{Meaning, Line, Cut, loosened, Wrote, Fenced, Writes, Fences}
use Rattle.memory.specs.declared.fault.MemoryFault.{MemoryFault}

pub data Outcome (m : Meaning) (q : Result Unit MemoryFault) (m' : Meaning) (Done Lost : Type 0) : Type 0 where
  done : q ≡ Ok tt → Done → Outcome m q m' Done Lost
  lost : (x : MemoryFault) → q ≡ Err x → Lost → Outcome m q m' Done Lost
  idle : (x : MemoryFault) → q ≡ Err x → m' ≡ m → Outcome m q m' Done Lost

abbrev pub OutcomeOfWrite : Meaning → ℕ → Line → Result Unit MemoryFault → Meaning → Type 0
OutcomeOfWrite m l c q m' = Outcome m q m' ((l < length m.lines) × Wrote m l c m') (Cut (loosened m l) m')

pub write_outcome : (m : Meaning) (l : ℕ) (c : Line) (q : Result Unit MemoryFault) (m' : Meaning) → Writes m l c q m' → OutcomeOfWrite m l c q m'
write_outcome m l c q m' w = go (cases_lt l (length m.lines)) m.on refl (cases_lt 0 m.left)
  where
    go : (l < length m.lines) ⊎ (length m.lines ≤ l) → (b : Bool) → m.on ≡ b → (0 < m.left) ⊎ (m.left ≤ 0) → OutcomeOfWrite m l c q m'
    go (inl h) true on (inl some) = let x = w.done h on some in done x.0 (h, x.1)
    go (inl h) true on (inr none) = let x = w.lost h on (omega arith) in lost _ x.0 x.1
    go (inl h) false off left = let x = w.dark h off in idle _ x.0 x.1
    go (inr h) b is left = let x = w.missing h in idle _ x.0 x.1

abbrev pub OutcomeOfFence : Meaning → Result Unit MemoryFault → Meaning → Type 0
OutcomeOfFence m q m' = Outcome m q m' (Fenced m m') (Cut m m')

pub fence_outcome : (m : Meaning) (q : Result Unit MemoryFault) (m' : Meaning) → Fences m q m' → OutcomeOfFence m q m'
fence_outcome m q m' f = go m.on refl (cases_lt 0 m.left)
  where
    go : (b : Bool) → m.on ≡ b → (0 < m.left) ⊎ (m.left ≤ 0) → OutcomeOfFence m q m'
    go true on (inl some) = let x = f.done on some in done x.0 x.1
    go true on (inr none) = let x = f.lost on (omega arith) in lost _ x.0 x.1
    go false off left = let x = f.dark off in idle _ x.0 x.1
