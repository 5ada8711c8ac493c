-- Steps that are carried out in a loop, by what is left of them; and what a single step leaves.
use Rattle.std.proofs.Common.{◌≡◌, ℕ, List, [], ◌∷◌, ◌++◌, Ok, Err, Result, refl, ap, ◌∙◌, subst}
use Rattle.memory.specs.Meaning.{Meaning, Line, Writes, Wrote, Fences, Fenced}
use Rattle.memory.specs.declared.fault.MemoryFault.{MemoryFault}
use Rattle.undo_log.specs.declared.fault.Place.{Place}
use Rattle.undo_log.specs.declared.fault.LogFault.{LogFault}
use Rattle.undo_log.specs.Steps.{World, Step, placed, Does, Ran}
use Rattle.undo_log.proofs.Runs.{ran_then, ran_stops}
use Rattle.recovery.proofs.Outcomes.{done, lost, idle, OutcomeOfWrite, OutcomeOfFence, write_outcome, fence_outcome}

-- what is left of the steps leads from v to where all lead from w
abbrev pub Leads : List Step → World → List Step → World → Type 0
Leads all w left v = (r : Result Unit LogFault) (w' : World) → Ran left v r w' → Ran all w r w'

pub leads_none : (all : List Step) (w : World) → Leads all w all w
leads_none all w r w' x = x

pub leads_more : (all left : List Step) (s : Step) (w v u : World) → Does s v (Ok tt) u → Leads all w (s ∷ left) v → Leads all w left u
leads_more all left s w v u d inv r w' x = inv r w' (Ok tt, (u, (d, x)))

pub leads_stop : (all left : List Step) (s : Step) (w v u : World) (e : LogFault) → Does s v (Err e) u → Leads all w (s ∷ left) v → Ran all w (Err e) u
leads_stop all left s w v u e d inv = inv (Err e) u (Err e, (u, (d, (refl, refl))))

pub leads_end : (all : List Step) (w v : World) → Leads all w [] v → Ran all w (Ok tt) v
leads_end all w v inv = inv (Ok tt) v (refl, refl)

pub leads_on : (all part left : List Step) (w v u : World) → Ran part v (Ok tt) u → Leads all w (part ++ left) v → Leads all w left u
leads_on all part left w v u d inv r w' x = inv r w' (ran_then part left v u w' r d x)

pub leads_off : (all part left : List Step) (w v u : World) (e : LogFault) → Ran part v (Err e) u → Leads all w (part ++ left) v → Ran all w (Err e) u
leads_off all part left w v u e d inv = inv (Err e) u (ran_stops part left v u e d)

pub leads_same : (all left left' : List Step) (w v : World) → left ≡ left' → Leads all w left v → Leads all w left' v
leads_same all left left' w v e inv = subst (λ (ss : List Step). Leads all w ss v) e inv

-- a step that completes

pub wrote : (m n : Meaning) (l : ℕ) (c : Line) (p : Place) (q : Result Unit MemoryFault) → Writes m l c q n → Ok tt ≡ placed p q → Wrote m l c n
wrote m n l c p q w e = go (write_outcome m l c q n w)
  where
    go : OutcomeOfWrite m l c q n → Wrote m l c n
    go (done _ x) = x.1
    go (lost f is _) = cc (e ∙ ap (placed p) is)
    go (idle f is _) = cc (e ∙ ap (placed p) is)

pub fenced : (m n : Meaning) (p : Place) (q : Result Unit MemoryFault) → Fences m q n → Ok tt ≡ placed p q → Fenced m n
fenced m n p q w e = go (fence_outcome m q n w)
  where
    go : OutcomeOfFence m q n → Fenced m n
    go (done _ x) = x
    go (lost f is _) = cc (e ∙ ap (placed p) is)
    go (idle f is _) = cc (e ∙ ap (placed p) is)
