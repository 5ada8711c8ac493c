-- What the steps of a closing leave: the record is counted and all is durable, or power went and it is not counted.
use Rattle.std.proofs.Common.{◌≡◌, ℕ, ◌<◌, ◌⊎◌, List, [], ◌∷◌, length, set, Ok, Err, Result, sym, ap, ◌∙◌, subst, inl, inr, ⊎_elim}
use Rattle.memory.specs.declared.fault.MemoryFault.{MemoryFault}
use Rattle.memory.specs.Meaning.{Line, Wrote, Fenced}
use Rattle.layout.specs.declared.block.BlockEntry.{BlockEntry}
use Rattle.undo_log.specs.declared.fault.LogFault.{LogFault}
use Rattle.undo_log.specs.declared.fault.LogFault.TheVariants.{Memory}
use Rattle.undo_log.specs.declared.fault.Place.{Place}
use Rattle.undo_log.specs.Steps.{World, Step, write, fence, enter, placed, Then, Ran}
use Rattle.recovery.proofs.Outcomes.{done, lost, idle, OutcomeOfWrite, OutcomeOfFence, write_outcome, fence_outcome}
use Rattle.survival.proofs.Spared.{Spared, Written, then_spared, writes_spared, fences_spared, fenced_written}

-- the call ended with a fault, the block is as it was, and only line l may have suffered
pub record Stopped (w : World) (l : ℕ) (r : Result Unit LogFault) (w' : World) : Type 0 where
  pub fault : LogFault
  pub answer : r ≡ Err fault
  pub block : w'.block ≡ w.block
  pub spared : (j : ℕ) → (j ≡ l → ⊥) → Spared w.memory w'.memory j

-- the memory's answer a to a first step at place p decides whether the steps ss follow it

module _ (p : Place) (a : Result Unit MemoryFault) (ss : List Step) (v : World) (r : Result Unit LogFault) (w' : World) (q : Result Unit LogFault) (is : q ≡ placed p a) (after : Then q (Ran ss) v r w') where
  goes_on : a ≡ Ok tt → Ran ss v r w'
  goes_on e = subst (λ (q : Result Unit LogFault). Then q (Ran ss) v r w') (is ∙ ap (placed p) e) after

  stops : (w : World) (l : ℕ) (x : MemoryFault) → a ≡ Err x → v.block ≡ w.block → ((j : ℕ) → (j ≡ l → ⊥) → Spared w.memory v.memory j) → Stopped w l r w'
  stops w l x e block spare =
      let t : (r ≡ Err (Memory p x)) × (w' ≡ v) = subst (λ (q : Result Unit LogFault). Then q (Ran ss) v r w') (is ∙ ap (placed p) e) after in
      subst (λ (u : World). Stopped w l r u) (sym t.1) (record { fault = Memory p x; answer = t.0; block = block; spared = spare })

-- a write that completed, and the rest of the steps
pub record Wrote-on (ss : List Step) (w : World) (l : ℕ) (c : Line) (r : Result Unit LogFault) (w' : World) : Type 0 where
  pub mid : World
  pub inside : l < length w.memory.lines
  pub wrote : Wrote w.memory l c mid.memory
  pub spared : (j : ℕ) → (j ≡ l → ⊥) → Spared w.memory mid.memory j
  pub block : mid.block ≡ w.block
  pub rest : Ran ss mid r w'

pub write_ran : (l : ℕ) (c : Line) (p : Place) (ss : List Step) (w : World) (r : Result Unit LogFault) (w' : World)
    → Ran (write l c p ∷ ss) w r w' → Stopped w l r w' ⊎ Wrote-on ss w l c r w'
write_ran l c p ss w r w' (q, (v, ((a, (did, (is, block))), after))) = go (write_outcome w.memory l c a v.memory did)
  where
    spare : (j : ℕ) → (j ≡ l → ⊥) → Spared w.memory v.memory j
    spare j ne = writes_spared w.memory l c a v.memory j ne did

    go : OutcomeOfWrite w.memory l c a v.memory → Stopped w l r w' ⊎ Wrote-on ss w l c r w'
    go (done e x) =
        inr (record { mid = v; inside = x.0; wrote = x.1; spared = spare; block = block; rest = goes_on p a ss v r w' q is after e })
    go (lost x e _) = inl (stops p a ss v r w' q is after w l x e block spare)
    go (idle x e _) = inl (stops p a ss v r w' q is after w l x e block spare)

-- a fence that completed, and the rest of the steps
record Fenced-on (ss : List Step) (w : World) (r : Result Unit LogFault) (w' : World) : Type 0 where
  pub mid : World
  pub fenced : Fenced w.memory mid.memory
  pub block : mid.block ≡ w.block
  pub rest : Ran ss mid r w'

fence_ran : (p : Place) (ss : List Step) (w : World) (l : ℕ) (r : Result Unit LogFault) (w' : World)
    → Ran (fence p ∷ ss) w r w' → Stopped w l r w' ⊎ Fenced-on ss w r w'
fence_ran p ss w l r w' (q, (v, ((a, (did, (is, block))), after))) = go (fence_outcome w.memory a v.memory did)
  where
    spare : (j : ℕ) → (j ≡ l → ⊥) → Spared w.memory v.memory j
    spare j _ = fences_spared w.memory a v.memory j did

    go : OutcomeOfFence w.memory a v.memory → Stopped w l r w' ⊎ Fenced-on ss w r w'
    go (done e x) = inr (record { mid = v; fenced = x; block = block; rest = goes_on p a ss v r w' q is after e })
    go (lost x e _) = inl (stops p a ss v r w' q is after w l x e block spare)
    go (idle x e _) = inl (stops p a ss v r w' q is after w l x e block spare)

-- the steps completed: c is in line l, all is durable, and the entry is entered
pub record Entered (w : World) (l : ℕ) (c : Line) (k : ℕ) (e : BlockEntry) (r : Result Unit LogFault) (w' : World) : Type 0 where
  pub answer : r ≡ Ok tt
  pub block : w'.block ≡ set w.block k e
  pub written : Written w.memory l c w'.memory

enter_ran : (k : ℕ) (e : BlockEntry) (w : World) (r : Result Unit LogFault) (w' : World) → Ran (enter k e ∷ []) w r w'
    → (r ≡ Ok tt) × ((w'.memory ≡ w.memory) × (w'.block ≡ set w.block k e))
enter_ran k e w r w' (q, (v, ((is, (memory, block)), after))) =
    let t : (r ≡ Ok tt) × (w' ≡ v) = subst (λ (q : Result Unit LogFault). Then q (Ran []) v r w') is after in
    (t.0, subst (λ (u : World). (u.memory ≡ w.memory) × (u.block ≡ set w.block k e)) (sym t.1) (memory, block))

pub closing_ran : (l : ℕ) (c : Line) (p p' : Place) (k : ℕ) (e : BlockEntry) (w : World) (r : Result Unit LogFault) (w' : World)
    → Ran (write l c p ∷ fence p' ∷ enter k e ∷ []) w r w' → Stopped w l r w' ⊎ Entered w l c k e r w'
closing_ran l c p p' k e w r w' ran = ⊎_elim inl wrote (write_ran l c p (fence p' ∷ enter k e ∷ []) w r w' ran)
  where
    both : (x : Wrote-on (fence p' ∷ enter k e ∷ []) w l c r w') → Stopped x.mid l r w' → Stopped w l r w'
    both x y =
        record {
          fault = y.fault;
          answer = y.answer;
          block = y.block ∙ x.block;
          spared = λ j ne. then_spared w.memory x.mid.memory w'.memory j (x.spared j ne) (y.spared j ne);
        }

    entered : (x : Wrote-on (fence p' ∷ enter k e ∷ []) w l c r w') → Fenced-on (enter k e ∷ []) x.mid r w' → Entered w l c k e r w'
    entered x y =
        let (answer, (memory, block)) = enter_ran k e y.mid r w' y.rest in
        record {
          answer = answer;
          block = block ∙ ap (λ (es : List BlockEntry). set es k e) (y.block ∙ x.block);
          written = subst (Written w.memory l c) (sym memory) (fenced_written w.memory l c x.mid.memory y.mid.memory x.inside x.wrote y.fenced);
        }

    wrote : Wrote-on (fence p' ∷ enter k e ∷ []) w l c r w' → Stopped w l r w' ⊎ Entered w l c k e r w'
    wrote x = ⊎_elim (λ (y : Stopped x.mid l r w'). inl (both x y)) (λ (y : Fenced-on (enter k e ∷ []) x.mid r w'). inr (entered x y))
        (fence_ran p' (enter k e ∷ []) x.mid l r w' x.rest)
