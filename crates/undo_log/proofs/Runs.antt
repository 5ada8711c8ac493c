-- Steps carried out one part after another.
use Rattle.std.proofs.Common.{◌≡◌, ℕ, List, [], ◌∷◌, ◌++◌, Ok, Err, Result, subst, arith}
use Rattle.undo_log.specs.declared.fault.LogFault.{LogFault}
use Rattle.undo_log.specs.Steps.{World, Step, Then, Ran}

-- the first part completes, and the second goes on
pub ran_then : (xs ys : List Step) (w v u : World) (r : Result Unit LogFault) → Ran xs w (Ok tt) v → Ran ys v r u → Ran (xs ++ ys) w r u
ran_then [] ys w v u r a b = rw a.1 at b
ran_then (s ∷ xs) ys w v u r a b = (a.0, (a.1.0, (a.1.1.0, go a.0 a.1.1.1 (λ h. ran_then xs ys a.1.0 v u r h b))))
  where
    go : (q : Result Unit LogFault) → Then q (Ran xs) a.1.0 (Ok tt) v → (Ran xs a.1.0 (Ok tt) v → Ran (xs ++ ys) a.1.0 r u) → Then q (Ran (xs ++ ys)) a.1.0 r u
    go (Ok x) t f = f t
    go (Err e) t f = absurd (let z : ◌≡◌ {A = ℕ} 0 1 = cc t.0 in omega arith)

-- the first part stops, and the second is not begun
pub ran_stops : (xs ys : List Step) (w u : World) (e : LogFault) → Ran xs w (Err e) u → Ran (xs ++ ys) w (Err e) u
ran_stops [] ys w u e a = absurd (let z : ◌≡◌ {A = ℕ} 0 1 = cc a.0 in omega arith)
ran_stops (s ∷ xs) ys w u e a = (a.0, (a.1.0, (a.1.1.0, go a.0 a.1.1.1 (λ h. ran_stops xs ys a.1.0 u e h))))
  where
    go : (q : Result Unit LogFault) → Then q (Ran xs) a.1.0 (Err e) u → (Ran xs a.1.0 (Err e) u → Ran (xs ++ ys) a.1.0 (Err e) u) → Then q (Ran (xs ++ ys)) a.1.0 (Err e) u
    go (Ok x) t f = f t
    go (Err d) t f = t

pub ran_same : (xs ys : List Step) (w : World) (r : Result Unit LogFault) (w' : World) → xs ≡ ys → Ran xs w r w' → Ran ys w r w'
ran_same xs ys w r w' e h = subst (λ (zs : List Step). Ran zs w r w') e h
