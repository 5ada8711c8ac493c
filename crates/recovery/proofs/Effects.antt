-- What steps come to: the lines and the block after steps that complete, and where power goes the part that completed.
use Rattle.std.proofs.Common.{◌≡◌, ℕ, true, List, [], ◌∷◌, ◌++◌, set, Ok, Err, Result, sym, refl, ap, ◌∙◌, subst, arith}
use Rattle.memory.specs.Meaning.{Meaning, Line}
use Rattle.layout.specs.declared.block.BlockEntry.{BlockEntry}
use Rattle.undo_log.specs.declared.fault.LogFault.{LogFault}
use Rattle.undo_log.specs.Steps.{World, Step, write, fence, enter, Does, Then, Ran}
use Rattle.recovery.proofs.Leads.{wrote, fenced}

-- the lines after steps that complete
unfoldable pub lines_after : List Step → List Line → List Line
lines_after [] ls = ls
lines_after (write l c p ∷ ss) ls = lines_after ss (set ls l c)
lines_after (fence p ∷ ss) ls = lines_after ss ls
lines_after (enter k e ∷ ss) ls = lines_after ss ls

-- the block after steps that complete
unfoldable pub block_after : List Step → List BlockEntry → List BlockEntry
block_after [] b = b
block_after (write l c p ∷ ss) b = block_after ss b
block_after (fence p ∷ ss) b = block_after ss b
block_after (enter k e ∷ ss) b = block_after ss (set b k e)

-- one part after another
pub lines_then : (xs ys : List Step) (ls : List Line) → lines_after (xs ++ ys) ls ≡ lines_after ys (lines_after xs ls)
unfolding lines_after
lines_then [] ys ls = refl
lines_then (write l c p ∷ xs) ys ls = lines_then xs ys (set ls l c)
lines_then (fence p ∷ xs) ys ls = lines_then xs ys ls
lines_then (enter k e ∷ xs) ys ls = lines_then xs ys ls

pub block_then : (xs ys : List Step) (b : List BlockEntry) → block_after (xs ++ ys) b ≡ block_after ys (block_after xs b)
unfolding block_after
block_then [] ys b = refl
block_then (write l c p ∷ xs) ys b = block_then xs ys b
block_then (fence p ∷ xs) ys b = block_then xs ys b
block_then (enter k e ∷ xs) ys b = block_then xs ys (set b k e)

-- v is what steps that complete make of w, and power is on
pub record Done (ss : List Step) (w v : World) : Type 0 where
  pub lines : v.memory.lines ≡ lines_after ss w.memory.lines
  pub block : v.block ≡ block_after ss w.block
  pub on : v.memory.on ≡ true

step_done : (s : Step) (w v : World) → Does s w (Ok tt) v → w.memory.on ≡ true → Done (s ∷ []) w v
unfolding lines_after block_after
step_done (write l c p) w v d on =
    let x = wrote w.memory v.memory l c p d.0 d.1.0 d.1.1.0 in
    record { lines = x.content; block = d.1.1.1; on = x.on }
step_done (fence p) w v d on =
    let x = fenced w.memory v.memory p d.0 d.1.0 d.1.1.0 in
    record { lines = x.content; block = d.1.1.1; on = x.on }
step_done (enter k e) w v d on =
    record { lines = ap (λ (m : Meaning). m.lines) d.1.0; block = d.1.1; on = ap (λ (m : Meaning). m.on) d.1.0 ∙ on }

done_then : (s : Step) (ss : List Step) (w v u : World) → Done (s ∷ []) w v → Done ss v u → Done (s ∷ ss) w u
done_then s ss w v u a b =
    record {
      lines = b.lines ∙ ap (lines_after ss) a.lines ∙ sym (lines_then (s ∷ []) ss w.memory.lines);
      block = b.block ∙ ap (block_after ss) a.block ∙ sym (block_then (s ∷ []) ss w.block);
      on = b.on;
    }

-- steps that complete leave lines and block as computed
pub ran_done : (ss : List Step) (w v : World) → Ran ss w (Ok tt) v → w.memory.on ≡ true → Done ss w v
unfolding lines_after block_after
ran_done [] w v r on =
    record { lines = ap (λ (x : World). x.memory.lines) r.1; block = ap (λ (x : World). x.block) r.1; on = ap (λ (x : World). x.memory.on) r.1 ∙ on }
ran_done (s ∷ ss) w v r on = go r.0 r.1.1.0 r.1.1.1 (λ t a. ran_done ss r.1.0 v t a)
  where
    go : (q : Result Unit LogFault) → Does s w q r.1.0 → Then q (Ran ss) r.1.0 (Ok tt) v
        → (Ran ss r.1.0 (Ok tt) v → r.1.0.memory.on ≡ true → Done ss r.1.0 v) → Done (s ∷ ss) w v
    go (Ok x) d t ih = let a = step_done s w r.1.0 d on in done_then s ss w r.1.0 v a (ih t a.on)
    go (Err e) d t ih = absurd (let z : ◌≡◌ {A = ℕ} 0 1 = cc t.0 in omega arith)

-- where power went: a first part completed, and at the next step power went
pub record Lost (ss : List Step) (w : World) (e : LogFault) (v : World) : Type 0 where
  pub done : List Step
  pub last : Step
  pub left : List Step
  pub between : World
  pub all : ss ≡ done ++ (last ∷ left)
  pub ran : Ran done w (Ok tt) between
  pub lost : Does last between (Err e) v

pub ran_lost : (ss : List Step) (w v : World) (e : LogFault) → Ran ss w (Err e) v → Lost ss w e v
ran_lost [] w v e r = absurd (let z : ◌≡◌ {A = ℕ} 0 1 = cc r.0 in omega arith)
ran_lost (s ∷ ss) w v e r = go r.0 r.1.1.0 r.1.1.1 (λ t. ran_lost ss r.1.0 v e t)
  where
    go : (q : Result Unit LogFault) → Does s w q r.1.0 → Then q (Ran ss) r.1.0 (Err e) v → (Ran ss r.1.0 (Err e) v → Lost ss r.1.0 e v) → Lost (s ∷ ss) w e v
    go (Ok x) d t ih =
        let c = ih t in
        record {
          done = s ∷ c.done;
          last = c.last;
          left = c.left;
          between = c.between;
          all = ap (λ (xs : List Step). s ∷ xs) c.all;
          ran = (Ok tt, (r.1.0, (d, c.ran)));
          lost = c.lost;
        }
    go (Err f) d t ih =
        let q : f ≡ e = cc t.0 in
        let y = subst (λ (f : LogFault). Does s w (Err f) r.1.0) q d in
        record {
          done = [];
          last = s;
          left = ss;
          between = w;
          all = refl;
          ran = (refl, refl);
          lost = subst (λ (x : World). Does s w (Err e) x) (sym t.1) y;
        }
