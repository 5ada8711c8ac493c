-- A durable line that no step writes keeps its content and stays durable, whatever becomes of the power.
use Rattle.std.proofs.Common.{◌≡◌, ℕ, ◌<◌, true, false, List, [], length, get_or, Result, sym, refl, ap, ◌∙◌, subst, ⊎_elim}
use Rattle.std.proofs.lemmas.List.{get_or-set_same, get_or-set_other}
use Rattle.std.proofs.lemmas.Bool.{cases_Bool}
use Rattle.memory.specs.declared.fault.MemoryFault.{MemoryFault}
use Rattle.recovery.proofs.Outcomes.{done, lost, idle, OutcomeOfWrite, OutcomeOfFence, write_outcome, fence_outcome}
use Rattle.memory.specs.Meaning.{Meaning, Line, Durable, content_at, loosened, Cut, Wrote, Fenced, Writes, Fences, Cuts}

abbrev pub Spared : Meaning → Meaning → ℕ → Type 0
Spared m m' l = Durable m l → (content_at m' l ≡ content_at m l) × Durable m' l

-- every line is, as at a cut or where nothing happens
abbrev pub AllSpared : Meaning → Meaning → Type 0
AllSpared m m' = (l : ℕ) → Spared m m' l

pub same_spared : (m m' : Meaning) (l : ℕ) → m' ≡ m → Spared m m' l
same_spared m m' l e d = subst (λ (x : Meaning). (content_at x l ≡ content_at m l) × Durable x l) (sym e) (refl, d)

pub then_spared : (m n m' : Meaning) (l : ℕ) → Spared m n l → Spared n m' l → Spared m m' l
then_spared m n m' l a b d = let x = a d in let y = b x.1 in (y.0 ∙ x.0, y.1)

cut_spared : (m m' : Meaning) (l : ℕ) → Cut m m' → Spared m m' l
cut_spared m m' l c d = (c.kept l d, c.safe l)

pub cuts_spared : (m m' : Meaning) → Cuts m m' → AllSpared m m'
cuts_spared m m' c l =
    ⊎_elim (λ (q : m.on ≡ true). cut_spared m m' l (c.done q)) (λ (q : m.on ≡ false). same_spared m m' l (c.dark q)) (cases_Bool m.on)

wrote_spared : (m : Meaning) (l : ℕ) (c : Line) (m' : Meaning) (j : ℕ) → (j ≡ l → ⊥) → Wrote m l c m' → Spared m m' j
wrote_spared m l c m' j ne w d = (ap (λ (ls : List Line). get_or ls j []) w.content ∙ get_or-set_other m.lines l j c [] ne, w.kept j ne d)

-- power went at the write
loosened_spared : (m : Meaning) (l : ℕ) (m' : Meaning) (j : ℕ) → (j ≡ l → ⊥) → Cut (loosened m l) m' → Spared m m' j
loosened_spared m l m' j ne c d = (c.kept j (get_or-set_other m.durable l j false true ne ∙ d), c.safe j)

pub writes_spared : (m : Meaning) (l : ℕ) (c : Line) (q : Result Unit MemoryFault) (m' : Meaning) (j : ℕ) → (j ≡ l → ⊥) → Writes m l c q m' → Spared m m' j
writes_spared m l c q m' j ne w = go (write_outcome m l c q m' w)
  where
    go : OutcomeOfWrite m l c q m' → Spared m m' j
    go (done _ x) = wrote_spared m l c m' j ne x.1
    go (lost _ _ x) = loosened_spared m l m' j ne x
    go (idle _ _ x) = same_spared m m' j x

pub fences_spared : (m : Meaning) (q : Result Unit MemoryFault) (m' : Meaning) (j : ℕ) → Fences m q m' → Spared m m' j
fences_spared m q m' j f = go (fence_outcome m q m' f)
  where
    go : OutcomeOfFence m q m' → Spared m m' j
    go (done _ x) d = (ap (λ (ls : List Line). get_or ls j []) x.content, x.safe j)
    go (lost _ _ x) d = cut_spared m m' j x d
    go (idle _ _ x) d = same_spared m m' j x d

-- ---- a completed write, and a fence after it

-- line l holds c, every other line what it held, and all are durable
pub record Written (m : Meaning) (l : ℕ) (c : Line) (m' : Meaning) : Type 0 where
  pub at : content_at m' l ≡ c
  pub others : (j : ℕ) → (j ≡ l → ⊥) → content_at m' j ≡ content_at m j
  pub safe : (j : ℕ) → Durable m' j

pub fenced_written : (m : Meaning) (l : ℕ) (c : Line) (n m' : Meaning) → l < length m.lines → Wrote m l c n → Fenced n m' → Written m l c m'
fenced_written m l c n m' h w f =
    let content = f.content ∙ w.content in
    record {
      at = ap (λ (ls : List Line). get_or ls l []) content ∙ get_or-set_same m.lines l c [] h;
      others = λ j ne. ap (λ (ls : List Line). get_or ls j []) content ∙ get_or-set_other m.lines l j c [] ne;
      safe = f.safe;
    }

-- all of it is durable
pub spared_written : (m : Meaning) (l : ℕ) (c : Line) (n m' : Meaning) → Written m l c n → AllSpared n m' → Written m l c m'
spared_written m l c n m' w spared =
    record {
      at = (spared l (w.safe l)).0 ∙ w.at;
      others = λ j ne. (spared j (w.safe j)).0 ∙ w.others j ne;
      safe = λ j. (spared j (w.safe j)).1;
    }
