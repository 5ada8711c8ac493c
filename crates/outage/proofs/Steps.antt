-- What one more write, step or read says of the lines.
use Rattle.std.proofs.Common.{◌≡◌, ℕ, ◌+◌, ◌<◌, Bool, true, false, cond, eqb, ◌≢◌, List, [], length, get_or, set, Ok, Err, sym, refl, ap, ◌∙◌, arith, get_or-set_other, get_or-set_same, below_more}
use Rattle.memory.specs.declared.fault.MemoryFault.{MemoryFault}
use Rattle.memory.specs.Meaning.{Line, Meaning, Durable, content_at, Reads, Writes, powered_up}
use Rattle.memory.proofs.Told.{wrote, was_read}
use Rattle.outage.specs.declared.content.Stands.{Stands}
use Rattle.outage.specs.declared.content.Stands.TheVariants.{Other}
use Rattle.outage.specs.declared.story.Step.{Step}
use Rattle.outage.specs.declared.story.Step.TheVariants.{Write, Fence}
use Rattle.outage.specs.declared.story.Kind.{Kind}
use Rattle.outage.specs.declared.history.Asked.{Asked}
use Rattle.outage.specs.declared.history.Asked.TheVariants as asked
use Rattle.outage.specs.declared.history.Durability.{Durability}
use Rattle.outage.specs.declared.history.Durability.TheVariants.{NotDurable}
use Rattle.outage.specs.declared.history.Durability.TheVariants as durability
use Rattle.outage.specs.Content.{old_content, new_content, called}
use Rattle.outage.specs.History.{is_write_of, asked_next, after_write, durability_next}
use Rattle.outage.specs.Run.{content_for, stands_for, Settled, Stepped}
use Rattle.outage.proofs.Called.{called_for}

-- one more line is old
pub settled_more : (m m' : Meaning) (l : ℕ) (c : Line) → c ≡ old_content l → Writes m l c (Ok tt) m' → ((j : ℕ) → j < l → content_at m j ≡ old_content j) → (j : ℕ) → j < l + 1 → content_at m' j ≡ old_content j
settled_more m m' l c e w inv =
    let is = wrote m m' l c w in
    below_more _ _
    (λ j h. let ne : j ≢ l = omega arith in ap (λ ls. get_or ls j []) is.1.content ∙ (get_or-set_other m.lines l j c [] ne ∙ inv j h))
    (ap (λ ls. get_or ls l []) is.1.content ∙ (get_or-set_same m.lines l c [] is.0 ∙ e))

-- one more line is named
pub found_more : (m : Meaning) (l : ℕ) (x : Line) (s : Stands) (ss : List Stands) → l < length ss → Reads m l (Ok x) → s ≡ called l x → ((j : ℕ) → j < l → get_or ss j Other ≡ called j (content_at m j)) → (j : ℕ) → j < l + 1 → get_or (set ss l s) j Other ≡ called j (content_at m j)
found_more m l x s ss h w e inv =
    below_more _ _
    (λ j k. let ne : j ≢ l = omega arith in get_or-set_other ss l j s Other ne ∙ inv j k)
    (get_or-set_same ss l s Other h ∙ (e ∙ ap (called l) (was_read m l x w)))

-- what is asked after one more step
asked_content : (b : Bool) (a : Asked) (l : ℕ) → cond b (new_content l) (content_for a l) ≡ content_for (cond b asked.New a) l
asked_content true a l = refl
asked_content false a l = refl

module _ (m m' : Meaning) (s : Step) (l : ℕ) where
  pub content_more : Stepped m s (Ok tt) m' → (a a' : Asked) → a' ≡ asked_next l a s → content_at m l ≡ content_for a l → content_at m' l ≡ content_for a' l
  content_more w a a' e inv =
      w.done refl l
      ∙ (ap (λ x. cond (is_write_of s l) (new_content l) x) inv ∙ (asked_content (is_write_of s l) a l ∙ ap (λ x. content_for x l) (sym e)))

  -- a line that is durable when power goes, and is not being written, is as it was
  kept_by : (f : MemoryFault) → Stepped m s (Err f) m' → (b : Bool) → is_write_of s l ≡ b → (d : Durability) (a : Asked) → cond b NotDurable d ≡ durability.Durable → (d ≡ durability.Durable → Durable m l) → content_at m l ≡ content_for a l → content_at m' l ≡ content_for (cond b asked.New a) l
  kept_by f w true e d a q safe inv = absurd (grind arith)
  kept_by f w false e d a q safe inv = w.lost f refl l e (safe q) ∙ inv

  pub kept : (f : MemoryFault) → Stepped m s (Err f) m' → (d : Durability) (a : Asked) → cond (is_write_of s l) NotDurable d ≡ durability.Durable → (d ≡ durability.Durable → Durable m l) → content_at m l ≡ content_for a l → content_at m' l ≡ content_for (cond (is_write_of s l) asked.New a) l
  kept f w d a q safe inv = kept_by f w (is_write_of s l) refl d a q safe inv

-- one more step completed
safe_by : (k : Kind) (m m' : Meaning) (n l : ℕ) → Stepped m (Write n) (Ok tt) m' → (b : Bool) → eqb n l ≡ b → (d : Durability) → (after_write k ≡ durability.Durable → Durable m' l) → (d ≡ durability.Durable → Durable m l) → cond b (after_write k) d ≡ durability.Durable → Durable m' l
safe_by k m m' n l w true e d honest inv q = honest q
safe_by k m m' n l w false e d honest inv q = w.safe refl l e (inv q)

safe_next : (k : Kind) (m m' : Meaning) (s : Step) (l : ℕ) → Stepped m s (Ok tt) m' → (d : Durability) → (after_write k ≡ durability.Durable → Durable m' l) → (d ≡ durability.Durable → Durable m l) → durability_next k l d s ≡ durability.Durable → Durable m' l
safe_next k m m' (Write n) l w d honest inv q = safe_by k m m' n l w (eqb n l) refl d honest inv q
safe_next k m m' Fence l w d honest inv q = w.fenced refl refl l

pub safe_more : (k : Kind) (m m' : Meaning) (s : Step) (l : ℕ) → Stepped m s (Ok tt) m' → (d d' : Durability) → d' ≡ durability_next k l d s → (after_write k ≡ durability.Durable → Durable m' l) → (d ≡ durability.Durable → Durable m l) → d' ≡ durability.Durable → Durable m' l
safe_more k m m' s l w d d' e honest inv q = safe_next k m m' s l w d honest inv (sym e ∙ q)

-- power changes no content
pub settled_on : (m m' : Meaning) (n : ℕ) → m' ≡ powered_up m n → Settled m → Settled m'
settled_on m m' n e s =
    record {
      old = λ l h. ap (λ x. content_at x l) e ∙ s.old l h;
      safe = λ l. ap (λ x. get_or x.durable l true) e ∙ s.safe l;
    }

pub reads_as_asked : (m m' : Meaning) (n : ℕ) (a : Asked) (l : ℕ) (s : Stands) → m' ≡ powered_up m n → content_at m l ≡ content_for a l → s ≡ called l (content_at m' l) → s ≡ stands_for a
reads_as_asked m m' n a l s e q found = found ∙ (ap (called l) (ap (λ x. content_at x l) e ∙ q) ∙ called_for a l)
