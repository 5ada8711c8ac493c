-- What each part of a run leaves, and what it comes to: a durable line stands as asked.
use Rattle.std.specs.Prelude.{◌≡◌, ℕ, ◌<◌, false, cond, List, length, Ok, Err, Result, slice_index_or}
use Rattle.memory.specs.declared.fault.MemoryFault.{MemoryFault}
use Rattle.memory.specs.Meaning.{Meaning, content_at}
use Rattle.memory.specs.Meaning as memory
use Rattle.outage.specs.declared.story.Step.{Step}
use Rattle.outage.specs.declared.story.Step.TheVariants.{Fence}
use Rattle.outage.specs.declared.story.Kind.{Kind}
use Rattle.outage.specs.declared.content.Stands.{Stands}
use Rattle.outage.specs.declared.content.Stands.TheVariants.{Other}
use Rattle.outage.specs.declared.content.Stands.TheVariants as stands
use Rattle.outage.specs.declared.history.Asked.{Asked}
use Rattle.outage.specs.declared.history.Asked.TheVariants.{Nothing, New}
use Rattle.outage.specs.declared.history.Durability.TheVariants.{Durable}
use Rattle.outage.specs.declared.history.History.{History}
use Rattle.outage.specs.declared.run.Account.{Account}
use Rattle.outage.specs.Content.{old_content, new_content, called}
use Rattle.outage.specs.History.{is_write_of, after_write, asked_in, durability_in}

-- what line l is to hold
abbrev pub content_for : Asked → ℕ → List ℕ
content_for Nothing l = old_content l
content_for New l = new_content l

-- and how that is called
abbrev pub stands_for : Asked → Stands
stands_for Nothing = stands.Old
stands_for New = stands.New

-- each line is old and durable
pub record Settled (m : Meaning) : Type 0 where
  pub old : (l : ℕ) → l < 6 → content_at m l ≡ old_content l
  pub safe : (l : ℕ) → memory.Durable m l

-- a step: it completes, or power goes and a durable line that is not written by it is as it was
pub record Stepped (m : Meaning) (s : Step) (r : Result Unit MemoryFault) (m' : Meaning) : Type 0 where
  pub count : length m'.lines ≡ length m.lines
  pub done : r ≡ Ok tt → (l : ℕ) → content_at m' l ≡ cond (is_write_of s l) (new_content l) (content_at m l)
  pub safe : r ≡ Ok tt → (l : ℕ) → is_write_of s l ≡ false → memory.Durable m l → memory.Durable m' l
  pub fenced : r ≡ Ok tt → s ≡ Fence → (l : ℕ) → memory.Durable m' l
  pub lost : (f : MemoryFault) → r ≡ Err f → (l : ℕ) → is_write_of s l ≡ false → memory.Durable m l → content_at m' l ≡ content_at m l

-- on a memory of kind k every line is durable, if completed writes are
abbrev pub Honest : {X : Type 0} → (X → Meaning) → Kind → Type 0
Honest {X} meaning k = after_write k ≡ Durable → (x : X) (l : ℕ) → memory.Durable (meaning x) l

-- steps: a line that the history calls durable holds what was asked
abbrev pub Kept : {X : Type 0} → (X → Meaning) → X → History → X → Type 0
Kept meaning x h x' =
    (k : Kind) → Honest meaning k → (l : ℕ) → content_at (meaning x) l ≡ old_content l → memory.Durable (meaning x) l → durability_in h l k ≡ Durable → content_at (meaning x') l ≡ content_for (asked_in h l) l

-- what stands in each line
abbrev pub Found : Meaning → List Stands → Type 0
Found m ss = (l : ℕ) → l < 6 → slice_index_or ss l Other ≡ called l (content_at m l)

-- a line that is durable in a memory of kind k stands as asked
abbrev pub AsAsked : Kind → Account → Type 0
AsAsked k a = (l : ℕ) → l < 6 → durability_in a.history l k ≡ Durable → slice_index_or a.stands l Other ≡ stands_for (asked_in a.history l)
