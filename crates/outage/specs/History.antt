-- What follows from the steps that completed and the one that did not: what was asked of a line, and whether it was
-- durable.
use Rattle.std.specs.Prelude.{◌≡◌, ℕ, ◌<◌, Bool, false, cond, List, length, take, Some, None, fold, Option, ◌==◌, slice_index_or}
use Rattle.outage.specs.declared.story.Step.{Step}
use Rattle.outage.specs.declared.story.Step.TheVariants.{Write, Fence}
use Rattle.outage.specs.declared.story.Kind.{Kind}
use Rattle.outage.specs.declared.story.Kind.TheVariants.{Straight, Queued}
use Rattle.outage.specs.declared.history.Asked.{Asked}
use Rattle.outage.specs.declared.history.Asked.TheVariants.{Nothing, New}
use Rattle.outage.specs.declared.history.Durability.{Durability}
use Rattle.outage.specs.declared.history.Durability.TheVariants.{Durable, NotDurable}
use Rattle.outage.specs.declared.history.Loss.{Loss}
use Rattle.outage.specs.declared.history.History.{History}

-- step s is a write of line l
abbrev pub is_write_of : Step → ℕ → Bool
is_write_of (Write k) l = k == l
is_write_of Fence l = false

-- line l was asked to be new if a step wrote it
abbrev pub asked_next : ℕ → Asked → Step → Asked
asked_next l a s = cond (is_write_of s l) New a

abbrev pub asked_by : List Step → ℕ → Asked
asked_by ss l = fold (asked_next l) Nothing ss

-- what a completed write makes of its line
abbrev pub after_write : Kind → Durability
after_write Straight = Durable
after_write (Queued c) = NotDurable

-- a fence makes every line durable
abbrev pub durability_next : Kind → ℕ → Durability → Step → Durability
durability_next k l d (Write j) = cond (j == l) (after_write k) d
durability_next k l d Fence = Durable

-- every line is durable at first
abbrev pub durability_by : Kind → List Step → ℕ → Durability
durability_by k ss l = fold (durability_next k l) Durable ss

-- power went while line l was written
abbrev pub lost_by : Option Loss → ℕ → Bool
lost_by (Some x) l = is_write_of x.step l
lost_by None l = false

abbrev pub asked_in : History → ℕ → Asked
asked_in h l = cond (lost_by h.loss l) New (asked_by h.completed.now l)

abbrev pub durability_in : History → ℕ → Kind → Durability
durability_in h l k = cond (lost_by h.loss l) NotDurable (durability_by k h.completed.now l)

-- h comes of asking for the steps ss: the first n completed and the next did not, or all completed
abbrev pub ToldBy : List Step → List Step → Option Loss → Type 0
ToldBy ss completed (Some x) = (n : ℕ) × (n < length ss) × (completed ≡ take n ss) × (x.step ≡ slice_index_or ss n (Write 0))
ToldBy ss completed None = completed ≡ ss

abbrev pub Tells : List Step → History → Type 0
Tells ss h = ToldBy ss h.completed.now h.loss
