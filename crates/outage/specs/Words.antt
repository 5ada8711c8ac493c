-- The words in which the story is told.
use Rattle.std.specs.Prelude.{ℕ, List, ◌++◌, codes, decimal}
use Rattle.outage.specs.declared.content.Stands.{Stands}
use Rattle.outage.specs.declared.content.Stands.TheVariants as stands
use Rattle.outage.specs.declared.history.Asked.{Asked}
use Rattle.outage.specs.declared.history.Asked.TheVariants as asked
use Rattle.outage.specs.declared.history.Durability.{Durability}
use Rattle.outage.specs.declared.history.Durability.TheVariants.{Durable, NotDurable}
use Rattle.outage.specs.declared.story.Step.{Step}
use Rattle.outage.specs.declared.story.Step.TheVariants.{Write, Fence}
use Rattle.outage.specs.declared.story.Part.{Part}
use Rattle.outage.specs.declared.story.Part.TheVariants.{PowerGoesAtWrite, PowerGoesAtFence}
use Rattle.outage.specs.declared.story.Choice.{Choice}
use Rattle.outage.specs.declared.story.Choice.TheVariants.{AllOld, AllNew, InTurn, AllOther}
use Rattle.outage.specs.declared.story.Kind.{Kind}
use Rattle.outage.specs.declared.story.Kind.TheVariants.{Straight, Queued}
use Rattle.outage.specs.Story.{choice_bits}

abbrev pub step_text : Step → List ℕ
step_text (Write l) = codes "write line " ++ decimal l
step_text Fence = codes "fence"

abbrev pub part_text : Part → List ℕ
part_text PowerGoesAtWrite = codes "Part 1: power goes at a write"
part_text PowerGoesAtFence = codes "Part 2: power goes at a fence"

abbrev pub choice_text : Choice → List ℕ
choice_text AllOld = codes "all old"
choice_text AllNew = codes "all new"
choice_text InTurn = codes "old, new, torn, other"
choice_text AllOther = codes "all other"

abbrev pub kind_name : Kind → List ℕ
kind_name Straight = codes "straight memory"
kind_name (Queued c) = codes "queued memory"

-- with what it was made from
abbrev pub kind_text : Kind → List ℕ
kind_text Straight = kind_name Straight
kind_text (Queued c) = kind_name (Queued c) ++ (codes ", choice " ++ (decimal (choice_bits c) ++ (codes " (" ++ (choice_text c ++ codes ")"))))

abbrev pub asked_text : Asked → List ℕ
asked_text asked.Nothing = codes "nothing"
asked_text asked.New = codes "new"

abbrev pub durability_text : Durability → List ℕ
durability_text Durable = codes "durable"
durability_text NotDurable = codes "not durable"

abbrev pub stands_text : Stands → List ℕ
stands_text stands.Old = codes "old"
stands_text stands.New = codes "new"
stands_text stands.Torn = codes "torn"
stands_text stands.Other = codes "other"
