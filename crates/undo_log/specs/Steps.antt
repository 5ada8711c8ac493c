-- What a call does to block and memory: its steps, in order, until power goes.
use Rattle.std.specs.Prelude.{◌≡◌, ℕ, List, [], ◌∷◌, Ok, Err, Result, slice_set}
use Rattle.memory.specs.Meaning.{Meaning, Line, Writes, Fences}
use Rattle.memory.specs.declared.fault.MemoryFault.{MemoryFault}
use Rattle.layout.specs.declared.block.BlockEntry.{BlockEntry}
use Rattle.undo_log.specs.declared.fault.Place.{Place}
use Rattle.undo_log.specs.declared.fault.LogFault.{LogFault}
use Rattle.undo_log.specs.declared.fault.LogFault.TheVariants.{Memory}

-- what outlives a loss of power: the block, an entry for each core, and the memory
pub record World : Type 0 where
  pub block : List BlockEntry
  pub memory : Meaning

pub data Step : Type 0 where
  write : ℕ → Line → Place → Step  -- a line's new content
  fence : Place → Step
  enter : ℕ → BlockEntry → Step  -- a core's new entry in the block

-- an answer of the memory, with the place at work
abbrev pub placed : Place → Result Unit MemoryFault → Result Unit LogFault
placed p (Ok x) = Ok tt
placed p (Err e) = Err (Memory p e)

-- what a step may answer and leave
abbrev pub Does : Step → World → Result Unit LogFault → World → Type 0
Does (write l c p) w r w' =
    (q : Result Unit MemoryFault) × (Writes w.memory l c q w'.memory × ((r ≡ placed p q) × (w'.block ≡ w.block)))
Does (fence p) w r w' =
    (q : Result Unit MemoryFault) × (Fences w.memory q w'.memory × ((r ≡ placed p q) × (w'.block ≡ w.block)))
Does (enter k e) w r w' = (r ≡ Ok tt) × ((w'.memory ≡ w.memory) × (w'.block ≡ slice_set w.block k e))

-- a step that completed is followed by the rest, and one at which power went ends the call
abbrev pub Then : Result Unit LogFault → (World → Result Unit LogFault → World → Type 0) → World → Result Unit LogFault → World → Type 0
Then (Ok x) P v r w' = P v r w'
Then (Err e) P v r w' = (r ≡ Err e) × (w' ≡ v)

-- these steps in order until power goes take w to w', with the answer r
abbrev pub Ran : List Step → World → Result Unit LogFault → World → Type 0
Ran [] w r w' = (r ≡ Ok tt) × (w' ≡ w)
Ran (s ∷ ss) w r w' = (q : Result Unit LogFault) × ((v : World) × (Does s w q v × Then q (Ran ss) v r w'))
