-- Where the lines of the records found read the same, so do the walk and the entries.
use Rattle.std.proofs.Common.{◌≡◌, ℕ, zero, suc, ◌+◌, ◌-◌, ◌<◌, ◌≤◌, List, [], ◌∷◌, refl, ◌∙◌, subst, arith}
use Rattle.std.specs.List.{AllByRecursion as All}
use Rattle.memory.specs.Meaning.{Line}
use Rattle.layout.specs.declared.block.BlockEntry.{BlockEntry}
use Rattle.layout.specs.declared.sizes.Sizes.{Sizes}
use Rattle.layout.specs.Block.{records_of}
use Rattle.layout.specs.Places.{record_id, header_line, entry_line}
use Rattle.recovery.specs.Undone.{entries_from, entries_of}
use Rattle.recovery.specs.declared.walk.Found.{Found}
use Rattle.recovery.proofs.Same.{header_by_line, walk_finds}
use Rattle.recovery.specs.Walk.{finds, walk_of}

-- the header of a record and its entries read the same in both
abbrev pub Alike : Sizes → (ℕ → Line) → (ℕ → Line) → Found → Type 0
Alike s lines lines' f =
    (i : ℕ) → i ≤ f.header.count → lines' (entry_line s f.id.bucket f.id.slot i) ≡ lines (entry_line s f.id.bucket f.id.slot i)

-- the header is line 0
header_alike : (s : Sizes) (lines lines' : ℕ → Line) (f : Found) → Alike s lines lines' f
    → lines' (header_line s f.id.bucket f.id.slot) ≡ lines (header_line s f.id.bucket f.id.slot)
header_alike s lines lines' f a =
    let e : entry_line s f.id.bucket f.id.slot 0 ≡ header_line s f.id.bucket f.id.slot = omega arith in
    subst (λ (l : ℕ). lines' l ≡ lines l) e (a 0 (omega arith))

-- ---- the entries

pub entries_from_alike : (s : Sizes) (lines lines' : ℕ → Line) (f : Found) (n : ℕ)
    → ((i : ℕ) → i < n → lines' (entry_line s f.id.bucket f.id.slot (i + 1)) ≡ lines (entry_line s f.id.bucket f.id.slot (i + 1)))
    → entries_from s lines' f n ≡ entries_from s lines f n
unfolding entries_from
entries_from_alike s lines lines' f zero a = refl
entries_from_alike s lines lines' f (suc i) a =
    let rest = entries_from_alike s lines lines' f i (λ j h. a j (omega arith)) in
    let here = a i (omega arith) in
    cc

pub entries_of_alike : (s : Sizes) (lines lines' : ℕ → Line) (fs : List Found) → All (Alike s lines lines') fs
    → entries_of s lines' fs ≡ entries_of s lines fs
unfolding entries_of
entries_of_alike s lines lines' [] a = refl
entries_of_alike s lines lines' (f ∷ fs) a =
    let x = entries_from_alike s lines lines' f f.header.count (λ i h. a.0 (i + 1) (omega arith)) in
    let y = entries_of_alike s lines lines' fs a.1 in
    cc

-- ---- the walk

pub walk_of_alike : (s : Sizes) (lines lines' : ℕ → Line) (k : ℕ) (e : BlockEntry) (fs : List Found)
    → walk_of s lines k e ≡ finds fs → All (Alike s lines lines') fs → walk_of s lines' k e ≡ finds fs
unfolding walk_of
walk_of_alike s lines lines' k e fs w a =
    walk_finds s lines lines' k e e (Alike s lines lines')
    (λ n b r h x q. header_by_line s lines lines' k e n b r (header_alike s lines lines' (record { id = record_id b r; header = h }) x) ∙ q)
    (records_of s e) e.current (e.closed - 1) fs w a
