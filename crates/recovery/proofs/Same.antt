-- The walk, the check and the steps of undoing read lines of the log only: where these are the same, so are they.
use Rattle.std.proofs.Common.{◌≡◌, ℕ, zero, suc, ◌+◌, ◌-◌, cond, eqb, List, [], ◌∷◌, Some, None, Option, sym, refl, ap, ◌∙◌, subst, arith}
use Rattle.std.specs.List.{AllByRecursion as All}
use Rattle.memory.specs.Meaning.{Line}
use Rattle.layout.specs.declared.block.BlockEntry.{BlockEntry}
use Rattle.layout.specs.declared.sizes.Sizes.{Sizes}
use Rattle.layout.specs.Block.{records_of}
use Rattle.layout.specs.Places.{record_id, header_line, entry_line, in_log}
use Rattle.header.specs.declared.Header.{Header}
use Rattle.header.specs.Header.{read_header}
use Rattle.undo_log.specs.declared.fault.Place.{Place}
use Rattle.undo_log.specs.declared.fault.Place.TheVariants.{Record}
use Rattle.recovery.specs.declared.walk.Found.{Found}
use Rattle.recovery.specs.Walk.{Walk, stops, finds, fitting, header_at, bucket_next, slot_next, adding, turn, walk, walk_of}
use Rattle.recovery.specs.Check.{checked}
use Rattle.recovery.specs.Undo.{undoing, undoing_all, undone_by, undoing_core, undoing_from}
use Rattle.recovery.specs.Kept.{SameLog}

-- a header is read from its line
pub header_by_line : (s : Sizes) (f g : ℕ → Line) (k : ℕ) (e : BlockEntry) (n b r : ℕ) → g (header_line s b r) ≡ f (header_line s b r)
    → header_at s g k e n b r ≡ header_at s f k e n b r
unfolding header_at
header_by_line s f g k e n b r q = ap (λ (bs : Line). cond (in_log s b r) (fitting s k e n (read_header s bs)) None) q

-- ---- a walk that comes to its end, by the headers that it finds

pub every : (P : Found → Type 0) → ((x : Found) → P x) → (fs : List Found) → All P fs
every P p [] = tt
every P p (x ∷ fs) = (p x, every P p fs)

split : (x : Found) (w : Walk) (fs : List Found) → adding x w ≡ finds fs → (gs : List Found) × (w ≡ finds gs) × (fs ≡ x ∷ gs)
split x (stops b r) fs q = cc q
split x (finds gs) fs q = (gs, refl, cc)

-- where the header of each record that it finds is the same for the lines g and the entry e', so is the walk
module _ (s : Sizes) (f g : ℕ → Line) (k : ℕ) (e e' : BlockEntry) (P : Found → Type 0)
    (same : (n b r : ℕ) (h : Header) → P (record { id = record_id b r; header = h }) → header_at s f k e n b r ≡ Some h → header_at s g k e' n b r ≡ Some h) where
  turn_finds : (b r : ℕ) (on on' : ℕ → ℕ → Walk) (o o' : Option Header) (fs : List Found)
      → ((h : Header) → P (record { id = record_id b r; header = h }) → o ≡ Some h → o' ≡ Some h)
      → ((b r : ℕ) (gs : List Found) → on b r ≡ finds gs → All P gs → on' b r ≡ finds gs)
      → turn s b r on o ≡ finds fs → All P fs → turn s b r on' o' ≡ finds fs
  turn_finds b r on on' None o' fs here later w a = cc w
  turn_finds b r on on' (Some h) o' fs here later w a =
      let x : Found = record { id = record_id b r; header = h } in
      let (gs, rest, is) = split x (on (bucket_next b r h) (slot_next s r)) fs w in
      let a' : All P (x ∷ gs) = subst (All P) is a in
      ap (turn s b r on') (here h a'.0 refl) ∙ ap (adding x) (later (bucket_next b r h) (slot_next s r) gs rest a'.1) ∙ ap finds (sym is)

  pub walk_finds : (n b r : ℕ) (fs : List Found) → walk s f k e n b r ≡ finds fs → All P fs → walk s g k e' n b r ≡ finds fs
  unfolding walk
  walk_finds zero b r fs w a = w
  walk_finds (suc n) b r fs w a =
      turn_finds b r (walk s f k e n) (walk s g k e' n) (header_at s f k e n b r) (header_at s g k e' n b r) fs (same n b r) (λ b r gs. walk_finds n b r gs) w a

-- ---- lines of the log

-- the next turn of two walks that go on alike
turn_same : (s : Sizes) (b r : ℕ) (on on' : ℕ → ℕ → Walk) (o : Option Header) → ((b r : ℕ) → on b r ≡ on' b r) → turn s b r on o ≡ turn s b r on' o
turn_same s b r on on' None same = refl
turn_same s b r on on' (Some h) same = ap (adding (record { id = record_id b r; header = h })) (same (bucket_next b r h) (slot_next s r))

-- f and g agree from the first line behind the data lines on
module _ (s : Sizes) (f g : ℕ → Line) (a : SameLog s f g) where
  pub header_same : (k : ℕ) (e : BlockEntry) (n b r : ℕ) → header_at s g k e n b r ≡ header_at s f k e n b r
  header_same k e n b r = header_by_line s f g k e n b r (a (header_line s b r) (omega arith))

  pub walk_same : (k : ℕ) (e : BlockEntry) (n b r : ℕ) → walk s g k e n b r ≡ walk s f k e n b r
  unfolding walk
  walk_same k e zero b r = refl
  walk_same k e (suc n) b r =
      ap (turn s b r (walk s g k e n)) (header_same k e n b r)
      ∙ turn_same s b r (walk s g k e n) (walk s f k e n) (header_at s f k e n b r) (λ b r. walk_same k e n b r)

  pub walk_of_same : (k : ℕ) (e : BlockEntry) → walk_of s g k e ≡ walk_of s f k e
  unfolding walk_of
  walk_of_same k e = walk_same k e (records_of s e) e.current (e.closed - 1)

  pub checked_same : (k : ℕ) (es : List BlockEntry) → checked s g k es ≡ checked s f k es
  unfolding checked
  checked_same k [] = refl
  checked_same k (e ∷ es) = let x = walk_of_same k e in let y = checked_same (k + 1) es in rw (x, y)

  pub undoing_same : (k : ℕ) (x : Found) (i : ℕ) → undoing s g k x i ≡ undoing s f k x i
  unfolding undoing
  undoing_same k x zero = refl
  undoing_same k x (suc i) = let y = a (entry_line s x.id.bucket x.id.slot (i + 1)) (omega arith) in let z = undoing_same k x i in rw (y, z)

  undoing_all_same : (k : ℕ) (p : Place) (fs : List Found) → undoing_all s g k p fs ≡ undoing_all s f k p fs
  unfolding undoing_all
  undoing_all_same k p [] = refl
  undoing_all_same k p (x ∷ fs) =
      let y = undoing_same k x x.header.count in
      let z = undoing_all_same k (Record k x.id) fs in
      rw (y, z)

  undone_by_same : (k : ℕ) (p : Place) (x : Walk) → undone_by s g k p x ≡ undone_by s f k p x
  undone_by_same k p (stops b r) = refl
  undone_by_same k p (finds fs) = undoing_all_same k p fs

  pub undoing_core_same : (k : ℕ) (e : BlockEntry) → undoing_core s g k e ≡ undoing_core s f k e
  unfolding undoing_core
  undoing_core_same k e =
      let p = Record k (record_id e.current (e.closed - 1)) in
      ap (cond (eqb (records_of s e) 0) []) (ap (undone_by s g k p) (walk_of_same k e) ∙ undone_by_same k p (walk_of s f k e))

  pub undoing_from_same : (k : ℕ) (es : List BlockEntry) → undoing_from s g k es ≡ undoing_from s f k es
  unfolding undoing_from
  undoing_from_same k [] = refl
  undoing_from_same k (e ∷ es) = let x = undoing_core_same k e in let y = undoing_from_same (k + 1) es in rw (x, y)
