-- A log whose lines are spared is kept, and the lines of a record that is not closed are none of a closed record's.
use Rattle.std.proofs.Common.{◌≡◌, ℕ, zero, suc, ◌<◌, ◌≤◌, true, false, List, [], ◌∷◌, sym, refl, ap, ◌∙◌, subst, arith}
use Rattle.std.specs.List.{AllByRecursion as All}
use Rattle.std.proofs.ByRecursion.{All-weaker}
use Rattle.std.proofs.lemmas.Bool.{both_ways}
use Rattle.memory.specs.Meaning.{Meaning, content_at}
use Rattle.layout.specs.declared.block.BlockEntry.{BlockEntry}
use Rattle.layout.specs.declared.sizes.Sizes.{Sizes}
use Rattle.layout.specs.Block.{entry_at, has}
use Rattle.layout.specs.Places.{entry_line}
use Rattle.layout.proofs.Apart.{lines_apart}
use Rattle.undo_log.specs.Steps.{World}
use Rattle.recovery.specs.declared.walk.Found.{Found}
use Rattle.recovery.specs.Walk.{walk_of}
use Rattle.survival.specs.Held.{Placed, DurableRecord, Holds, Kept}
use Rattle.survival.specs.Proper.{Next}
use Rattle.survival.proofs.Alike.{Alike, walk_of_alike, entries_of_alike}
use Rattle.survival.proofs.Spared.{Spared}

both : {P Q R : Found → Type 0} → ((f : Found) → P f → Q f → R f) → (fs : List Found) → All P fs → All Q fs → All R fs
both g [] p q = tt
both g (f ∷ fs) p q = (g f p.0 q.0, both g fs p.1 q.1)

abbrev pub SparedRecord : Sizes → Meaning → Meaning → Found → Type 0
SparedRecord s m m' f = (i : ℕ) → i ≤ f.header.count → Spared m m' (entry_line s f.id.bucket f.id.slot i)

pub alike : (s : Sizes) (m m' : Meaning) (fs : List Found) → All (DurableRecord s m) fs → All (SparedRecord s m m') fs
    → All (Alike s (content_at m) (content_at m')) fs
alike s m m' fs d a =
    both {P = DurableRecord s m} {Q = SparedRecord s m m'} {R = Alike s (content_at m) (content_at m')} (λ f p q i h. (q i h (p i h)).0) fs d a

pub durable : (s : Sizes) (m m' : Meaning) (fs : List Found) → All (DurableRecord s m) fs → All (SparedRecord s m m') fs → All (DurableRecord s m') fs
durable s m m' fs d a = both {P = DurableRecord s m} {Q = SparedRecord s m m'} {R = DurableRecord s m'} (λ f p q i h. (q i h (p i h)).1) fs d a

pub kept : (s : Sizes) (k : ℕ) (w w' : World) (fs : List Found) → Holds s w k fs → entry_at w'.block k ≡ entry_at w.block k
    → All (SparedRecord s w.memory w'.memory) fs → Kept s k w w' fs
kept s k w w' fs h is spared =
    let a = alike s w.memory w'.memory fs h.durable spared in
    record {
      holds =
          record {
            walked =
                ap (walk_of s (content_at w'.memory) k) is
                ∙ walk_of_alike s (content_at w.memory) (content_at w'.memory) k (entry_at w.block k) fs h.walked a;
            placed = subst (λ (e : BlockEntry). All (Placed s e) fs) (sym is) h.placed;
            durable = durable s w.memory w'.memory fs h.durable spared;
          };
      same = entries_of_alike s (content_at w.memory) (content_at w'.memory) fs a;
    }

pub then_kept : (s : Sizes) (k : ℕ) (w v w' : World) (fs : List Found) → Kept s k w v fs → Kept s k v w' fs → Kept s k w w' fs
then_kept s k w v w' fs a b = record { holds = b.holds; same = b.same ∙ a.same }

-- ---- a record that is not closed

-- no closed record of the entry e lies there
abbrev pub Unplaced : Sizes → BlockEntry → ℕ → ℕ → Type 0
Unplaced s e b r = (f : Found) → Placed s e f → f.id.bucket ≡ b → f.id.slot ≡ r → ⊥

-- the closed records in its bucket come before the next
pub placed_before : (s : Sizes) (e : BlockEntry) (b r : ℕ) → Next s e b r → (f : Found) → Placed s e f → f.id.bucket ≡ b → f.id.slot < r
placed_before s e b zero next f p q =
    absurd (both_ways (has e.vector b) (next.fresh refl) (subst (λ (c : ℕ). has e.vector c ≡ true) q p.held))
placed_before s e b (suc r) next f p q =
    let (is_b, is_r) = next.here (omega arith) in
    let y = p.earlier (q ∙ is_b) in
    omega arith

pub next_unplaced : (s : Sizes) (e : BlockEntry) (b r : ℕ) → Next s e b r → Unplaced s e b r
next_unplaced s e b r next f p q z = let y = placed_before s e b r next f p q in omega arith

pub foreign_unplaced : (s : Sizes) (e : BlockEntry) (b r : ℕ) → has e.vector b ≡ false → Unplaced s e b r
foreign_unplaced s e b r h f p q z = both_ways (has e.vector b) h (subst (λ (c : ℕ). has e.vector c ≡ true) q p.held)

-- where all lines but one of it are spared, so is every closed record
pub others_spared : (s : Sizes) (e : BlockEntry) (b r i : ℕ) (m m' : Meaning) (fs : List Found) → Unplaced s e b r → r < s.records → i ≤ 7
    → ((j : ℕ) → (j ≡ entry_line s b r i → ⊥) → Spared m m' j) → All (Placed s e) fs → All (SparedRecord s m m') fs
others_spared s e b r i m m' fs free slot h spared =
    All-weaker (Placed s e) (SparedRecord s m m') (λ f p n le. spared (entry_line s f.id.bucket f.id.slot n) (apart f p n le)) fs
  where
    apart : (f : Found) → Placed s e f → (n : ℕ) → n ≤ f.header.count → entry_line s f.id.bucket f.id.slot n ≡ entry_line s b r i → ⊥
    apart f p n le q =
        let (x, y, _) = (lines_apart s f.id.bucket f.id.slot n).alone b r i p.slot slot (omega (arith, p.seven)) h q in
        free f p x y
