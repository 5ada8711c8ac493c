-- What a kind of memory that keeps lines, marks of the durable ones and a power supply has to show, way by way.
use Rattle.std.proofs.Common.{◌≡◌, ℕ, ◌<◌, ◌≤◌, Bool, true, false, ltb, List, [], length, get_or, set, Some, None, Option, is_some, unwrap_or, Ok, Err, ◌≢◌, ◌⊎◌, inl, inr, sym, refl, ap, ◌∙◌, arith, length-set, ltb-false, ltb-true}
use Rattle.std.proofs.lemmas.Bool.{cases_eq}
use Rattle.std.proofs.lemmas.List.{get_or-set_same, get_or-set_other}
use Rattle.memory.specs.declared.fault.MemoryFault.TheVariants.{NoSuchLine, NoPower, Unreadable}
use Rattle.memory.specs.declared.fault.Operation.TheVariants.{Write, Fence}
use Rattle.memory.specs.declared.power.Power.{Power}
use Rattle.memory.specs.Power.{off, is_on, left_in, suffices, spent, meaning_of}
use Rattle.memory.specs.Meaning.{Line, Sound, Cut, loosened, Reads, Writes, Fences, Cuts}

-- the lines are whole and the marks are as many; with power off all are durable
pub sound_kind : (ls : List Line) (ds : List Bool) (p : Power) → length ds ≡ length ls → ((l : ℕ) → l < length ls → length (get_or ls l []) ≡ 64) → (is_on p ≡ false → (l : ℕ) → get_or ds l true ≡ true) → Sound (meaning_of ls ds p)
sound_kind ls ds p e w s = record { marked = e; whole = w; none = none_off p.left; safe = s }
  where
    none_off : (o : Option ℕ) → is_some o ≡ false → unwrap_or o 0 ≡ 0
    none_off None q = refl
    none_off (Some n) q = absurd (grind arith)

module _ (ls : List Line) (ds : List Bool) (p : Power) (l : ℕ) where
  pub read_missing : length ls ≤ l → Reads (meaning_of ls ds p) l (Err (NoSuchLine l))
  read_missing h = record { missing = λ _. refl; dark = λ a _. absurd (omega arith); done = λ a _. absurd (omega arith) }

  pub read_dark : l < length ls → is_on p ≡ false → Reads (meaning_of ls ds p) l (Err (Unreadable l))
  read_dark h e = record { missing = λ a. absurd (omega arith); dark = λ _ _. refl; done = λ _ q. absurd (grind arith) }

  pub read_done : (x : Line) → l < length ls → is_on p ≡ true → x ≡ get_or ls l [] → Reads (meaning_of ls ds p) l (Ok x)
  read_done x h e q = record { missing = λ a. absurd (omega arith); dark = λ _ q. absurd (grind arith); done = λ _ _. ap Ok q }

  module _ (c : Line) where
    pub write_missing : length ls ≤ l → Writes (meaning_of ls ds p) l c (Err (NoSuchLine l)) (meaning_of ls ds p)
    write_missing h =
        record {
          count = refl;
          missing = λ _. (refl, refl);
          dark = λ a _. absurd (omega arith);
          lost = λ a _ _. absurd (omega arith);
          done = λ a _ _. absurd (omega arith);
        }

-- power that suffices for an operation is on
pub suffices_on : (p : Power) → suffices p ≡ true → is_on p ≡ true
suffices_on p = go p.left
  where
    go : (o : Option ℕ) → ltb 0 (unwrap_or o 0) ≡ true → is_some o ≡ true
    go None e = absurd (grind arith)
    go (Some n) e = refl

-- by whether power is on, and whether it suffices for an operation
pub by_power : (p : Power) (P : Bool → Bool → Type 0) → (suffices p ≡ true → P true true) → (is_on p ≡ true → suffices p ≡ false → P true false) → (is_on p ≡ false → P false false) → P (is_on p) (suffices p)
by_power p P done lost dark = go (is_on p) (suffices p) refl refl
  where
    go : (o s : Bool) → is_on p ≡ o → suffices p ≡ s → P o s
    go true true o s = done s
    go true false o s = lost o s
    go false true o s = let dead : is_on p ≡ true = suffices_on p s in absurd (grind arith)
    go false false o s = dark o

-- a line that is durable when line l no longer is was so before, and is another
pub loosened_other : (ds : List Bool) (l k : ℕ) → l < length ds → get_or (set ds l false) k true ≡ true → (k ≢ l) × (get_or ds k true ≡ true)
loosened_other ds l k h d = go (cases_eq k l)
  where
    go : (k ≡ l) ⊎ (k ≢ l) → (k ≢ l) × (get_or ds k true ≡ true)
    go (inl q) =
        let loose : get_or (set ds l false) l true ≡ false = get_or-set_same ds l false true h in
        let same : get_or (set ds l false) k true ≡ false = rw q loose in
        absurd (grind arith)
    go (inr n) = (n, sym (get_or-set_other ds l k false true n) ∙ d)

-- power that is not on is off
pub off_from_dark : (p : Power) → is_on p ≡ false → p ≡ off
off_from_dark p = go p.left
  where
    go : (o : Option ℕ) → is_some o ≡ false → ◌≡◌ {A = Power} (record { left = o }) off
    go None e = refl
    go (Some n) e = absurd (grind arith)

-- an operation that completes
pub write_done : (ls ls' : List Line) (ds ds' : List Bool) (p : Power) (l : ℕ) (c : Line) → suffices p ≡ true → l < length ls → ls' ≡ set ls l c → ((k : ℕ) → (k ≡ l → ⊥) → get_or ds k true ≡ true → get_or ds' k true ≡ true) → Writes (meaning_of ls ds p) l c (Ok tt) (meaning_of ls' ds' (spent p))
write_done ls ls' ds ds' p l c s h e k =
    let pos : 0 < left_in p = ltb-true 0 (left_in p) s in
    let was : is_on p ≡ true = suffices_on p s in
    rw s record {
      count = ap length e ∙ length-set ls l c;
      missing = λ a. absurd (omega arith);
      dark = λ _ q. absurd (grind arith);
      lost = λ _ _ z. absurd (omega arith);
      done = λ _ _ _. (refl, record { content = e; kept = k; on = refl; spent = omega arith });
    }

pub fence_done : (ls ls' : List Line) (ds ds' : List Bool) (p : Power) → suffices p ≡ true → ls' ≡ ls → ((k : ℕ) → get_or ds' k true ≡ true) → Fences (meaning_of ls ds p) (Ok tt) (meaning_of ls' ds' (spent p))
fence_done ls ls' ds ds' p s e k =
    let pos : 0 < left_in p = ltb-true 0 (left_in p) s in
    let was : is_on p ≡ true = suffices_on p s in
    rw s record {
      count = ap length e;
      dark = λ q. absurd (grind arith);
      lost = λ _ z. absurd (omega arith);
      done = λ _ _. (refl, record { content = e; safe = k; on = refl; spent = omega arith });
    }

-- an operation at which power goes
pub write_lost : (ls ls' : List Line) (ds ds' : List Bool) (p : Power) (l : ℕ) (c : Line) → is_on p ≡ true → suffices p ≡ false → l < length ls → Cut (loosened (meaning_of ls ds p) l) (meaning_of ls' ds' off) → Writes (meaning_of ls ds p) l c (Err (NoPower (Write l))) (meaning_of ls' ds' off)
write_lost ls ls' ds ds' p l c o s h k =
    let none : left_in p ≤ 0 = ltb-false 0 (left_in p) s in
    record {
      count = k.count;
      missing = λ a. absurd (omega arith);
      dark = λ _ q. absurd (grind arith);
      lost = λ _ _ _. (refl, k);
      done = λ _ _ z. absurd (omega arith);
    }

pub fence_lost : (ls ls' : List Line) (ds ds' : List Bool) (p : Power) → is_on p ≡ true → suffices p ≡ false → Cut (meaning_of ls ds p) (meaning_of ls' ds' off) → Fences (meaning_of ls ds p) (Err (NoPower Fence)) (meaning_of ls' ds' off)
fence_lost ls ls' ds ds' p o s k =
    let none : left_in p ≤ 0 = ltb-false 0 (left_in p) s in
    record { count = k.count; dark = λ q. absurd (grind arith); lost = λ _ _. (refl, k); done = λ _ z. absurd (omega arith) }

-- an operation with power off
pub write_dark : (ls : List Line) (ds : List Bool) (p : Power) (l : ℕ) (c : Line) → is_on p ≡ false → l < length ls → Writes (meaning_of ls ds p) l c (Err (NoPower (Write l))) (meaning_of ls ds p)
write_dark ls ds p l c o h =
    record {
      count = refl;
      missing = λ a. absurd (omega arith);
      dark = λ _ _. (refl, refl);
      lost = λ _ q _. absurd (grind arith);
      done = λ _ q _. absurd (grind arith);
    }

pub fence_dark : (ls : List Line) (ds : List Bool) (p : Power) → is_on p ≡ false → Fences (meaning_of ls ds p) (Err (NoPower Fence)) (meaning_of ls ds p)
fence_dark ls ds p o = record { count = refl; dark = λ _. (refl, refl); lost = λ q _. absurd (grind arith); done = λ q _. absurd (grind arith) }

-- a cut
pub cut_dark : (ls : List Line) (ds : List Bool) (p : Power) → is_on p ≡ false → Cuts (meaning_of ls ds p) (meaning_of ls ds p)
cut_dark ls ds p o = record { count = refl; dark = λ _. refl; done = λ q. absurd (grind arith) }

pub cut_done : (ls ls' : List Line) (ds ds' : List Bool) (p : Power) → is_on p ≡ true → Cut (meaning_of ls ds p) (meaning_of ls' ds' off) → Cuts (meaning_of ls ds p) (meaning_of ls' ds' off)
cut_done ls ls' ds ds' p o k = record { count = k.count; dark = λ q. absurd (grind arith); done = λ _. k }
