-- What the calls of straight memory do to what its bytes mean.
use Rattle.std.proofs.Common.{◌≡◌, ℕ, ◌-◌, ◌<◌, true, false, cond, List, [], length, get_or, replicate, Some, None, Option, ok_or, Ok, Err, Result, sym, refl, ap, ◌∙◌, subst, arith, length-set}
use Rattle.std.proofs.lemmas.List.{length-replicate, get_or-set_other}
use Rattle.lines.specs.Lines.{Line, count_of, line_of, line_at, with_line, lines_of, torn}
use Rattle.lines.proofs.Rows.{lines_length, line_at_lem, lines_whole, line_length, line_err, line_ok, with_lines, torn_length}
use Rattle.memory.specs.declared.fault.MemoryFault.{MemoryFault}
use Rattle.memory.specs.declared.fault.MemoryFault.TheVariants.{NoSuchLine, NoPower, Unreadable}
use Rattle.memory.specs.declared.fault.Operation.TheVariants.{Write, Fence}
use Rattle.memory.specs.declared.power.Power.{Power}
use Rattle.memory.specs.Power.{off, on, is_on, left_in, suffices, spent, meaning_of}
use Rattle.memory.specs.Meaning.{Meaning, Cut, loosened, Cuts, Reads, Writes, Fences}
use Rattle.memory.proofs.Ways.{read_missing, read_dark, read_done, write_missing, write_dark, write_lost, write_done, by_power, loosened_other, off_from_dark, fence_dark, fence_lost, fence_done, cut_dark, cut_done}
use Rattle.straight.specs.Straight.{written}
use Rattle.straight.specs.Sound.{all_durable}

-- the meaning of bytes and a power supply
abbrev pub meaning_in : List ℕ → Power → Meaning
meaning_in bs p = meaning_of (lines_of bs) (replicate (count_of bs) true) p

-- power goes and the bytes stay
cut_in : (bs : List ℕ) (p : Power) → Cut (meaning_in bs p) (meaning_in bs off)
cut_in bs p =
    record {
      count = refl;
      kept = λ l d. refl;
      whole = λ l h. lines_whole bs l h;
      safe = all_durable (count_of bs);
      off = refl;
      none = refl;
    }

pub cuts_in : (bs : List ℕ) (p : Power) → Cuts (meaning_in bs p) (meaning_in bs off)
cuts_in bs p = go p.left
  where
    go : (o : Option ℕ) → Cuts (meaning_in bs (record { left = o })) (meaning_in bs off)
    go None = cut_dark (lines_of bs) (replicate (count_of bs) true) off refl
    go (Some n) = cut_done (lines_of bs) (lines_of bs) (replicate (count_of bs) true) (replicate (count_of bs) true) (on n) refl (cut_in bs (on n))

-- power goes at a write of line l, which then holds x
torn_in : (bs : List ℕ) (p : Power) (l : ℕ) (x : Line) → length x ≡ 64 → l < count_of bs → Cut (loosened (meaning_in bs p) l) (meaning_in (with_line bs l x) off)
torn_in bs p l x e h =
    record {
      count = ap length (with_lines bs l x (λ _. e)) ∙ length-set (lines_of bs) l x;
      kept = λ k d.
          let low : l < length (replicate (count_of bs) true) = omega (arith, length-replicate (count_of bs) true) in
          ap (λ (ls : List Line). get_or ls k []) (with_lines bs l x (λ _. e)) ∙ get_or-set_other (lines_of bs) l k x [] (loosened_other (replicate (count_of bs) true) l k low d).0;
      whole = λ k low. lines_whole (with_line bs l x) k (omega (arith, ap length (with_lines bs l x (λ _. e)), length-set (lines_of bs) l x));
      safe = all_durable (count_of (with_line bs l x));
      off = refl;
      none = refl;
    }

-- a read, where the line is missing and where it is there
module _ (bs : List ℕ) (p : Power) (l : ℕ) where
  pub read_none : (f : MemoryFault) → ok_or (line_at bs l) (NoSuchLine l) ≡ Err f → Reads (meaning_in bs p) l (Err f)
  read_none f e =
      let missing = line_err bs l (NoSuchLine l) f e in
      rw missing.1 (read_missing (lines_of bs) (replicate (count_of bs) true) p l missing.0)

  module _ (x : Line) (e : ok_or (line_at bs l) (NoSuchLine l) ≡ Ok x) where
    there : (l < count_of bs) × (x ≡ line_of bs l)
    there = line_ok bs l (NoSuchLine l) x e

    low : l < length (lines_of bs)
    low = omega (arith, there.0, lines_length bs)

    pub read_off : is_on p ≡ false → Reads (meaning_in bs p) l (Err (Unreadable l))
    read_off o = read_dark (lines_of bs) (replicate (count_of bs) true) p l low o

    pub read_on : is_on p ≡ true → Reads (meaning_in bs p) l (Ok x)
    read_on o = read_done (lines_of bs) (replicate (count_of bs) true) p l x low o (there.1 ∙ sym (line_at_lem bs l [] there.0))

-- a write
module _ (bs : List ℕ) (l : ℕ) (c : Line) (p : Power) where
  pub write_none : (f : MemoryFault) → ok_or (line_at bs l) (NoSuchLine l) ≡ Err f → Writes (meaning_in bs p) l c (Err f) (meaning_in bs p)
  write_none f e =
      let missing = line_err bs l (NoSuchLine l) f e in
      rw missing.1 (write_missing (lines_of bs) (replicate (count_of bs) true) p l c missing.0)

  module _ (w : length c ≡ 64) (there : l < count_of bs) where
    here : l < length (lines_of bs)
    here = omega (arith, lines_length bs)

    on_write : suffices p ≡ true → Writes (meaning_in bs p) l c (Ok tt) (meaning_in (with_line bs l c) (spent p))
    on_write s =
        write_done (lines_of bs) (lines_of (with_line bs l c)) (replicate (count_of bs) true) (replicate (count_of (with_line bs l c)) true) p l c s here (with_lines bs l c (λ _. w)) (λ k _ _. all_durable (count_of (with_line bs l c)) k)

    goes_write : is_on p ≡ true → suffices p ≡ false → Writes (meaning_in bs p) l c (Err (NoPower (Write l))) (meaning_in (with_line bs l (torn (line_of bs l) c)) off)
    goes_write o s =
        let long : length (torn (line_of bs l) c) ≡ 64 = torn_length (line_of bs l) c (line_length bs l there) w in
        write_lost (lines_of bs) (lines_of (with_line bs l (torn (line_of bs l) c))) (replicate (count_of bs) true) (replicate (count_of (with_line bs l (torn (line_of bs l) c))) true) p l c o s here (torn_in bs p l (torn (line_of bs l) c) long there)

    writes_in : Writes (meaning_in bs p) l c (cond (suffices p) (Ok tt) (Err (NoPower (Write l)))) (meaning_in (written p bs l c) (spent p))
    writes_in =
        by_power p (λ o s. Writes (meaning_in bs p) l c (cond s (Ok tt) (Err (NoPower (Write l)))) (meaning_in (cond o (with_line bs l (cond s c (torn (line_of bs l) c))) bs) (cond s (on (left_in p - 1)) off)))
        (λ s. rw s at (on_write s)) goes_write
        (λ o. subst (λ q. Writes (meaning_in bs p) l c (Err (NoPower (Write l))) (meaning_in bs q)) (off_from_dark p o) (write_dark (lines_of bs) (replicate (count_of bs) true) p l c o here))

  pub wrote_in : length c ≡ 64 → (x : Line) → ok_or (line_at bs l) (NoSuchLine l) ≡ Ok x → (r : Result Unit MemoryFault) (bs' : List ℕ) (p' : Power) → r ≡ cond (suffices p) (Ok tt) (Err (NoPower (Write l))) → bs' ≡ written p bs l c → p' ≡ spent p → Writes (meaning_in bs p) l c r (meaning_in bs' p')
  wrote_in w x e r bs' p' a b q = rw (a, b, q) (writes_in w (line_ok bs l (NoSuchLine l) x e).0)

-- a fence
pub fences_in : (bs : List ℕ) (p : Power) → Fences (meaning_in bs p) (cond (suffices p) (Ok tt) (Err (NoPower Fence))) (meaning_in bs (spent p))
fences_in bs p =
    by_power p (λ o s. Fences (meaning_in bs p) (cond s (Ok tt) (Err (NoPower Fence))) (meaning_in bs (cond s (on (left_in p - 1)) off)))
    (λ s. rw s at (fence_done (lines_of bs) (lines_of bs) (replicate (count_of bs) true) (replicate (count_of bs) true) p s refl (all_durable (count_of bs))))
    (λ o s. fence_lost (lines_of bs) (lines_of bs) (replicate (count_of bs) true) (replicate (count_of bs) true) p o s (cut_in bs p))
    (λ o. subst (λ q. Fences (meaning_in bs p) (Err (NoPower Fence)) (meaning_in bs q)) (off_from_dark p o) (fence_dark (lines_of bs) (replicate (count_of bs) true) p o))
