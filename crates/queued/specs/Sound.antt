-- Queued memory is sound at every moment: the proof of the law, which has to stand here.
use Rattle.std.specs.Prelude.{◌≡◌, ℕ, ◌<◌, ◌≤◌, true, false, not, ◌⊎◌, List, [], ◌∷◌, length, replicate, Some, None, Option, ◌≢◌, slice_index_or, slice_set, refl}
use Rattle.std.specs.Option.{option_map_or, option_map}
use Rattle.std.specs.List.{AllByRecursion}
use Rattle.std.proofs.Common.{sym, ◌∙◌, inl, inr, arith, length-set}
use Rattle.std.proofs.ByRecursion.{All-from_get_or}
use Rattle.std.proofs.lemmas.List.FromFn.{length-map-range_with_len}
use Rattle.std.proofs.lemmas.Bool.{cases_eq, cases_lt}
use Rattle.std.proofs.lemmas.List.{get_or-set_same, get_or-set_other, get_or_past}
use Rattle.lines.specs.Lines.{Line, count_of, lines_of, counted}
use Rattle.lines.proofs.Rows.{counted_at, lines_length, lines_whole}
use Rattle.memory.specs.Power.{is_on}
use Rattle.memory.specs.Meaning.{Sound}
use Rattle.memory.proofs.Ways.{sound_kind}
use Rattle.queued.specs.declared.slot.Slot.{Slot}
use Rattle.queued.specs.declared.running.Running.{Running}
use Rattle.queued.specs.declared.Queued.{Queued}
use Rattle.queued.specs.Slots.{slot, Whole, is_queued}
use Rattle.queued.specs.Queue.{entries_in}
use Rattle.queued.specs.Below.{overlaid}
use Rattle.queued.specs.Queued.{Parts, parts_of, meaning_in, meant}

abbrev pub Full : Slot → Type 0
Full s = length s.content ≡ 64

pub all_of_whole : (es : List Slot) → Whole es → AllByRecursion Full es
all_of_whole es w = All-from_get_or Full es (slot 0 (replicate 64 0)) (λ i _. w i)

-- the queue's entries are whole, with power on or off
pub full_of : (q : Queued) → AllByRecursion Full (parts_of q).queue
full_of q = go q.running
  where
    go : (o : Option Running) → AllByRecursion Full (option_map_or (λ r. entries_in r.queue) o [])
    go None = tt
    go (Some r) = all_of_whole r.queue.slots.items r.queue.whole

pub overlaid_length : (ls : List Line) (es : List Slot) → length (overlaid ls es) ≡ length ls
unfolding overlaid
overlaid_length ls [] = refl
overlaid_length ls (e ∷ es) = overlaid_length (slice_set ls e.line e.content) es ∙ length-set ls e.line e.content

-- every line is 64 bytes
abbrev Lines : List Line → Type 0
Lines ls = (l : ℕ) → l < length ls → length (slice_index_or ls l []) ≡ 64

set_lines : (ls : List Line) (i : ℕ) (c : Line) → length c ≡ 64 → Lines ls → Lines (slice_set ls i c)
set_lines ls i c e w l h = go (cases_eq l i)
  where
    go : (l ≡ i) ⊎ (l ≢ i) → length (slice_index_or (slice_set ls i c) l []) ≡ 64
    go (inl q) = rw (q, get_or-set_same ls i c [] (omega (arith, length-set ls i c))) e
    go (inr n) = rw (get_or-set_other ls i l c [] n) (w l (omega (arith, length-set ls i c)))

pub overlaid_whole : (ls : List Line) (es : List Slot) → AllByRecursion Full es → ((l : ℕ) → l < length ls → length (slice_index_or ls l []) ≡ 64) → (l : ℕ) → l < length (overlaid ls es) → length (slice_index_or (overlaid ls es) l []) ≡ 64
unfolding overlaid
overlaid_whole ls [] a w = w
overlaid_whole ls (e ∷ es) a w = overlaid_whole (slice_set ls e.line e.content) es a.1 (set_lines ls e.line e.content a.0 w)

-- with nothing queued every line is durable
pub none_marked : (n k : ℕ) → slice_index_or (counted (λ l. not (is_queued [] l)) n) k true ≡ true
none_marked n k = go (cases_lt k n)
  where
    go : (k < n) ⊎ (n ≤ k) → slice_index_or (counted (λ l. not (is_queued [] l)) n) k true ≡ true
    go (inl h) = counted_at (λ l. not (is_queued [] l)) n k true h
    go (inr h) = get_or_past (counted (λ l. not (is_queued [] l)) n) k true (omega (arith, length-map-range_with_len (λ l. not (is_queued [] l)) 0 n))

sound_parts : (s : Parts) → AllByRecursion Full s.queue → (is_on s.power ≡ false → s.queue ≡ []) → Sound (meaning_in s)
sound_parts s full idle =
    sound_kind (overlaid (lines_of s.bytes) s.queue) (counted (λ l. not (is_queued s.queue l)) (count_of s.bytes)) s.power
    (length-map-range_with_len (λ l. not (is_queued s.queue l)) 0 (count_of s.bytes) ∙ sym (overlaid_length (lines_of s.bytes) s.queue ∙ lines_length s.bytes))
    (overlaid_whole (lines_of s.bytes) s.queue full (lines_whole s.bytes))
    (λ o l. rw (idle o) (none_marked (count_of s.bytes) l))

pub always_sound : (q : Queued) → Sound (meant q)
always_sound q = sound_parts (parts_of q) (full_of q) (idle q.running)
  where
    idle : (o : Option Running) → is_on (record { left = option_map (λ r. r.left) o }) ≡ false → option_map_or (λ r. entries_in r.queue) o [] ≡ []
    idle None e = refl
    idle (Some r) e = absurd (grind arith)
