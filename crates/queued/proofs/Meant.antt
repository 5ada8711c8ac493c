-- What the calls of queued memory do to what its parts mean.
use Rattle.std.proofs.Common.{◌≡◌, ℕ, ◌-◌, ◌/◌, ◌<◌, ◌≤◌, Bool, true, false, cond, not, eqb, ◌≢◌, ◌⊎◌, List, [], ◌∷◌, ◌++◌, map, length, get_or, take, drop, set, Some, None, Option, is_some, ok_or, Ok, Err, Result, unwrap_or, sym, refl, ap, ◌∙◌, inl, inr, arith, ne_eqb}
use Rattle.std.specs.List.{AllByRecursion as All}
use Rattle.std.specs.Option.{option_map, option_to_list}
use Rattle.std.proofs.ByRecursion.{All-take}
use Rattle.std.proofs.lemmas.List.{get_or_past}
use Rattle.std.proofs.lemmas.List.Folds.{list_any-append}
use Rattle.std.proofs.lemmas.List.FromFn.{length-map-range_with_len}
use Rattle.std.proofs.lemmas.Bool.{cases_lt, not-true}
use Rattle.lines.specs.Lines.{Line, count_of, line_of, line_at, lines_of, rest_of, counted, with_line}
use Rattle.lines.proofs.Rows.{counted_at, lines_length, lines_whole, line_at_lem, line_err, line_ok}
use Rattle.memory.specs.declared.fault.MemoryFault.{MemoryFault}
use Rattle.memory.specs.declared.fault.MemoryFault.TheVariants.{NoSuchLine, NoPower, Unreadable}
use Rattle.memory.specs.declared.fault.Operation.TheVariants.{Write, Fence}
use Rattle.memory.specs.Power.{on, is_on, left_in, suffices, spent}
use Rattle.memory.specs.Meaning.{content_at, Cut, Cuts, Reads, Writes, Fences}
use Rattle.memory.proofs.Ways.{read_missing, read_dark, read_done, write_missing, write_dark, write_lost, write_done, by_power, loosened_other, fence_dark, fence_lost, fence_done, cut_dark, cut_done}
use Rattle.queued.specs.declared.slot.Slot.{Slot}
use Rattle.queued.specs.declared.running.Running.{Running}
use Rattle.queued.specs.declared.Queued.{Queued}
use Rattle.queued.specs.Slots.{slot, is_queued, newest, renewed}
use Rattle.queued.specs.Queue.{entries_in}
use Rattle.queued.specs.Below.{moved, cut_down}
use Rattle.queued.specs.Queued.{Parts, parts_of, meaning_in, meant, darkened, renewing, entering, entered, drained, operated, after_fence, after_cut}
use Rattle.queued.specs.Sound.{Full, overlaid_length, overlaid_whole, none_marked}
use Rattle.queued.proofs.Entries.{queued_drop, queued_renewed}
use Rattle.queued.proofs.Overlaid.{overlaid_none, overlaid_other, overlaid_newest, moved_length, moved_lines, cut_length, cut_rest, cut_other, overlaid_renewed, overlaid_entered}

-- which of the first n lines are durable
abbrev marks : List Slot → ℕ → List Bool
marks es n = counted (λ l. not (is_queued es l)) n

-- a durable line is not queued, and a line that is not queued is durable
marked_out : (es : List Slot) (n k : ℕ) → k < n → get_or (marks es n) k true ≡ true → is_queued es k ≡ false
marked_out es n k h e = not-true (is_queued es k) (sym (counted_at (λ l. not (is_queued es l)) n k true h) ∙ e)

marked_in : (es : List Slot) (n k : ℕ) → (k < n → is_queued es k ≡ false) → get_or (marks es n) k true ≡ true
marked_in es n k out = go (cases_lt k n)
  where
    go : (k < n) ⊎ (n ≤ k) → get_or (marks es n) k true ≡ true
    go (inl h) = counted_at (λ l. not (is_queued es l)) n k true h ∙ ap not (out h)
    go (inr h) = get_or_past (marks es n) k true (omega (arith, length-map-range_with_len (λ l. not (is_queued es l)) 0 n))

-- from one queue to another under which fewer lines wait, but for line l
marked_on : (es fs : List Slot) (n l : ℕ) → ((k : ℕ) → k ≢ l → is_queued es k ≡ false → is_queued fs k ≡ false) → (k : ℕ) → (k ≡ l → ⊥) → get_or (marks es n) k true ≡ true → get_or (marks fs n) k true ≡ true
marked_on es fs n l fewer k o e = marked_in fs n k (λ h. fewer k o (marked_out es n k h e))

pub count_of_lem : (s : Parts) → length (meaning_in s).lines ≡ count_of s.bytes
count_of_lem s = overlaid_length (lines_of s.bytes) s.queue ∙ lines_length s.bytes

-- a read: no such line, no power, or the newest entry, else what lies below
module _ (s : Parts) (l : ℕ) where
  pub read_none : (f : MemoryFault) → ok_or (line_at s.bytes l) (NoSuchLine l) ≡ Err f → Reads (meaning_in s) l (Err f)
  read_none f e =
      let missing = line_err s.bytes l (NoSuchLine l) f e in
      rw missing.1 (read_missing (meaning_in s).lines (meaning_in s).durable s.power l (omega (arith, missing.0, lines_length s.bytes, count_of_lem s)))

  module _ (x : Line) (e : ok_or (line_at s.bytes l) (NoSuchLine l) ≡ Ok x) where
    there : (l < count_of s.bytes) × (x ≡ line_of s.bytes l)
    there = line_ok s.bytes l (NoSuchLine l) x e

    pub read_off : is_on s.power ≡ false → Reads (meaning_in s) l (Err (Unreadable l))
    read_off o =
        read_dark (meaning_in s).lines (meaning_in s).durable s.power l (omega (arith, there.0, count_of_lem s)) o

    read_on : (y : Line) → is_on s.power ≡ true → y ≡ unwrap_or (newest s.queue l) x → Reads (meaning_in s) l (Ok y)
    read_on y o is =
        let below : get_or (lines_of s.bytes) l [] ≡ x = line_at_lem s.bytes l [] there.0 ∙ sym there.1 in
        read_done (meaning_in s).lines (meaning_in s).durable s.power l y (omega (arith, there.0, count_of_lem s)) o
        (is ∙ (ap (unwrap_or (newest s.queue l)) (sym below) ∙ sym (overlaid_newest (lines_of s.bytes) s.queue l (omega (arith, there.0, lines_length s.bytes)))))

-- a queued line is not durable, nor is the line at whose write power goes; the cut keeps all others
cut_parts : (s : Parts) (ds : List Bool) → All Full s.queue → ((k : ℕ) → k < count_of s.bytes → get_or ds k true ≡ true → is_queued s.queue k ≡ false) → Cut (record { lines = (meaning_in s).lines; durable = ds; on = is_on s.power; left = left_in s.power }) (meaning_in (darkened s))
cut_parts s ds full out =
    let same : length (cut_down s.choice 0 s.bytes s.queue) ≡ length s.bytes = cut_length s.choice 0 s.bytes s.queue full in
    let count : length (meaning_in (darkened s)).lines ≡ length (meaning_in s).lines = count_of_lem (darkened s) ∙ (ap (λ (n : ℕ). n / 64) same ∙ sym (count_of_lem s)) in
    record {
      count = count;
      kept = λ k d. kept k d (cases_lt k (count_of s.bytes));
      whole = λ k h. overlaid_whole (lines_of (cut_down s.choice 0 s.bytes s.queue)) [] tt (lines_whole (cut_down s.choice 0 s.bytes s.queue)) k (omega arith);
      safe = none_marked (count_of (cut_down s.choice 0 s.bytes s.queue));
      off = refl;
      none = refl;
    }
  where
    kept : (k : ℕ) → get_or ds k true ≡ true → (k < count_of s.bytes) ⊎ (count_of s.bytes ≤ k) → content_at (meaning_in (darkened s)) k ≡ content_at (meaning_in s) k
    kept k d (inl h) =
        overlaid_other (lines_of (cut_down s.choice 0 s.bytes s.queue)) [] k refl
        ∙ (cut_other s.choice 0 s.bytes s.queue k full (out k h d) ∙ sym (overlaid_other (lines_of s.bytes) s.queue k (out k h d)))
    kept k d (inr h) =
        let long : length (cut_down s.choice 0 s.bytes s.queue) ≡ length s.bytes = cut_length s.choice 0 s.bytes s.queue full in
        let past : length (meaning_in (darkened s)).lines ≤ k = omega (arith, count_of_lem (darkened s), ap (λ (n : ℕ). n / 64) long) in
        get_or_past (meaning_in (darkened s)).lines k [] past
        ∙ sym (get_or_past (meaning_in s).lines k [] (omega (arith, count_of_lem s)))

-- after the write of line l no other line waits that did not wait before
fewer_renewed : (l : ℕ) (c : Line) (es : List Slot) (k : ℕ) → k ≢ l → is_queued es k ≡ false → is_queued (map (renewed l c) es) k ≡ false
fewer_renewed l c es k o e = queued_renewed l c es k ∙ e

fewer_entered : (l : ℕ) (c : Line) (es : List Slot) (n k : ℕ) → k ≢ l → is_queued es k ≡ false → is_queued (drop n es ++ (slot l c ∷ [])) k ≡ false
fewer_entered l c es n k o e =
    list_any-append (λ e. eqb e.line k) (drop n es) (slot l c ∷ [])
    ∙ rw (queued_drop n es k e, ne_eqb l k (λ q. o (sym q))) refl

-- power after an operation that completes
abbrev pub paid : Parts → Parts
paid s = record s { power = spent s.power }

-- a write to a line that is there
module _ (s : Parts) (full : All Full s.queue) (l : ℕ) (c : Line) (there : l < count_of s.bytes) where
  low : l < length (meaning_in s).lines
  low = omega (arith, count_of_lem s)

  loosened_out : (k : ℕ) → k < count_of s.bytes → get_or (set (meaning_in s).durable l false) k true ≡ true → is_queued s.queue k ≡ false
  loosened_out k h d =
      let long : length (meaning_in s).durable ≡ count_of s.bytes = length-map-range_with_len (λ j. not (is_queued s.queue j)) 0 (count_of s.bytes) in
      marked_out s.queue (count_of s.bytes) k h (loosened_other (meaning_in s).durable l k (omega arith) d).1

  goes_write : is_on s.power ≡ true → suffices s.power ≡ false → Writes (meaning_in s) l c (Err (NoPower (Write l))) (meaning_in (darkened s))
  goes_write o n =
      write_lost (meaning_in s).lines (meaning_in (darkened s)).lines (meaning_in s).durable (meaning_in (darkened s)).durable s.power l c o n low
      (cut_parts s (set (meaning_in s).durable l false) full loosened_out)

  on_write : suffices s.power ≡ true → Writes (meaning_in s) l c (Ok tt) (meaning_in (entered l c (paid s)))
  on_write o = go (is_queued s.queue l) refl
    where
      go : (b : Bool) → is_queued s.queue l ≡ b → Writes (meaning_in s) l c (Ok tt) (meaning_in (cond b (renewing l c (paid s)) (entering l c (paid s))))
      go true q =
          write_done (meaning_in s).lines (meaning_in (renewing l c (paid s))).lines (meaning_in s).durable (meaning_in (renewing l c (paid s))).durable s.power l c o low
          (overlaid_renewed l c (lines_of s.bytes) s.queue q)
          (marked_on s.queue (map (renewed l c) s.queue) (count_of s.bytes) l (fewer_renewed l c s.queue))
      go false q =
          let n : ℕ = length s.queue - 15 in
          let long : count_of (moved s.bytes (take n s.queue)) ≡ count_of s.bytes = ap (λ (k : ℕ). k / 64) (moved_length s.bytes (take n s.queue) (All-take Full n s.queue full)) in
          write_done (meaning_in s).lines (meaning_in (entering l c (paid s))).lines (meaning_in s).durable (meaning_in (entering l c (paid s))).durable s.power l c o low
          (overlaid_entered s.bytes s.queue n l c full)
          (λ k p d. rw long (marked_on s.queue (drop n s.queue ++ (slot l c ∷ [])) (count_of s.bytes) l (fewer_entered l c s.queue n) k p d))

  writes_in : Writes (meaning_in s) l c (cond (suffices s.power) (Ok tt) (Err (NoPower (Write l)))) (meaning_in (operated (entered l c) s))
  writes_in =
      by_power s.power (λ o n. Writes (meaning_in s) l c (cond n (Ok tt) (Err (NoPower (Write l)))) (meaning_in (cond o (cond n (entered l c (paid s)) (darkened s)) s)))
      on_write goes_write (λ o. write_dark (meaning_in s).lines (meaning_in s).durable s.power l c o low)

module _ (s : Parts) (l : ℕ) (c : Line) where
  pub write_none : (f : MemoryFault) → ok_or (line_at s.bytes l) (NoSuchLine l) ≡ Err f → Writes (meaning_in s) l c (Err f) (meaning_in s)
  write_none f e =
      let missing = line_err s.bytes l (NoSuchLine l) f e in
      rw missing.1 (write_missing (meaning_in s).lines (meaning_in s).durable s.power l c (omega (arith, missing.0, lines_length s.bytes, count_of_lem s)))

  pub wrote_in : All Full s.queue → (x : Line) → ok_or (line_at s.bytes l) (NoSuchLine l) ≡ Ok x → (r : Result Unit MemoryFault) (s' : Parts) → r ≡ cond (suffices s.power) (Ok tt) (Err (NoPower (Write l))) → s' ≡ operated (entered l c) s → Writes (meaning_in s) l c r (meaning_in s')
  wrote_in full x e r s' a b = rw (a, b) (writes_in s full l c (line_ok s.bytes l (NoSuchLine l) x e).0)

-- a cut and a fence
module _ (s : Parts) (full : All Full s.queue) where
  cut_here : Cut (meaning_in s) (meaning_in (darkened s))
  cut_here = cut_parts s (meaning_in s).durable full (λ k h d. marked_out s.queue (count_of s.bytes) k h d)

  cuts_in : Cuts (meaning_in s) (meaning_in (after_cut s))
  cuts_in = go (is_on s.power) refl
    where
      go : (o : Bool) → is_on s.power ≡ o → Cuts (meaning_in s) (meaning_in (cond o (darkened s) s))
      go true o =
          cut_done (meaning_in s).lines (meaning_in (darkened s)).lines (meaning_in s).durable (meaning_in (darkened s)).durable s.power o cut_here
      go false o = cut_dark (meaning_in s).lines (meaning_in s).durable s.power o

  fences_in : Fences (meaning_in s) (cond (suffices s.power) (Ok tt) (Err (NoPower Fence))) (meaning_in (after_fence s))
  fences_in =
      by_power s.power (λ o n. Fences (meaning_in s) (cond n (Ok tt) (Err (NoPower Fence))) (meaning_in (cond o (cond n (drained (paid s)) (darkened s)) s)))
      (λ n. fence_done (meaning_in s).lines (meaning_in (drained (paid s))).lines (meaning_in s).durable (meaning_in (drained (paid s))).durable s.power n
      (overlaid_none (lines_of (moved s.bytes s.queue)) ∙ moved_lines s.bytes s.queue full)
      (none_marked (count_of (moved s.bytes s.queue))))
      (λ o n. fence_lost (meaning_in s).lines (meaning_in (darkened s)).lines (meaning_in s).durable (meaning_in (darkened s)).durable s.power o n cut_here)
      (λ o. fence_dark (meaning_in s).lines (meaning_in s).durable s.power o)

  pub fenced_in : (r : Result Unit MemoryFault) (s' : Parts) → r ≡ cond (suffices s.power) (Ok tt) (Err (NoPower Fence)) → s' ≡ after_fence s → Fences (meaning_in s) r (meaning_in s')
  fenced_in r s' a b = rw (a, b) fences_in

  pub cut_in : (s' : Parts) → s' ≡ after_cut s → Cuts (meaning_in s) (meaning_in s')
  cut_in s' e = rw e cuts_in

  rest_cut : rest_of (after_cut s).bytes ≡ rest_of s.bytes
  rest_cut = go (is_on s.power)
    where
      go : (o : Bool) → rest_of (cond o (darkened s) s).bytes ≡ rest_of s.bytes
      go true = cut_rest s.choice 0 s.bytes s.queue full
      go false = refl

  pub cut_keeps : (s' : Parts) → s' ≡ after_cut s → rest_of s'.bytes ≡ rest_of s.bytes
  cut_keeps s' e = rw e rest_cut

-- what a missing value is answered by
pub fault_of : {X : Type 0} (o : Option X) (d f : MemoryFault) → Err f ≡ ok_or o d → f ≡ d
fault_of None d f e = cc
fault_of (Some x) d f e = absurd (cc)

-- the calls' steps, from the fields of a memory
module _ (q : Queued) where
  pub read_by : (r : Running) (l : ℕ) (x y : Line) (o : Option Line) → q.running ≡ Some r → ok_or (line_at q.bytes.now l) (NoSuchLine l) ≡ Ok x → o ≡ newest (entries_in r.queue) l → y ≡ unwrap_or o x → Reads (meant q) l (Ok y)
  read_by r l x y o is e found given = read_on (parts_of q) l x e y (rw is refl) (rw is (given ∙ ap (λ p. unwrap_or p x) found))

  pub dark_from : is_some q.running ≡ false → is_on (parts_of q).power ≡ false
  dark_from = go q.running
    where
      go : (o : Option Running) → is_some o ≡ false → is_some (option_map (λ r. r.left) o) ≡ false
      go None e = refl
      go (Some r) e = absurd (grind arith)

  pub undrained : q.running ≡ None → parts_of q ≡ drained (parts_of q)
  unfolding moved
  undrained e = rw e refl

  -- the queue takes a write, and what comes out moves down
  pub take_parts : (r : Running) (l : ℕ) (c : Line) (hs : List Slot) (o : Option Slot) (bs : List ℕ) → q.running ≡ Some r → option_to_list o ≡ cond (is_queued (entries_in r.queue) l) [] (take (length (entries_in r.queue) - 15) (entries_in r.queue)) → hs ≡ cond (is_queued (entries_in r.queue) l) (map (renewed l c) (entries_in r.queue)) (drop (length (entries_in r.queue) - 15) (entries_in r.queue) ++ (slot l c ∷ [])) → bs ≡ moved q.bytes.now (option_to_list o) → ◌≡◌ {A = Parts} (record { bytes = bs; choice = q.choice; queue = hs; power = on r.left }) (entered l c (parts_of q))
  unfolding moved
  take_parts r l c hs o bs is out after b = rw (is, after, b, out) (go (is_queued (entries_in r.queue) l))
    where
      at : Parts
      at = record { bytes = q.bytes.now; choice = q.choice; queue = entries_in r.queue; power = on r.left }

      go : (b : Bool) → ◌≡◌ {A = Parts} (record { bytes = moved q.bytes.now (cond b [] (take (length (entries_in r.queue) - 15) (entries_in r.queue))); choice = q.choice; queue = cond b (map (renewed l c) (entries_in r.queue)) (drop (length (entries_in r.queue) - 15) (entries_in r.queue) ++ (slot l c ∷ [])); power = on r.left }) (cond b (renewing l c at) (entering l c at))
      go true = refl
      go false = refl

pub moved_one : (bs : List ℕ) (e : Slot) → with_line bs e.line e.content ≡ moved bs (e ∷ [])
unfolding moved
moved_one bs e = refl

pub moved_none : (bs : List ℕ) → bs ≡ moved bs []
unfolding moved
moved_none bs = refl
