-- Undoing the records of a core, n of them left.
use Rattle.std.proofs.Common.{◌≡◌, ℕ, zero, suc, ◌-◌, ◌^◌, ◌<◌, ◌≤◌, true, false, List, [], ◌∷◌, ◌++◌, length, get_or, set, replicate, Some, None, Ok, Err, Option, Result, sym, refl, ap, ◌∙◌, subst, arith}
use Rattle.std.proofs.lemmas.List.{set-get_or}
use Rattle.std.proofs.lemmas.Bool.{cond-true, cond-false, eq-eqb, ne_eqb, both_ways, leb-true, and_parts}
use Rattle.memory.specs.Meaning.{Line, content_at}
use Rattle.layout.specs.declared.open.OpenRecord.{OpenRecord}
use Rattle.layout.specs.declared.places.RecordId.{RecordId}
use Rattle.layout.specs.declared.sizes.Sizes.{Sizes}
use Rattle.layout.specs.Block.{empty, entry_at, records_of}
use Rattle.layout.specs.Sizes.{lines_needed}
use Rattle.undo_log.specs.declared.fault.Place.{Place}
use Rattle.undo_log.specs.declared.fault.Place.TheVariants.{Record}
use Rattle.undo_log.specs.declared.fault.LogFault.{LogFault}
use Rattle.undo_log.specs.Closing.{Notes, State, state_of, noting, blank_notes}
use Rattle.undo_log.specs.Steps.{World, Step, fence, enter, Does, Ran}
use Rattle.recovery.specs.declared.walk.Found.{Found}
use Rattle.recovery.specs.Walk.{Walk, stops, finds, adding, walk_of, found}
use Rattle.recovery.specs.declared.walk.Cursor.{Cursor}
use Rattle.recovery.specs.Cursor.{newest, to_come, Next}
use Rattle.recovery.specs.Check.{ready}
use Rattle.recovery.specs.Undo.{undoing, undoing_all, undone_by, undoing_core, undoing_record_in, undoing_core_in}
use Rattle.recovery.specs.Kept.{Kept, Emptied, Undoable}
use Rattle.recovery.proofs.Leads.{Leads, leads_none, leads_on, leads_off, leads_same}
use Rattle.recovery.proofs.Headers.{header_there}
use Rattle.recovery.proofs.Walks.{Onward, onward, ends, fails, not_found}
use Rattle.recovery.proofs.Same.{header_same, undoing_same}
use Rattle.header.proofs.Good.{sensible_from_read}

pub ready_on : (s : State) → ready s ≡ true → s.world.memory.on ≡ true
ready_on s h = (and_parts _ _ h).0

pub ready_lines : (s : State) → ready s ≡ true → lines_needed s.notes.sizes ≤ length s.world.memory.lines
ready_lines s h = leb-true _ _ (and_parts _ _ h).1

found_adding : (x : Found) (w : Walk) → found (adding x w) ≡ found w
found_adding x (stops b r) = refl
found_adding x (finds fs) = refl

undone_adding : (s : Sizes) (f : ℕ → Line) (k : ℕ) (p : Place) (x : Found) (w : Walk) → found w ≡ true
    → undone_by s f k p (adding x w) ≡ undoing s f k x x.header.count ++ undone_by s f k (Record k x.id) w
unfolding undoing_all
undone_adding s f k p x (stops b r) t = absurd (both_ways false refl t)
undone_adding s f k p x (finds fs) t = refl

-- a record that the walk finds can be undone
undoable_some : (s : State) (c c' : Cursor) (x : Found) → s.world.memory.on ≡ true → lines_needed s.notes.sizes ≤ length s.world.memory.lines → c.left < 2 ^ 32
    → Next s c (Ok (Some x)) c' → Undoable s x
undoable_some s c c' x on room small n =
    let t = header_there s.notes.sizes (content_at s.world.memory) c.core c.held (c.left - 1) c.id.bucket c.id.slot x.header n.2 in
    let y = sensible_from_read s.notes.sizes _ x.header (omega (arith, t.number)) t.good in
    let b : x.id.bucket ≡ c.id.bucket = ap (λ (i : RecordId). i.bucket) n.1 in
    let r : x.id.slot ≡ c.id.slot = ap (λ (i : RecordId). i.slot) n.1 in
    record { on = on; bucket = omega (arith, t.bucket); slot = omega (arith, t.slot); lines = room; few = y.most; used = y.used }

-- in a log v that is as s was, which was ready
pub undoable : (s v : State) (c c' : Cursor) (o : Option Found) (x : Found) → ready s ≡ true → Kept s v → c.left < 2 ^ 32 → o ≡ Some x → Next v c (Ok o) c' → Undoable v x
undoable s v c c' o x able a small e n =
    let z = ap (λ (n : Notes). lines_needed n.sizes) a.notes in
    undoable_some v c c' x a.on (omega (arith, ready_lines s able, a.count)) small (subst (λ (o : Option Found). Next v c (Ok o) c') e n)

-- what is left of the steps of a core: all before the first record, and later those after record i, the last undone
abbrev pub RecordsLeft : State → ℕ → Cursor → Option RecordId → World → Type 0
RecordsLeft s k c None v = (c ≡ newest s k) × (v ≡ s.world)
RecordsLeft s k c (Some i) v =
    Leads (undoing_core_in s k) s.world (undone_by s.notes.sizes (content_at s.world.memory) k (Record k i) (to_come s c)) v

begins_some : (s : State) (k : ℕ) (c : Cursor) → c ≡ newest s k → 0 < c.left → RecordsLeft s k c (Some c.id) s.world
unfolding undoing_core walk_of
begins_some s k c p some =
    let e = entry_at s.world.block k in
    leads_same _ _ _ s.world s.world
    (cond-false _ _ _ (ne_eqb (records_of s.notes.sizes e) 0 (λ z. let l = ap (λ (d : Cursor). d.left) p in omega arith))
    ∙ ap (λ (d : Cursor). undone_by s.notes.sizes (content_at s.world.memory) k (Record k d.id) (to_come s d)) (sym p)) (leads_none _ s.world)

-- while records are left
some_left : (s : State) (k : ℕ) (c : Cursor) (o : Option RecordId) (v : World) → 0 < c.left → RecordsLeft s k c o v → (i : RecordId) × RecordsLeft s k c (Some i) v
some_left s k c None v g inv = (c.id, subst (λ (v : World). RecordsLeft s k c (Some c.id) v) (sym inv.1) (begins_some s k c inv.0 g))
some_left s k c (Some i) v g inv = (i, inv)

-- a core without records
none_left : (s : State) (k : ℕ) (c : Cursor) (v : World) → c.left ≡ 0 → RecordsLeft s k c None v → Ran (undoing_core_in s k) s.world (Ok tt) v
unfolding undoing_core
none_left s k c v z inv =
    subst (λ (ss : List Step). Ran ss s.world (Ok tt) v)
    (sym (cond-true _ [] _ (eq-eqb (records_of s.notes.sizes (entry_at s.world.block k)) 0 (sym (ap (λ (d : Cursor). d.left) inv.0) ∙ z)))) (refl, inv.1)

last_steps : (s : Sizes) (f : ℕ → Line) (k : ℕ) (p : Place) (w : Walk) → w ≡ finds [] → undone_by s f k p w ≡ fence p ∷ enter k empty ∷ []
unfolding undoing_all
last_steps s f k p w e = ap (undone_by s f k p) e

-- s is the log at the start and v the log now, which is as s was; in it the walk goes on from c to c' and answers o
module _ (s v : State) (a : Kept s v) (c c' : Cursor) where
  next_same : (q : Result (Option Found) LogFault) → Next (state_of s.notes v.world) c q c' → Next s c q c'
  next_same (Ok None) n = n
  next_same (Ok (Some x)) n = (n.0, n.1, n.2 ∙ header_same s.notes.sizes _ _ a.log c.core c.held (c.left - 1) c.id.bucket c.id.slot, n.3)
  next_same (Err e) n = (n.0, n.1 ∙ header_same s.notes.sizes _ _ a.log c.core c.held (c.left - 1) c.id.bucket c.id.slot, n.2)

  next_seen : (q : Result (Option Found) LogFault) → Next v c q c' → Next s c q c'
  next_seen q n = next_same q (subst (λ (n : Notes). Next (state_of n v.world) c q c') a.notes n)

  -- the check has passed every header
  pub not_fails : (k : ℕ) (e : LogFault) → c.core ≡ k → found (to_come s c) ≡ true → Next v c (Err e) c' → ⊥
  not_fails k e q t n = not_found k (to_come s c) e (fails s c c' k e q (next_seen (Err e) n)) t

  module _ (k : ℕ) (o : Option Found) (n : Next v c (Ok o) c') (last : Option RecordId) (inv : RecordsLeft s k c last v.world) where
    -- by record x
    module _ (x : Found) (e : o ≡ Some x) (t : found (to_come s c) ≡ true) where
      pub goes : Onward s c x c'
      goes = onward s c c' o x e (next_seen (Ok o) n)

      pub found_more : found (to_come s c') ≡ true
      found_more = sym (found_adding x (to_come s c')) ∙ ap found (sym goes.walk) ∙ t

      record_steps : (p : Place) → undone_by s.notes.sizes (content_at s.world.memory) k p (to_come s c)
          ≡ undoing_record_in v k x ++ undone_by s.notes.sizes (content_at s.world.memory) k (Record k x.id) (to_come s c')
      record_steps p =
          ap (undone_by s.notes.sizes (content_at s.world.memory) k p) goes.walk
          ∙ undone_adding s.notes.sizes (content_at s.world.memory) k p x (to_come s c') found_more
          ∙ ap (λ (ss : List Step). ss ++ undone_by s.notes.sizes (content_at s.world.memory) k (Record k x.id) (to_come s c'))
          (sym (ap (λ (n : Notes). undoing n.sizes (content_at v.world.memory) k x x.header.count) a.notes ∙ undoing_same s.notes.sizes _ _ a.log k x x.header.count))

      pub record_more : (u : World) → Ran (undoing_record_in v k x) v.world (Ok tt) u → RecordsLeft s k c' (Some x.id) u
      record_more u r =
          let l = some_left s k c last v.world goes.some inv in
          leads_on _ _ _ s.world v.world u r (leads_same _ _ _ s.world v.world (record_steps (Record k l.0)) l.1)

      pub record_stop : (u : World) (e : LogFault) → Ran (undoing_record_in v k x) v.world (Err e) u → Ran (undoing_core_in s k) s.world (Err e) u
      record_stop u e r =
          let l = some_left s k c last v.world goes.some inv in
          leads_off _ _ _ s.world v.world u e r (leads_same _ _ _ s.world v.world (record_steps (Record k l.0)) l.1)

    -- to its end
    module _ (e : o ≡ None) where
      pub core_none : last ≡ None → Ran (undoing_core_in s k) s.world (Ok tt) v.world
      core_none z = none_left s k c v.world (ends s c c' o e (next_seen (Ok o) n)).0 (subst (λ (i : Option RecordId). RecordsLeft s k c i v.world) z inv)

      fence_left : (i : RecordId) → last ≡ Some i → Leads (undoing_core_in s k) s.world (fence (Record k i) ∷ enter k empty ∷ []) v.world
      fence_left i z =
          leads_same _ _ _ s.world v.world (last_steps _ _ k (Record k i) (to_come s c) (ends s c c' o e (next_seen (Ok o) n)).1)
          (subst (λ (i : Option RecordId). RecordsLeft s k c i v.world) z inv)

      pub core_end : (i : RecordId) (u z : World) → last ≡ Some i → Does (fence (Record k i)) v.world (Ok tt) u → Does (enter k empty) u (Ok tt) z
          → Ran (undoing_core_in s k) s.world (Ok tt) z
      core_end i u z l d f = fence_left i l (Ok tt) z (Ok tt, (u, (d, (Ok tt, (z, (f, (refl, refl)))))))

      pub core_unfenced : (i : RecordId) (u : World) (x : LogFault) → last ≡ Some i → Does (fence (Record k i)) v.world (Err x) u → Ran (undoing_core_in s k) s.world (Err x) u
      core_unfenced i u x l d = fence_left i l (Err x) u (Err x, (u, (d, (refl, refl))))

-- what a core's undoing leaves

pub emptied_none : (s v : State) (k : ℕ) → Kept s v → Emptied k s v
emptied_none s v k a = record { on = a.on; count = a.count; log = a.log; others = (entry_at s.world.block k, a.block ∙ sym (set-get_or s.world.block k _)) }

-- all places of a blank list are alike
pub get_or-blank : {A : Type 0} (n k : ℕ) (x : A) → get_or (replicate n x) k x ≡ x
get_or-blank zero k x = refl
get_or-blank (suc n) zero x = refl
get_or-blank (suc n) (suc k) x = get_or-blank n k x

set-blank : {A : Type 0} (n k : ℕ) (x : A) → set (replicate n x) k x ≡ replicate n x
set-blank n k x = ap (set (replicate n x) k) (sym (get_or-blank n k x)) ∙ set-get_or (replicate n x) k x

-- an emptied core of blank notes stays blank
pub blank_stays : (s : Sizes) (k : ℕ) → noting (blank_notes s) k None 255 ≡ blank_notes s
blank_stays s k =
    let p : set (replicate s.cores None) k None ≡ replicate s.cores None = set-blank {A = Option OpenRecord} s.cores k None in
    let q : set (replicate s.cores 255) k 255 ≡ replicate s.cores 255 = set-blank {A = ℕ} s.cores k 255 in
    ap (λ (os : List (Option OpenRecord)). record { sizes = s; opens = os; befores = set (replicate s.cores 255) k 255 }) p
    ∙ ap (λ (bs : List ℕ). record { sizes = s; opens = replicate s.cores None; befores = bs }) q
