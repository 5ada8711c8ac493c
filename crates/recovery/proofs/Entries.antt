-- Undoing the entries of a record, i of them left.
use Rattle.std.proofs.Common.{◌≡◌, ℕ, zero, suc, ◌+◌, ◌-◌, ◌<◌, ◌≤◌, true, List, [], ◌∷◌, length, get_or, Ok, Err, refl, ap, ◌∙◌, arith, length-set}
use Rattle.std.proofs.lemmas.List.{get_or-set_other}
use Rattle.memory.specs.Meaning.{Line, content_at}
use Rattle.layout.specs.declared.sizes.Sizes.{Sizes}
use Rattle.layout.specs.Places.{entry_line}
use Rattle.layout.specs.Sizes.{data_lines_of}
use Rattle.undo_log.specs.declared.fault.Place.{Place}
use Rattle.undo_log.specs.declared.fault.Place.TheVariants.{Record}
use Rattle.undo_log.specs.declared.fault.LogFault.{LogFault}
use Rattle.undo_log.specs.Closing.{Notes, State}
use Rattle.undo_log.specs.Steps.{World, Step, write, Does, Ran}
use Rattle.recovery.specs.declared.walk.Found.{Found}
use Rattle.recovery.specs.Undo.{undoing, undoing_record_in}
use Rattle.recovery.specs.Kept.{Kept, Undoable}
use Rattle.recovery.proofs.Leads.{Leads, leads_more, leads_stop, leads_end, leads_same, wrote}

pub kept_all : (s : State) → s.world.memory.on ≡ true → Kept s s
kept_all s on = record { notes = refl; on = on; count = refl; log = λ l h. refl; block = refl }

pub kept_then : (s v u : State) → Kept s v → Kept v u → Kept s u
kept_then s v u a b =
    let e = ap (λ (n : Notes). data_lines_of n.sizes) a.notes in
    record {
      notes = b.notes ∙ a.notes;
      on = b.on;
      count = b.count ∙ a.count;
      log = λ l h. b.log l (omega arith) ∙ a.log l h;
      block = b.block ∙ a.block;
    }

-- a write to a data line
write_kept : (s v : State) (l : ℕ) (c : Line) (p : Place) → Does (write l c p) s.world (Ok tt) v.world → v.notes ≡ s.notes → s.world.memory.on ≡ true
    → l < data_lines_of s.notes.sizes → Kept s v
write_kept s v l c p d n on h =
    let x = wrote s.world.memory v.world.memory l c p d.0 d.1.0 d.1.1.0 in
    record {
      notes = n;
      on = x.on;
      count = ap length x.content ∙ length-set s.world.memory.lines l c;
      log = λ k g. ap (λ (ls : List Line). get_or ls k []) x.content ∙ get_or-set_other s.world.memory.lines l k c [] (λ q. omega arith);
      block = d.1.1.1;
    }

undo_step : (s : Sizes) (f : ℕ → Line) (k : ℕ) (x : Found) (i : ℕ) → 0 < i
    → undoing s f k x i ≡ write (get_or x.header.lines (i - 1) 0) (f (entry_line s x.id.bucket x.id.slot (i - 1 + 1))) (Record k x.id) ∷ undoing s f k x (i - 1)
unfolding undoing
undo_step s f k x zero g = absurd (omega arith)
undo_step s f k x (suc i) g = let e : suc i - 1 ≡ i = omega arith in rw e

undo_none : (s : Sizes) (f : ℕ → Line) (k : ℕ) (x : Found) (i : ℕ) → i ≡ 0 → undoing s f k x i ≡ []
unfolding undoing
undo_none s f k x i e = rw e

-- what writes the first i entries of a record back
abbrev entries_left : State → ℕ → Found → ℕ → List Step
entries_left s k x i = undoing s.notes.sizes (content_at s.world.memory) k x i

abbrev pub EntriesLeft : State → World → ℕ → Found → ℕ → Type 0
EntriesLeft s v k x i = Leads (undoing_record_in s k x) s.world (entries_left s k x i) v

-- s is the log at the start and v the log now; entry i is read from line l of v, which is as it was in s, and written to
-- line t; z are the sizes as they are told
module _ (s v : State) (k : ℕ) (x : Found) (i l t : ℕ) (z : Sizes) (e : z ≡ s.notes.sizes) (some : 0 < i) (a : Kept s v)
    (p : l ≡ entry_line z x.id.bucket x.id.slot (i - 1 + 1)) (q : t ≡ get_or x.header.lines (i - 1) 0) where
  abbrev now : Step
  now = write t (content_at v.world.memory l) (Record k x.id)

  entry_step : entries_left s k x i ≡ now ∷ entries_left s k x (i - 1)
  entry_step =
      let y = a.log (entry_line s.notes.sizes x.id.bucket x.id.slot (i - 1 + 1)) (omega arith) in
      let p = p ∙ ap (λ (z : Sizes). entry_line z x.id.bucket x.id.slot (i - 1 + 1)) e in
      undo_step s.notes.sizes (content_at s.world.memory) k x i some ∙ rw (q, p, y)

  pub entry_stop : (u : World) (e : LogFault) → Does now v.world (Err e) u → EntriesLeft s v.world k x i → Ran (undoing_record_in s k x) s.world (Err e) u
  entry_stop u f d inv = leads_stop _ _ now s.world v.world u f d (leads_same _ _ _ s.world v.world entry_step inv)

  pub entry_more : (u : World) → Does now v.world (Ok tt) u → EntriesLeft s v.world k x i → EntriesLeft s u k x (i - 1)
  entry_more u d inv = leads_more _ _ now s.world v.world u d (leads_same _ _ _ s.world v.world entry_step inv)

  pub entry_kept : (u : State) → i ≤ x.header.count → Undoable s x → u.notes ≡ v.notes → Does now v.world (Ok tt) u.world → Kept s u
  entry_kept u n able f d =
      let y = able.used (i - 1) (omega arith) in
      let w = ap (λ (n : Notes). data_lines_of n.sizes) a.notes in
      kept_then s v u a (write_kept v u t (content_at v.world.memory l) (Record k x.id) d f a.on (omega arith))

pub entry_end : (s : State) (v : World) (k : ℕ) (x : Found) (i : ℕ) → i ≡ 0 → EntriesLeft s v k x i → Ran (undoing_record_in s k x) s.world (Ok tt) v
entry_end s v k x i e inv = leads_end _ s.world v (leads_same _ _ _ s.world v (undo_none s.notes.sizes (content_at s.world.memory) k x i e) inv)
