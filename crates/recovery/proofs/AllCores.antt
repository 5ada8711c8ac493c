-- Undoing all cores, those from k on left.
use Rattle.std.proofs.Common.{◌≡◌, ℕ, ◌+◌, ◌<◌, ◌≤◌, true, List, [], ◌++◌, length, drop, is_ok, Ok, Err, sym, ap, ◌∙◌, arith}
use Rattle.std.proofs.lemmas.List.{get_or-drop, at_drop_more, at_drop_all, drop-drop, drop-set-lt}
use Rattle.memory.specs.Meaning.{Line, content_at}
use Rattle.layout.specs.declared.block.BlockEntry.{BlockEntry}
use Rattle.layout.specs.declared.sizes.Sizes.{Sizes}
use Rattle.layout.specs.Block.{empty, entry_at}
use Rattle.layout.specs.Sizes.{data_lines_of}
use Rattle.undo_log.specs.declared.fault.LogFault.{LogFault}
use Rattle.undo_log.specs.Closing.{Notes, State}
use Rattle.undo_log.specs.Steps.{World, Step, Ran}
use Rattle.recovery.specs.Walk.{walk_of, walk_in, found}
use Rattle.recovery.specs.Check.{checked}
use Rattle.recovery.specs.Undo.{undoing_core, undoing_from, undoing_core_in, undoing_in}
use Rattle.recovery.specs.Kept.{SameLog, Emptied}
use Rattle.recovery.proofs.Cores.{passed}
use Rattle.recovery.proofs.Leads.{Leads, leads_on, leads_off, leads_end, leads_same}
use Rattle.recovery.proofs.Same.{walk_of_same, undoing_core_same}

-- what s was is still to be seen in v, but for the entries of the cores before k
pub record Sees (s : State) (k : ℕ) (v : State) : Type 0 where
  pub notes : v.notes ≡ s.notes
  pub on : v.world.memory.on ≡ true
  pub count : length v.world.memory.lines ≡ length s.world.memory.lines
  pub log : SameLog s.notes.sizes (content_at s.world.memory) (content_at v.world.memory)
  pub rest : drop k v.world.block ≡ drop k s.world.block
  pub passes : is_ok (checked s.notes.sizes (content_at s.world.memory) k (drop k s.world.block)) ≡ true

-- the steps for the cores from k on
abbrev cores_left : State → ℕ → List Step
cores_left s k = undoing_from s.notes.sizes (content_at s.world.memory) k (drop k s.world.block)

abbrev pub CoresLeft : State → ℕ → World → Type 0
CoresLeft s k v = Leads (undoing_in s) s.world (cores_left s k) v

entry_of : (block : List BlockEntry) (k : ℕ) → entry_at block k ≡ entry_at (drop k block) 0
entry_of block k = let z : k + 0 ≡ k = omega arith in ap (entry_at block) (sym z) ∙ sym (get_or-drop k block 0 empty)

same_entry : (s v : State) (k : ℕ) → Sees s k v → entry_at v.world.block k ≡ entry_at s.world.block k
same_entry s v k a = entry_of v.world.block k ∙ ap (λ (es : List BlockEntry). entry_at es 0) a.rest ∙ sym (entry_of s.world.block k)

undoing_split : (s : Sizes) (f : ℕ → Line) (k : ℕ) (es : List BlockEntry) → k < length es
    → undoing_from s f k (drop k es) ≡ undoing_core s f k (entry_at es k) ++ undoing_from s f (k + 1) (drop (k + 1) es)
unfolding undoing_from
undoing_split s f k es h = at_drop_more (undoing_from s f k) es k empty h

undoing_done : (s : Sizes) (f : ℕ → Line) (k : ℕ) (es : List BlockEntry) → length es ≤ k → undoing_from s f k (drop k es) ≡ []
unfolding undoing_from
undoing_done s f k es h = at_drop_all (undoing_from s f k) es k h

module _ (s v : State) (k : ℕ) (h : k < length s.world.block) (a : Sees s k v) where
  was_found : found (walk_of s.notes.sizes (content_at s.world.memory) k (entry_at s.world.block k)) ≡ true
  was_found = (passed s.notes.sizes (content_at s.world.memory) k s.world.block h a.passes).0

  pub core_found : found (walk_in v k) ≡ true
  core_found =
      ap (λ (n : Notes). found (walk_of n.sizes (content_at v.world.memory) k (entry_at v.world.block k))) a.notes
      ∙ ap (λ (e : BlockEntry). found (walk_of s.notes.sizes (content_at v.world.memory) k e)) (same_entry s v k a)
      ∙ ap found (walk_of_same s.notes.sizes _ _ a.log k (entry_at s.world.block k)) ∙ was_found

  core_steps : cores_left s k ≡ undoing_core_in v k ++ cores_left s (k + 1)
  core_steps =
      undoing_split s.notes.sizes (content_at s.world.memory) k s.world.block h
      ∙ ap (λ (ss : List Step). ss ++ cores_left s (k + 1))
      (sym (ap (λ (n : Notes). undoing_core n.sizes (content_at v.world.memory) k (entry_at v.world.block k)) a.notes
      ∙ ap (undoing_core s.notes.sizes (content_at v.world.memory) k) (same_entry s v k a) ∙ undoing_core_same s.notes.sizes _ _ a.log k (entry_at s.world.block k)))

  pub core_more : (u : World) → Ran (undoing_core_in v k) v.world (Ok tt) u → CoresLeft s k v.world → CoresLeft s (k + 1) u
  core_more u d inv = leads_on _ _ _ s.world v.world u d (leads_same _ _ _ s.world v.world core_steps inv)

  pub core_stop : (u : World) (e : LogFault) → Ran (undoing_core_in v k) v.world (Err e) u → CoresLeft s k v.world → Ran (undoing_in s) s.world (Err e) u
  core_stop u e d inv = leads_off _ _ _ s.world v.world u e d (leads_same _ _ _ s.world v.world core_steps inv)

  pub sees_more : (u : State) → u.notes ≡ v.notes → Emptied k v u → Sees s (k + 1) u
  sees_more u n b =
      let z = ap (λ (n : Notes). data_lines_of n.sizes) a.notes in
      record {
        notes = n ∙ a.notes;
        on = b.on;
        count = b.count ∙ a.count;
        log = λ l g. b.log l (omega arith) ∙ a.log l g;
        rest = ap (drop (k + 1)) b.others.1 ∙ drop-set-lt (k + 1) v.world.block k b.others.0 (omega arith)
            ∙ sym (drop-drop 1 k v.world.block) ∙ ap (drop 1) a.rest ∙ drop-drop 1 k s.world.block;
        passes = (passed s.notes.sizes (content_at s.world.memory) k s.world.block h a.passes).1;
      }

pub cores_done : (s : State) (v : World) (k : ℕ) → length s.world.block ≤ k → CoresLeft s k v → Ran (undoing_in s) s.world (Ok tt) v
cores_done s v k h inv = leads_end _ s.world v (leads_same _ _ _ s.world v (undoing_done s.notes.sizes (content_at s.world.memory) k s.world.block h) inv)
