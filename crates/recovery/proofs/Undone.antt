-- What undoing leaves at each line: the content that was logged first.
use Rattle.std.proofs.Common.{◌≡◌, ℕ, zero, suc, ◌+◌, ◌-◌, ◌<◌, Bool, true, false, eqb, List, [], ◌∷◌, ◌++◌, length, get_or, set, Some, None, Ok, Option, sym, refl, ap, ◌∙◌, subst, ⊎_elim, length-set}
use Rattle.std.proofs.lemmas.List.{get_or-set_same, get_or-set_other}
use Rattle.std.proofs.lemmas.Bool.{cases_eq, cases_Bool, cond-true, cond-false, eqb-true, eq-eqb, ne_eqb}
use Rattle.std.specs.Bool.{then_some}
use Rattle.std.specs.Option.{option_or, unwrap_or}
use Rattle.memory.specs.Meaning.{Line}
use Rattle.layout.specs.Places.{record_id}
use Rattle.layout.specs.declared.block.BlockEntry.{BlockEntry}
use Rattle.layout.specs.declared.sizes.Sizes.{Sizes}
use Rattle.layout.specs.Block.{records_of}
use Rattle.undo_log.specs.declared.fault.Place.{Place}
use Rattle.undo_log.specs.declared.fault.Place.TheVariants.{Record}
use Rattle.undo_log.specs.Steps.{World, Step, Ran}
use Rattle.recovery.specs.declared.walk.Found.{Found}
use Rattle.recovery.specs.Walk.{Walk, stops, finds, walk_of, records_in}
use Rattle.recovery.specs.Undo.{undoing, undoing_all, undone_by, undoing_core, undoing_from}
use Rattle.recovery.specs.Undone.{Logged, entries_from, entries_of, logged_from, oldest, Restored}
use Rattle.recovery.proofs.Effects.{lines_after, lines_then, ran_done}
use Rattle.recovery.proofs.Walks.{walk_none}

-- the lines with the logged contents written back, from the newest on
unfoldable pub undo : List Logged → List Line → List Line
undo [] ls = ls
undo (e ∷ es) ls = undo es (set ls e.line e.content)

pub length-undo : (es : List Logged) (ls : List Line) → length (undo es ls) ≡ length ls
unfolding undo
length-undo [] ls = refl
length-undo (e ∷ es) ls = length-undo es (set ls e.line e.content) ∙ length-set ls e.line e.content

set_reads : (ls : List Line) (e : Logged) (l : ℕ) → l < length ls → get_or (set ls e.line e.content) l [] ≡ unwrap_or (then_some (eqb e.line l) e.content) (get_or ls l [])
set_reads ls e l h =
    ⊎_elim
    (λ (q : e.line ≡ l).
    subst (λ (b : Bool). get_or (set ls e.line e.content) l [] ≡ unwrap_or (then_some b e.content) (get_or ls l [])) (sym (eq-eqb e.line l q))
    (subst (λ (k : ℕ). get_or (set ls k e.content) l [] ≡ e.content) (sym q) (get_or-set_same ls l e.content [] h)))
    (λ (q : e.line ≡ l → ⊥).
    subst (λ (b : Bool). get_or (set ls e.line e.content) l [] ≡ unwrap_or (then_some b e.content) (get_or ls l [])) (sym (ne_eqb e.line l q))
    (get_or-set_other ls e.line l e.content [] (λ r. q (sym r))))
    (cases_eq e.line l)

unwrap_or-option_or : (a b : Option Line) (c : Line) → unwrap_or (option_or a b) c ≡ unwrap_or a (unwrap_or b c)
unwrap_or-option_or None b c = refl
unwrap_or-option_or (Some d) b c = refl

-- each line has the oldest content logged for it, and any other line what it had
pub undo_reads : (es : List Logged) (ls : List Line) (l : ℕ) → l < length ls → get_or (undo es ls) l [] ≡ unwrap_or (oldest l es) (get_or ls l [])
unfolding undo oldest
undo_reads [] ls l h = refl
undo_reads (e ∷ es) ls l h =
    undo_reads es (set ls e.line e.content) l (subst (λ (n : ℕ). l < n) (sym (length-set ls e.line e.content)) h)
    ∙ ap (unwrap_or (oldest l es)) (set_reads ls e l h)
    ∙ sym (unwrap_or-option_or (oldest l es) (then_some (eqb e.line l) e.content) (get_or ls l []))

undo_then : (xs ys : List Logged) (ls : List Line) → undo (xs ++ ys) ls ≡ undo ys (undo xs ls)
unfolding undo
undo_then [] ys ls = refl
undo_then (e ∷ xs) ys ls = undo_then xs ys (set ls e.line e.content)

-- the steps of undoing write back just the logged contents

entries_undone : (s : Sizes) (f : ℕ → Line) (k : ℕ) (x : Found) (i : ℕ) (ls : List Line)
    → lines_after (undoing s f k x i) ls ≡ undo (entries_from s f x i) ls
unfolding lines_after undoing undo entries_from
entries_undone s f k x zero ls = refl
entries_undone s f k x (suc i) ls = entries_undone s f k x i _

both : (ss ts : List Step) (xs ys : List Logged) (ls : List Line)
    → ((ls : List Line) → lines_after ss ls ≡ undo xs ls) → ((ls : List Line) → lines_after ts ls ≡ undo ys ls) → lines_after (ss ++ ts) ls ≡ undo (xs ++ ys) ls
both ss ts xs ys ls p q = lines_then ss ts ls ∙ ap (lines_after ts) (p ls) ∙ q (undo xs ls) ∙ sym (undo_then xs ys ls)

records_undone : (s : Sizes) (f : ℕ → Line) (k : ℕ) (p : Place) (fs : List Found) (ls : List Line) → lines_after (undoing_all s f k p fs) ls ≡ undo (entries_of s f fs) ls
unfolding lines_after undoing_all undo entries_of
records_undone s f k p [] ls = refl
records_undone s f k p (x ∷ fs) ls =
    both (undoing s f k x x.header.count) (undoing_all s f k (Record k x.id) fs)
    (entries_from s f x x.header.count) (entries_of s f fs) ls
    (λ ls. entries_undone s f k x x.header.count ls)
    (λ ls. records_undone s f k (Record k x.id) fs ls)

walk_undone : (s : Sizes) (f : ℕ → Line) (k : ℕ) (p : Place) (w : Walk) (ls : List Line) → lines_after (undone_by s f k p w) ls ≡ undo (entries_of s f (records_in w)) ls
unfolding lines_after undo entries_of
walk_undone s f k p (stops b r) ls = refl
walk_undone s f k p (finds fs) ls = records_undone s f k p fs ls

none_logged : (s : Sizes) (f : ℕ → Line) (k : ℕ) (e : BlockEntry) → records_of s e ≡ 0 → entries_of s f (records_in (walk_of s f k e)) ≡ []
unfolding walk_of entries_of
none_logged s f k e z =
    ap (λ (w : Walk). entries_of s f (records_in w)) (walk_none s f k e (records_of s e) e.current (e.closed - 1) z)

core_undone : (s : Sizes) (f : ℕ → Line) (k : ℕ) (e : BlockEntry) (ls : List Line)
    → lines_after (undoing_core s f k e) ls ≡ undo (entries_of s f (records_in (walk_of s f k e))) ls
unfolding undoing_core lines_after undo
core_undone s f k e ls =
    ⊎_elim
    (λ (t : eqb (records_of s e) 0 ≡ true).
    ap (λ (ss : List Step). lines_after ss ls) (cond-true _ _ _ t) ∙ ap (λ (es : List Logged). undo es ls) (sym (none_logged s f k e (eqb-true (records_of s e) 0 t))))
    (λ (t : eqb (records_of s e) 0 ≡ false).
    ap (λ (ss : List Step). lines_after ss ls) (cond-false _ _ _ t) ∙ walk_undone s f k (Record k (record_id e.current (e.closed - 1))) (walk_of s f k e) ls)
    (cases_Bool (eqb (records_of s e) 0))

pub cores_undone : (s : Sizes) (f : ℕ → Line) (k : ℕ) (es : List BlockEntry) (ls : List Line) → lines_after (undoing_from s f k es) ls ≡ undo (logged_from s f k es) ls
unfolding lines_after undoing_from undo logged_from
cores_undone s f k [] ls = refl
cores_undone s f k (e ∷ es) ls =
    both (undoing_core s f k e) (undoing_from s f (k + 1) es) (entries_of s f (records_in (walk_of s f k e))) (logged_from s f (k + 1) es) ls
    (λ ls. core_undone s f k e ls)
    (λ ls. cores_undone s f (k + 1) es ls)

-- an undoing that completes restores
pub restores : (s : Sizes) (f : ℕ → Line) (es : List BlockEntry) (w v : World) → w.memory.on ≡ true → Ran (undoing_from s f 0 es) w (Ok tt) v
    → Restored (logged_from s f 0 es) w.memory v.memory
restores s f es w v on r l h =
    ap (λ (ls : List Line). get_or ls l []) ((ran_done _ w v r on).lines ∙ cores_undone s f 0 es w.memory.lines)
    ∙ undo_reads (logged_from s f 0 es) w.memory.lines l h
