-- Entries on their way to the bytes below: one more, and the last.
use Rattle.std.proofs.Common.{◌≡◌, ℕ, ◌+◌, ◌<◌, ◌≤◌, List, length, get_or, drop, Some, None, refl, ap, ◌∙◌, add-one, arith, le-ltb}
use Rattle.std.proofs.lemmas.List.{drop_more, drop_all}
use Rattle.lines.specs.Lines.{Line, count_of, line_of, line_at, with_line}
use Rattle.lines.proofs.Rows.{line_none, line_some, lines_length}
use Rattle.queued.specs.declared.slot.Slot.{Slot}
use Rattle.queued.specs.declared.fate.Fate.{Fate}
use Rattle.queued.specs.Fates.{fate_at, survivor}
use Rattle.queued.specs.Below.{moved, cut_down}

module _ (bs : List ℕ) (es : List Slot) (i : ℕ) (d : Slot) (h : i < length es) where
  pub moved_more : (bs' : List ℕ) → bs' ≡ with_line bs (get_or es i d).line (get_or es i d).content → moved bs' (drop (i + 1) es) ≡ moved bs (drop i es)
  unfolding moved
  moved_more bs' e = rw (e, drop_more es i d h) refl

  cut_more : (choice : ℕ) (bs' : List ℕ) → bs' ≡ with_line bs (get_or es i d).line (survivor (fate_at choice i) (line_of bs (get_or es i d).line) (get_or es i d).content) → cut_down choice (i + 1) bs' (drop (i + 1) es) ≡ cut_down choice i bs (drop i es)
  unfolding cut_down
  cut_more choice bs' e = rw (e, drop_more es i d h, add-one i) refl

  -- the entry's line is there, and is left by its fate
  pub cut_here : (choice : ℕ) (bs' : List ℕ) (old x : Line) (f : Fate) → line_at bs (get_or es i d).line ≡ Some old → f ≡ fate_at choice i → x ≡ survivor f old (get_or es i d).content → bs' ≡ with_line bs (get_or es i d).line x → cut_down choice (i + 1) bs' (drop (i + 1) es) ≡ cut_down choice i bs (drop i es)
  cut_here choice bs' old x f at is left e =
      let was : old ≡ line_of bs (get_or es i d).line = (line_some bs (get_or es i d).line old at).1 in
      let e' : bs' ≡ with_line bs (get_or es i d).line (survivor (fate_at choice i) (line_of bs (get_or es i d).line) (get_or es i d).content) = e ∙ ap (with_line bs (get_or es i d).line) (left ∙ rw (is, was) refl) in
      cut_more choice bs' e'

  -- there is no such line, and nothing changes
  pub cut_none : (choice : ℕ) → line_at bs (get_or es i d).line ≡ None → cut_down choice (i + 1) bs (drop (i + 1) es) ≡ cut_down choice i bs (drop i es)
  cut_none choice e =
      let past : count_of bs ≤ (get_or es i d).line = omega (arith, line_none bs (get_or es i d).line e, lines_length bs) in
      cut_more choice bs (rw (le-ltb (get_or es i d).line (count_of bs) past) refl)

pub moved_all : (bs : List ℕ) (es : List Slot) (i : ℕ) → length es ≤ i → moved bs (drop i es) ≡ bs
unfolding moved
moved_all bs es i h = rw (drop_all i es h) refl

pub cut_all : (choice : ℕ) (bs : List ℕ) (es : List Slot) (i : ℕ) → length es ≤ i → cut_down choice i bs (drop i es) ≡ bs
unfolding cut_down
cut_all choice bs es i h = rw (drop_all i es h) refl
