-- The check of all cores: es are their entries, m is counted, and the answer is T.
use Rattle.std.proofs.Common.{◌≡◌, ℕ, ◌+◌, ◌<◌, ◌≤◌, true, false, List, length, drop, is_ok, Ok, Err, Result, sym, refl, ap, ◌∙◌, arith}
use Rattle.std.proofs.lemmas.List.{at_drop_more, at_drop_all}
use Rattle.std.proofs.lemmas.Bool.{both_ways}
use Rattle.memory.specs.Meaning.{Line}
use Rattle.layout.specs.declared.block.BlockEntry.{BlockEntry}
use Rattle.layout.specs.declared.sizes.Sizes.{Sizes}
use Rattle.layout.specs.Block.{entry_at}
use Rattle.undo_log.specs.declared.fault.LogFault.{LogFault}
use Rattle.recovery.specs.Walk.{Walk, stops, finds, walk_of, found}
use Rattle.recovery.specs.Check.{tally, plus, and_then, checked}

plus_plus : (m n : ℕ × ℕ) (q : Result (ℕ × ℕ) LogFault) → plus m (plus n q) ≡ plus (m.0 + n.0, m.1 + n.1) q
plus_plus m n (Ok x) =
    let p : m.0 + (n.0 + x.0) ≡ m.0 + n.0 + x.0 = omega arith in
    let q : m.1 + (n.1 + x.1) ≡ m.1 + n.1 + x.1 = omega arith in
    cc
plus_plus m n (Err e) = refl

-- core k and those after it
pub checked_split : (s : Sizes) (f : ℕ → Line) (k : ℕ) (es : List BlockEntry) → k < length es
    → checked s f k (drop k es) ≡ and_then (tally k (walk_of s f k (entry_at es k))) (checked s f (k + 1) (drop (k + 1) es))
unfolding checked
checked_split s f k es h = at_drop_more (checked s f k) es k _ h

module _ (s : Sizes) (f : ℕ → Line) (k : ℕ) (es : List BlockEntry) (m : ℕ × ℕ) (T : Result (ℕ × ℕ) LogFault) (inv : plus m (checked s f k (drop k es)) ≡ T) where
  pub cores_more : (n : ℕ × ℕ) → k < length es → Ok n ≡ tally k (walk_of s f k (entry_at es k))
      → plus (m.0 + n.0, m.1 + n.1) (checked s f (k + 1) (drop (k + 1) es)) ≡ T
  cores_more n h p =
      sym (plus_plus m n (checked s f (k + 1) (drop (k + 1) es)))
      ∙ ap (λ (q : Result (ℕ × ℕ) LogFault). plus m (and_then q (checked s f (k + 1) (drop (k + 1) es)))) p
      ∙ ap (plus m) (sym (checked_split s f k es h)) ∙ inv

  pub cores_stop : (e : LogFault) → k < length es → Err e ≡ tally k (walk_of s f k (entry_at es k)) → Err e ≡ T
  cores_stop e h p =
      ap (λ (q : Result (ℕ × ℕ) LogFault). plus m (and_then q (checked s f (k + 1) (drop (k + 1) es)))) p
      ∙ ap (plus m) (sym (checked_split s f k es h)) ∙ inv

  pub cores_end : length es ≤ k → Ok m ≡ T
  unfolding checked
  cores_end h =
      let p : m.0 + 0 ≡ m.0 = omega arith in
      let q : m.1 + 0 ≡ m.1 = omega arith in
      ap (λ (x : ℕ). Ok (x, m.1)) (sym p) ∙ ap (λ (y : ℕ). Ok (m.0 + 0, y)) (sym q)
      ∙ ap (plus m) (sym (at_drop_all (checked s f k) es k h)) ∙ inv

-- where the check passes, it passes the first core and the others
ok_parts : (k : ℕ) (x : Walk) (q : Result (ℕ × ℕ) LogFault) → is_ok (and_then (tally k x) q) ≡ true → (found x ≡ true) × (is_ok q ≡ true)
ok_parts k (stops b r) q t = absurd (both_ways false refl t)
ok_parts k (finds fs) (Ok n) t = (refl, refl)
ok_parts k (finds fs) (Err e) t = absurd (both_ways false refl t)

pub passed : (s : Sizes) (f : ℕ → Line) (k : ℕ) (es : List BlockEntry) → k < length es → is_ok (checked s f k (drop k es)) ≡ true
    → (found (walk_of s f k (entry_at es k)) ≡ true) × (is_ok (checked s f (k + 1) (drop (k + 1) es)) ≡ true)
passed s f k es h t = ok_parts k (walk_of s f k (entry_at es k)) _ (ap is_ok (sym (checked_split s f k es h)) ∙ t)
