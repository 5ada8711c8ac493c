-- The walk, one record on; and the check of a core, by what is counted and what is left.
use Rattle.std.proofs.Common.{◌≡◌, ℕ, suc, ◌+◌, ◌-◌, ◌<◌, ◌≤◌, true, [], length, Some, None, Ok, Err, Option, Result, sym, refl, ap, ◌∙◌, subst, arith}
use Rattle.std.proofs.lemmas.Nat.{mul-le}
use Rattle.std.proofs.lemmas.Bool.{both_ways}
use Rattle.memory.specs.Meaning.{Line, content_at}
use Rattle.layout.specs.declared.block.BlockEntry.{BlockEntry}
use Rattle.layout.specs.declared.places.RecordId.{RecordId}
use Rattle.layout.specs.declared.sizes.Sizes.{Sizes}
use Rattle.layout.specs.Sizes.{lines_needed, Bounded}
use Rattle.header.specs.declared.Header.{Header}
use Rattle.undo_log.specs.declared.fault.LogFault.{LogFault}
use Rattle.undo_log.specs.Closing.{State}
use Rattle.recovery.specs.declared.walk.Cursor.{Cursor}
use Rattle.recovery.specs.declared.walk.Found.{Found}
use Rattle.recovery.specs.Walk.{Walk, stops, finds, header_at, adding, turn, walk, walk_of, walk_in, found, entries_in}
use Rattle.recovery.specs.Cursor.{newest, past, to_come, header_here, Next}
use Rattle.recovery.specs.Check.{tally, plus}

-- the lines of a log can be numbered by a u16
pub lines_few : (s : Sizes) → Bounded s → lines_needed s ≤ 1536
lines_few s b = let p = mul-le s.buckets s.records 32 4 b.buckets b.records in omega (arith, b.lines)

one_less : (n : ℕ) → 0 < n → n ≡ suc (n - 1)
one_less n h = omega arith

walk_turn : (s : Sizes) (f : ℕ → Line) (k : ℕ) (e : BlockEntry) (n b r : ℕ) (o : Option Header) → 0 < n → o ≡ header_at s f k e (n - 1) b r
    → walk s f k e n b r ≡ turn s b r (walk s f k e (n - 1)) o
unfolding walk
walk_turn s f k e n b r o g p = ap (λ (i : ℕ). walk s f k e i b r) (one_less n g) ∙ ap (turn s b r (walk s f k e (n - 1))) (sym p)

pub walk_none : (s : Sizes) (f : ℕ → Line) (k : ℕ) (e : BlockEntry) (n b r : ℕ) → n ≡ 0 → walk s f k e n b r ≡ finds []
unfolding walk
walk_none s f k e n b r z = ap (λ (i : ℕ). walk s f k e i b r) z

-- the walk goes on by record x
pub record Onward (s : State) (c : Cursor) (x : Found) (c' : Cursor) : Type 0 where
  pub some : 0 < c.left
  pub left : c'.left ≡ c.left - 1
  pub core : c'.core ≡ c.core
  pub walk : to_come s c ≡ adding x (to_come s c')

module _ (s : State) (c c' : Cursor) where
  turn_here : (o : Option Header) → 0 < c.left → o ≡ header_here s c (c.left - 1)
      → to_come s c ≡ turn s.notes.sizes c.id.bucket c.id.slot (walk s.notes.sizes (content_at s.world.memory) c.core c.held (c.left - 1)) o
  turn_here o g p = walk_turn s.notes.sizes (content_at s.world.memory) c.core c.held c.left c.id.bucket c.id.slot o g p

  onward_some : (x : Found) → Next s c (Ok (Some x)) c' → Onward s c x c'
  onward_some x n =
      record {
        some = n.0;
        left = ap (λ (d : Cursor). d.left) n.3;
        core = ap (λ (d : Cursor). d.core) n.3;
        walk = turn_here (Some x.header) n.0 n.2
            ∙ ap (λ (i : RecordId). adding (record { id = i; header = x.header }) (to_come s (past s c x.header))) (sym n.1)
            ∙ ap (λ (d : Cursor). adding x (to_come s d)) (sym n.3);
      }

  pub onward : (o : Option Found) (x : Found) → o ≡ Some x → Next s c (Ok o) c' → Onward s c x c'
  onward o x e n = onward_some x (subst (λ (o : Option Found). Next s c (Ok o) c') e n)

  ends_none : Next s c (Ok None) c' → (c.left ≡ 0) × (to_come s c ≡ finds [])
  ends_none n = (n, walk_none s.notes.sizes (content_at s.world.memory) c.core c.held c.left c.id.bucket c.id.slot n)

  pub ends : (o : Option Found) → o ≡ None → Next s c (Ok o) c' → (c.left ≡ 0) × (to_come s c ≡ finds [])
  ends o e n = ends_none (subst (λ (o : Option Found). Next s c (Ok o) c') e n)

  pub fails : (k : ℕ) (e : LogFault) → c.core ≡ k → Next s c (Err e) c' → Err e ≡ tally k (to_come s c)
  fails k e q n = ap Err n.2 ∙ sym (ap (tally c.core) (turn_here None n.0 n.1)) ∙ ap (λ (k : ℕ). tally k (to_come s c)) q

pub begins : (s : State) (k : ℕ) (c : Cursor) → c ≡ newest s k → to_come s c ≡ walk_in s k
unfolding walk_of
begins s k c p = ap (to_come s) p

-- a walk that fails has not come to its end
pub not_found : (k : ℕ) (w : Walk) (e : LogFault) → Err e ≡ tally k w → found w ≡ true → ⊥
not_found k (stops b r) e p t = absurd (both_ways _ refl t)
not_found k (finds fs) e p t = cc p

-- the check of a core: R records in all, n of them left, c entries counted, and the answer is T

tally_adding : (k a b : ℕ) (x : Found) (w : Walk) → plus (a, b) (tally k (adding x w)) ≡ plus (a + 1, b + x.header.count) (tally k w)
unfolding entries_in
tally_adding k a b x (stops c d) = refl
tally_adding k a b x (finds fs) =
    let p : a + suc (length fs) ≡ a + 1 + length fs = omega arith in
    let q : b + (x.header.count + entries_in fs) ≡ b + x.header.count + entries_in fs = omega arith in
    cc

tally_none : (k a b : ℕ) → plus (a, b) (tally k (finds [])) ≡ Ok (a, b)
unfolding entries_in
tally_none k a b = let p : a + 0 ≡ a = omega arith in let q : b + 0 ≡ b = omega arith in cc

pub count_none : (q : Result (ℕ × ℕ) LogFault) (R : ℕ) → plus (R - R, 0) q ≡ q
count_none (Ok n) R =
    let p : R - R + n.0 ≡ n.0 = omega arith in
    let q : 0 + n.1 ≡ n.1 = omega arith in
    ap (λ (x : ℕ). Ok (x, 0 + n.1)) p ∙ ap (λ (y : ℕ). Ok (n.0, y)) q
count_none (Err e) R = refl

module _ (k R n c : ℕ) (w : Walk) (T : Result (ℕ × ℕ) LogFault) (inv : plus (R - n, c) (tally k w) ≡ T) where
  pub count_more : (x : Found) (v : Walk) (n' : ℕ) → 0 < n → n ≤ R → n' ≡ n - 1 → w ≡ adding x v → plus (R - n', c + x.header.count) (tally k v) ≡ T
  count_more x v n' some few p q =
      let m : R - n' ≡ R - n + 1 = omega arith in
      ap (λ (i : ℕ). plus (i, c + x.header.count) (tally k v)) m
      ∙ sym (tally_adding k (R - n) c x v) ∙ ap (λ (u : Walk). plus (R - n, c) (tally k u)) (sym q) ∙ inv

  pub count_fails : (e : LogFault) → Err e ≡ tally k w → Err e ≡ T
  count_fails e p = ap (plus (R - n, c)) p ∙ inv

  pub count_ends : n ≡ 0 → w ≡ finds [] → Ok (R, c) ≡ T
  count_ends z q =
      let m : R ≡ R - n = omega arith in
      ap (λ (i : ℕ). Ok (i, c)) m ∙ sym (tally_none k (R - n) c) ∙ ap (λ (u : Walk). plus (R - n, c) (tally k u)) (sym q) ∙ inv
