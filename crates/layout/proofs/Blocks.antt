-- A block that passes the test keeps the rules of the block.
use Rattle.std.proofs.Common.{◌≡◌, ℕ, zero, suc, ◌+◌, ◌^◌, ◌<◌, ◌≤◌, Bool, true, false, ◌&&◌, eqb, ltb, ◌⊎◌, List, [], ◌∷◌, length, get_or, drop, sym, refl, ap, ◌∙◌, inl, inr, ⊎_elim, arith}
use lib.Bits.{bit_and, bit_or}
use Rattle.std.proofs.lemmas.List.{at_drop_more, at_drop_all}
use Rattle.std.proofs.lemmas.Bool.{and_parts, and_left, and_right, or_cases, eqb-true, eq-eqb, ne_eqb, ltb-true, leb-true}
use Rattle.layout.specs.declared.block.BlockEntry.{BlockEntry}
use Rattle.layout.specs.declared.sizes.Sizes.{Sizes}
use Rattle.layout.specs.Sizes.{within}
use Rattle.layout.specs.Block.{empty, entry_at, has, is_empty, entry_sound, all_sound, block_sound, Filled, BlockRules}
use Rattle.layout.proofs.Vectors.{has_none, has_left, has_right, has_apart, has_below}

abbrev made : ℕ → ℕ → ℕ → BlockEntry
made v b n = record { vector = v; current = b; closed = n }

empty_of : (e : BlockEntry) → is_empty e ≡ true → e ≡ empty
empty_of e h =
    let p = and_parts _ _ h in
    let q = and_parts _ _ p.0 in
    ap (λ (x : ℕ). made x e.current e.closed) (eqb-true e.vector 0 q.0)
    ∙ ap (λ (x : ℕ). made 0 x e.closed) (eqb-true e.current 255 q.1)
    ∙ ap (λ (x : ℕ). made 0 255 x) (eqb-true e.closed 0 p.1)

filled_of : (s : Sizes) (e : BlockEntry) → (ltb e.vector (2 ^ s.buckets) && has e.vector e.current && within 1 s.records e.closed) ≡ true → Filled s e
filled_of s e h =
    let p = and_parts _ _ h in
    let q = and_parts _ _ p.0 in
    let w = and_parts _ _ p.1 in
    record {
      some = leb-true 1 e.closed w.0;
      most = leb-true e.closed s.records w.1;
      current = q.1;
      below = λ b. has_below e.vector s.buckets b (ltb-true e.vector (2 ^ s.buckets) q.0);
    }

-- a sound entry is empty or filled
pub entry_rule : (s : Sizes) (e : BlockEntry) → entry_sound s e ≡ true → (e ≡ empty) ⊎ Filled s e
entry_rule s e h =
    ⊎_elim (λ (p : is_empty e ≡ true). inl (empty_of e p))
    (λ (p : (ltb e.vector (2 ^ s.buckets) && has e.vector e.current && within 1 s.records e.closed) ≡ true). inr (filled_of s e p))
    (or_cases _ _ h)

-- the parts of the test at a first entry
record Starts (s : Sizes) (v : ℕ) (e : BlockEntry) (es : List BlockEntry) : Type 0 where
  pub sound : entry_sound s e ≡ true
  pub «new» : bit_and v e.vector ≡ 0
  pub rest : all_sound s (bit_or v e.vector) es ≡ true

starts : (s : Sizes) (v : ℕ) (e : BlockEntry) (es : List BlockEntry) → all_sound s v (e ∷ es) ≡ true → Starts s v e es
unfolding all_sound
starts s v e es h =
    let p = and_parts _ _ h in
    let q = and_parts _ _ p.0 in
    record { sound = q.0; «new» = eqb-true (bit_and v e.vector) 0 q.1; rest = p.1 }

-- no bucket is in the empty entry that stands past the end
none_past : (b : ℕ) → has empty.vector b ≡ true → ⊥
none_past b h = let e : true ≡ false = sym h ∙ has_none b in grind arith

sound_each : (s : Sizes) (v : ℕ) (es : List BlockEntry) → all_sound s v es ≡ true → (k : ℕ) → (entry_at es k ≡ empty) ⊎ Filled s (entry_at es k)
sound_each s v [] h k = inl refl
sound_each s v (e ∷ es) h zero = entry_rule s e (starts s v e es h).sound
sound_each s v (e ∷ es) h (suc k) = sound_each s (bit_or v e.vector) es (starts s v e es h).rest k

-- no entry has a bucket of the vector
sound_new : (s : Sizes) (v : ℕ) (es : List BlockEntry) → all_sound s v es ≡ true → (k b : ℕ) → has v b ≡ true → has (entry_at es k).vector b ≡ true → ⊥
sound_new s v [] h k b p q = none_past b q
sound_new s v (e ∷ es) h zero b p q = has_apart v e.vector b (starts s v e es h).«new» p q
sound_new s v (e ∷ es) h (suc k) b p q = sound_new s (bit_or v e.vector) es (starts s v e es h).rest k b (has_left v e.vector b p) q

sound_apart : (s : Sizes) (v : ℕ) (es : List BlockEntry) → all_sound s v es ≡ true
    → (j k b : ℕ) → has (entry_at es j).vector b ≡ true → has (entry_at es k).vector b ≡ true → j ≡ k
sound_apart s v [] h j k b p q = absurd (none_past b p)
sound_apart s v (e ∷ es) h zero zero b p q = refl
sound_apart s v (e ∷ es) h zero (suc k) b p q =
    absurd (sound_new s (bit_or v e.vector) es (starts s v e es h).rest k b (has_right v e.vector b p) q)
sound_apart s v (e ∷ es) h (suc j) zero b p q =
    absurd (sound_new s (bit_or v e.vector) es (starts s v e es h).rest j b (has_right v e.vector b q) p)
sound_apart s v (e ∷ es) h (suc j) (suc k) b p q = ap suc (sound_apart s (bit_or v e.vector) es (starts s v e es h).rest j k b p q)

pub block_rules : (s : Sizes) (es : List BlockEntry) → block_sound s es ≡ true → BlockRules s es
block_rules s es h =
    let p = and_parts _ _ h in
    record { count = eqb-true (length es) s.cores p.0; each = sound_each s 0 es p.1; apart = sound_apart s 0 es p.1 }

-- the walk of the test over the entries
took : (s : Sizes) (v : ℕ) (e : BlockEntry) (es : List BlockEntry) → true ≡ entry_sound s e → bit_and v e.vector ≡ 0
    → all_sound s v (e ∷ es) ≡ all_sound s (bit_or v e.vector) es
unfolding all_sound
took s v e es h k =
    ap (λ (t : Bool). t && eqb (bit_and v e.vector) 0 && all_sound s (bit_or v e.vector) es) (sym h)
    ∙ ap (λ (t : Bool). t && all_sound s (bit_or v e.vector) es) (eq-eqb (bit_and v e.vector) 0 k)

unsound : (s : Sizes) (v : ℕ) (e : BlockEntry) (es : List BlockEntry) → false ≡ entry_sound s e → all_sound s v (e ∷ es) ≡ false
unfolding all_sound
unsound s v e es h = and_left _ _ (and_left _ _ (sym h))

shared : (s : Sizes) (v : ℕ) (e : BlockEntry) (es : List BlockEntry) → (bit_and v e.vector ≡ 0 → ⊥) → all_sound s v (e ∷ es) ≡ false
unfolding all_sound
shared s v e es h = and_left _ _ (and_right _ _ (ne_eqb (bit_and v e.vector) 0 h))

module _ (s : Sizes) (v : ℕ) (es : List BlockEntry) (i : ℕ) (d : BlockEntry) (x : Bool) (inv : all_sound s v (drop i es) ≡ x) where
  pub walk_more : i < length es → true ≡ entry_sound s (get_or es i d) → bit_and v (get_or es i d).vector ≡ 0
      → all_sound s (bit_or v (get_or es i d).vector) (drop (i + 1) es) ≡ x
  walk_more h p q = sym (took s v (get_or es i d) (drop (i + 1) es) p q) ∙ sym (at_drop_more (all_sound s v) es i d h) ∙ inv

  pub walk_unsound : i < length es → false ≡ entry_sound s (get_or es i d) → false ≡ x
  walk_unsound h p = sym (unsound s v (get_or es i d) (drop (i + 1) es) p) ∙ sym (at_drop_more (all_sound s v) es i d h) ∙ inv

  pub walk_shared : i < length es → (bit_and v (get_or es i d).vector ≡ 0 → ⊥) → false ≡ x
  walk_shared h p = sym (shared s v (get_or es i d) (drop (i + 1) es) p) ∙ sym (at_drop_more (all_sound s v) es i d h) ∙ inv

pub walk_end : (s : Sizes) (v : ℕ) (es : List BlockEntry) (i : ℕ) (x : Bool) → length es ≤ i → all_sound s v (drop i es) ≡ x → true ≡ x
unfolding all_sound
walk_end s v es i x h inv = sym (at_drop_all (all_sound s v) es i h) ∙ inv
