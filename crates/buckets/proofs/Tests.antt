-- The test of a bucket, and what it tells, core by core.
use Rattle.std.proofs.Common.{◌≡◌, ℕ, zero, suc, Bool, false, true, List, [], ◌∷◌, get_or, Some, None, Option, refl, ap, ◌∙◌}
use Rattle.std.specs.List.{list_any}
use Rattle.std.proofs.lemmas.List.Elements.{All-from_get_or}
use Rattle.std.proofs.lemmas.List.Folds.{list_any_none}
use Rattle.std.proofs.lemmas.Bool.{and_parts, and_from, not-true, not_from_false, or_parts, eqb-false, ne_eqb}
use Rattle.layout.specs.declared.block.BlockEntry.{BlockEntry}
use Rattle.layout.specs.declared.«open».OpenRecord.{OpenRecord}
use Rattle.layout.specs.Block.{empty, has}
use Rattle.layout.proofs.Vectors.{has_none}
use Rattle.buckets.specs.Buckets.{lies_in, free, Free}

-- no element passes a test that the value past the end fails too: place by place, and back
none_at : {X : Type 0} (p : X → Bool) (d : X) (xs : List X) → p d ≡ false → list_any p xs ≡ false → (k : ℕ) → p (get_or xs k d) ≡ false
none_at p d [] z h k = z
none_at p d (x ∷ xs) z h zero = (or_parts _ _ h).0
none_at p d (x ∷ xs) z h (suc k) = none_at p d xs z (or_parts _ _ h).1 k

none_from : {X : Type 0} (p : X → Bool) (d : X) (xs : List X) → ((k : ℕ) → p (get_or xs k d) ≡ false) → list_any p xs ≡ false
none_from p d xs h = list_any_none p xs (All-from_get_or (λ x. p x ≡ false) xs d (λ k lt. h k))

abbrev Elsewhere : ℕ → Option OpenRecord → Type 0
Elsewhere b q = (o : OpenRecord) → q ≡ Some o → o.id.bucket ≡ b → ⊥

elsewhere : (b : ℕ) (q : Option OpenRecord) → lies_in b q ≡ false → Elsewhere b q
elsewhere b None h o e p = cc
elsewhere b (Some r) h o e p = eqb-false r.id.bucket b h (let z : r ≡ o = cc in ap (λ (r : OpenRecord). r.id.bucket) z ∙ p)

elsewhere_test : (b : ℕ) (q : Option OpenRecord) → Elsewhere b q → lies_in b q ≡ false
elsewhere_test b None h = refl
elsewhere_test b (Some r) h = ne_eqb r.id.bucket b (h r refl)

-- the test passes just the free buckets
pub free_is : (block : List BlockEntry) (opens : List (Option OpenRecord)) (b : ℕ) → free block opens b ≡ true → Free block opens b
free_is block opens b h =
    let p = and_parts _ _ h in
    record {
      unclaimed = none_at (λ e. has e.vector b) empty block (has_none b) (not-true _ p.0);
      unused = λ k. elsewhere b _ (none_at (lies_in b) None opens refl (not-true _ p.1) k);
    }

pub free_test : (block : List BlockEntry) (opens : List (Option OpenRecord)) (b : ℕ) → Free block opens b → free block opens b ≡ true
free_test block opens b h =
    and_from _ _ (not_from_false _ (none_from (λ e. has e.vector b) empty block h.unclaimed))
    (not_from_false _ (none_from (lies_in b) None opens (λ k. elsewhere_test b _ (h.unused k))))
