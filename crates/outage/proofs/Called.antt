-- What the old and the new content of a line are called, and that they are told apart.
use Rattle.std.proofs.Common.{◌≡◌, ℕ, ◌+◌, ◌%◌, Bool, true, false, List, get_or, sym, refl, ap, arith}
use Rattle.std.specs.Str.{bytes_eq}
use Rattle.std.proofs.lemmas.Slice.Eq.{bytes_eq-Decides}
use Rattle.outage.specs.declared.content.Stands.TheVariants.{Old, New}
use Rattle.outage.specs.declared.history.Asked.{Asked}
use Rattle.outage.specs.declared.history.Asked.TheVariants.{Nothing}
use Rattle.outage.specs.declared.history.Asked.TheVariants as asked
use Rattle.outage.specs.Content.{old_content, new_content, called}
use Rattle.outage.specs.Run.{content_for, stands_for}

module _ (l : ℕ) (x : List ℕ) where
  pub called_old : bytes_eq x (old_content l) ≡ true → Old ≡ called l x
  called_old a = rw a refl

  pub called_new : bytes_eq x (old_content l) ≡ false → bytes_eq x (new_content l) ≡ true → New ≡ called l x
  called_new a b = rw (a, b) refl

same : (x : List ℕ) → bytes_eq x x ≡ true
same x = (bytes_eq-Decides x x).1 refl

apart : (l : ℕ) (b : Bool) → bytes_eq (new_content l) (old_content l) ≡ b → b ≡ false
apart l true e =
    let first : 100 + l % 100 ≡ l % 100 = ap (λ xs. get_or xs 0 0) ((bytes_eq-Decides (new_content l) (old_content l)).0 e) in absurd (omega (arith, first))
apart l false e = refl

-- what was asked is called so
pub called_for : (a : Asked) (l : ℕ) → called l (content_for a l) ≡ stands_for a
called_for Nothing l = sym (called_old l (old_content l) (same (old_content l)))
called_for asked.New l = sym (called_new l (new_content l) (apart l _ refl) (same (new_content l)))
