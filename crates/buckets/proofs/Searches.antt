-- What the search from the lowest bucket on finds is the lowest.
use Rattle.std.proofs.Common.{◌≡◌, ℕ, zero, suc, ◌+◌, ◌<◌, ◌≤◌, Bool, true, false, List, Some, None, Option, sym, ap, ◌∙◌, ⊎_elim, arith}
use Rattle.std.proofs.lemmas.Bool.{cases_Bool, cases_eq, both_ways}
use Rattle.layout.specs.declared.block.BlockEntry.{BlockEntry}
use Rattle.layout.specs.declared.«open».OpenRecord.{OpenRecord}
use Rattle.buckets.specs.Buckets.{free, lowest_free, Free, LowestFree}
use Rattle.buckets.proofs.Tests.{free_is, free_test}

-- what the search tells of any test
record Lowest (f : ℕ → Bool) (n b : ℕ) (r : Option ℕ) : Type 0 where
  pub some : (t : ℕ) → r ≡ Some t → (t < b + n) × (f t ≡ true) × ((c : ℕ) → b ≤ c → c < t → f c ≡ false)
  pub none : r ≡ None → (c : ℕ) → b ≤ c → c < b + n → f c ≡ false

here : (f : ℕ → Bool) (n b : ℕ) → f b ≡ true → Lowest f (suc n) b (Some b)
here f n b h =
    record {
      some = λ t e. let q : b ≡ t = cc in (omega arith, ap f (sym q) ∙ h, λ c u v. absurd (omega arith));
      none = λ e c u v. cc;
    }

later : (f : ℕ → Bool) (n b : ℕ) (r : Option ℕ) → f b ≡ false → Lowest f n (b + 1) r → Lowest f (suc n) b r
later f n b r h l =
    record {
      some = λ t e. let p = l.some t e in (omega arith, p.1, λ c u v. from c (λ w. p.2 c w v) u);
      none = λ e c u v. from c (λ w. l.none e c w (omega arith)) u;
    }
  where
    from : (c : ℕ) → (b + 1 ≤ c → f c ≡ false) → b ≤ c → f c ≡ false
    from c more u = ⊎_elim (λ (q : b ≡ c). ap f (sym q) ∙ h) (λ (q : b ≡ c → ⊥). more (omega arith)) (cases_eq b c)

lowest_of : (f : ℕ → Bool) (n b : ℕ) → Lowest f n b (lowest_free f n b)
lowest_of f zero b =
    record {
      some = λ t e. cc;
      none = λ e c u v. absurd (omega arith);
    }
lowest_of f (suc n) b =
    ⊎_elim
    (λ (h : f b ≡ true). rw h (here f n b h))
    (λ (h : f b ≡ false). rw h (later f n b (lowest_free f n (b + 1)) h (lowest_of f n (b + 1))))
    (cases_Bool (f b))

pub lowest_free_lem : (block : List BlockEntry) (opens : List (Option OpenRecord)) (buckets : ℕ) (r : Option ℕ)
    → r ≡ lowest_free (free block opens) buckets 0 → LowestFree block opens buckets r
lowest_free_lem block opens buckets r e =
    record {
      some = λ b q. let p = l.some b (sym e ∙ q) in (omega arith, free_is block opens b p.1, λ c u k. taken c k (p.2 c (omega arith) u));
      none = λ q b u k. taken b k (l.none (sym e ∙ q) b (omega arith) (omega arith));
    }
  where
    l : Lowest (free block opens) buckets 0 (lowest_free (free block opens) buckets 0)
    l = lowest_of (free block opens) buckets 0

    taken : (c : ℕ) → Free block opens c → free block opens c ≡ false → ⊥
    taken c k f = both_ways _ f (free_test block opens c k)
