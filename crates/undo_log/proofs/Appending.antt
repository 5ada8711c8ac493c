-- An entry written, and the closing at the seventh.
use Rattle.std.proofs.Common.{◌≡◌, ℕ, ◌+◌, true, false, eqb, List, [], Some, Ok, Err, Result, sym, refl, ap, ◌∙◌, subst}
use Rattle.std.proofs.lemmas.Bool.{cond-true, cond-false, eq-eqb, ne_eqb}
use Rattle.memory.specs.Meaning.{Line}
use Rattle.layout.specs.declared.block.BlockEntry.{BlockEntry}
use Rattle.layout.specs.declared.open.OpenRecord.{OpenRecord}
use Rattle.layout.specs.Block.{entry_at}
use Rattle.layout.specs.Places.{entry_line}
use Rattle.undo_log.specs.declared.fault.LogFault.{LogFault}
use Rattle.undo_log.specs.Steps.{World, Step, write, Does, Ran}
use Rattle.undo_log.specs.Open.{with_line}
use Rattle.undo_log.specs.Closing.{state_of, Notes, before_at, with_open, record_place, closing, closed_notes, ClosesRecord}
use Rattle.undo_log.specs.Append.{appended_notes, AppendsTo}

closed_notes_lem : (n : Notes) (e : BlockEntry) (k : ℕ) (o : OpenRecord) (l : ℕ) (r : Result Unit LogFault) → eqb (o.count + 1) 7 ≡ true → closed_notes r n e k (with_line o l) ≡ appended_notes r n e k o l
closed_notes_lem n e k o l (Ok x) t = sym (cond-true _ _ _ t)
closed_notes_lem n e k o l (Err f) t = refl

-- the write, and then the closing
pub seventh : (n m n' : Notes) (w v w' : World) (k : ℕ) (o o' : OpenRecord) (l f : ℕ) (c : Line) (r : Result Unit LogFault) → f ≡ entry_line n.sizes o.id.bucket o.id.slot (o.count + 1)
    → Does (write f c (record_place k o)) w (Ok tt) v → m ≡ n → o' ≡ with_line o l → o'.count ≡ 7 → ClosesRecord (state_of m v) k o' r (state_of n' w') → AppendsTo (state_of n w) k o l c r (state_of n' w')
seventh n m n' w v w' k o o' l f c r e d same is seven closes =
    let t : eqb (o.count + 1) 7 ≡ true = eq-eqb (o.count + 1) 7 (sym (ap (λ (x : OpenRecord). x.count) is) ∙ seven) in
    let b : v.block ≡ w.block = d.1.1.1 in
    let ran : Ran (closing n.sizes (entry_at w.block k) (before_at n k) k (with_line o l)) v r w' =
    subst (λ (o : OpenRecord). Ran (closing n.sizes (entry_at w.block k) (before_at n k) k o) v r w') is
    (subst (λ (b : List BlockEntry). Ran (closing n.sizes (entry_at b k) (before_at n k) k o') v r w') b
    (subst (λ (n : Notes). Ran (closing n.sizes (entry_at v.block k) (before_at n k) k o') v r w') same closes.ran)) in
    record {
      ran = (
        Ok tt,
        (
          v,
          (
            subst (λ (f : ℕ). Does (write f c (record_place k o)) w (Ok tt) v) e d,
            subst (λ (ss : List Step). Ran ss v r w') (sym (cond-true _ _ [] t)) ran,
          ),
        ),
      );
      notes = closes.notes ∙ ap (λ (m : Notes). closed_notes r m (entry_at v.block k) k o') same ∙ ap (λ (b : List BlockEntry). closed_notes r n (entry_at b k) k o') b
          ∙ ap (closed_notes r n (entry_at w.block k) k) is ∙ closed_notes_lem n (entry_at w.block k) k o l r t;
    }

-- the write alone
pub before_seventh : (n m n' : Notes) (w v : World) (k : ℕ) (o o' : OpenRecord) (l f : ℕ) (c : Line) → f ≡ entry_line n.sizes o.id.bucket o.id.slot (o.count + 1)
    → Does (write f c (record_place k o)) w (Ok tt) v → m ≡ n → o' ≡ with_line o l → (o'.count ≡ 7 → ⊥) → n' ≡ with_open m k (Some o')
    → AppendsTo (state_of n w) k o l c (Ok tt) (state_of n' v)
before_seventh n m n' w v k o o' l f c e d same is less new =
    let t : eqb (o.count + 1) 7 ≡ false = ne_eqb (o.count + 1) 7 (λ q. less (ap (λ (x : OpenRecord). x.count) is ∙ q)) in
    record {
      ran = (
        Ok tt,
        (
          v,
          (
            subst (λ (f : ℕ). Does (write f c (record_place k o)) w (Ok tt) v) e d,
            subst (λ (ss : List Step). Ran ss v (Ok tt) v) (sym (cond-false _ (closing n.sizes (entry_at w.block k) (before_at n k) k (with_line o l)) [] t)) (refl, refl),
          ),
        ),
      );
      notes = new ∙ ap (λ (m : Notes). with_open m k (Some o')) same ∙ ap (λ (o : OpenRecord). with_open n k (Some o)) is ∙ sym (cond-false _ _ _ t);
    }
