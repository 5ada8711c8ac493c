-- A start with an empty block: it is a block, and every log is in order and without records.
use Rattle.std.proofs.Common.{◌≡◌, ℕ, zero, suc, ◌-◌, ◌≤◌, min, true, false, List, [], length, take, replicate, None, Option, Result, sym, refl, ap, ◌∙◌, subst, ⊎_elim, arith}
use Rattle.std.proofs.lemmas.List.{length-replicate, take-replicate}
use Rattle.std.proofs.lemmas.Bool.{and_parts, and_from, leb-true, eq-eqb, cases_Bool}
use Rattle.memory.specs.Meaning.{Line, content_at}
use Rattle.layout.specs.declared.block.BlockEntry.{BlockEntry}
use Rattle.layout.specs.declared.open.OpenRecord.{OpenRecord}
use Rattle.layout.specs.declared.sizes.Sizes.{Sizes}
use Rattle.layout.specs.Block.{empty, entry_at, records_of, all_sound, block_sound}
use Rattle.layout.specs.Sizes.{sizes_fit}
use Rattle.layout.proofs.Blocks.{block_rules}
use Rattle.undo_log.specs.declared.fault.LogFault.{LogFault}
use Rattle.undo_log.specs.Calls.{Starts}
use Rattle.undo_log.specs.Closing.{state_of, Notes, blank_notes}
use Rattle.undo_log.specs.Steps.{World}
use Rattle.recovery.specs.Walk.{finds, walk_of}
use Rattle.survival.specs.Calls.{Begins, OrderlyStart}
use Rattle.survival.specs.Held.{Holds}
use Rattle.survival.specs.Orderly.{Chained, Tidy, Orderly}
use Rattle.recovery.proofs.Records.{get_or-blank}
use Rattle.recovery.proofs.Walks.{walk_none}
use Rattle.survival.proofs.Added.{records_none}

all_empty : (s : Sizes) (n : ℕ) → all_sound s 0 (replicate n empty) ≡ true
unfolding all_sound
all_empty s zero = refl
all_empty s (suc n) = all_empty s n

empty_block : (s : Sizes) → block_sound s (replicate s.cores empty) ≡ true
empty_block s = and_from _ _ (eq-eqb _ s.cores (length-replicate s.cores empty)) (all_empty s s.cores)

few_cores : (s : Sizes) (n : ℕ) → sizes_fit s n ≡ true → s.cores ≤ 32
few_cores s n h = leb-true s.cores 32 (and_parts _ _ (and_parts _ _ (and_parts _ _ (and_parts _ _ h).0).0).1).1

pub begins : (s : Sizes) (es : List BlockEntry) (n : Notes) (w : World) (r : Result Unit LogFault) (n' : Notes) (w' : World) → Starts s es (state_of n w) r (state_of n' w')
    → (s.cores ≤ 32 → es ≡ replicate s.cores empty) → Begins s (state_of n w) r (state_of n' w')
begins s es n w r n' w' starts is =
    record {
      unfit = starts.unfit;
      done =
          λ fit.
          let same = is (few_cores s (length w.memory.lines) fit) in
          let (ok, (notes, (block, cuts))) = starts.done fit (ap (block_sound s) same ∙ empty_block s) in
          (ok, (notes, (block ∙ same, cuts)));
    }

-- the first so many of 32
pub first_empty : (cores n : ℕ) (e : BlockEntry) → n ≡ min cores 32 → e ≡ empty → cores ≤ 32 → take n (replicate 32 e) ≡ replicate cores empty
first_empty cores n e is_n is h =
    let same : n ≡ cores = omega arith in
    take-replicate n 32 e (omega arith) ∙ ap (λ (m : ℕ). replicate m e) same ∙ ap (replicate cores) is

-- ---- in order

-- an empty entry has no records
pub empty_walk : (s : Sizes) (lines : ℕ → Line) (k : ℕ) (e : BlockEntry) → e ≡ empty → walk_of s lines k e ≡ finds []
unfolding walk_of
empty_walk s lines k e is = walk_none s lines k e (records_of s e) e.current (e.closed - 1) (records_none s e is)

pub empty_holds : (s : Sizes) (w : World) (k : ℕ) → entry_at w.block k ≡ empty → Holds s w k []
empty_holds s w k is = record { walked = empty_walk s (content_at w.memory) k (entry_at w.block k) is; placed = tt; durable = tt }

-- no chain begins at an empty entry
pub empty_chained : (s : Sizes) (e : BlockEntry) (was : ℕ) → e ≡ empty → Chained s e was
empty_chained s e was is =
    let z : e.closed ≡ 0 = ap (λ (x : BlockEntry). x.closed) is in
    record { first = λ some _ _. absurd (omega arith); later = λ some _ _. absurd (omega arith) }

some_records : (s : Sizes) (n : ℕ) → sizes_fit s n ≡ true → 1 ≤ s.records
some_records s n h =
    let a = (and_parts _ _ h).0 in
    let b = and_parts _ _ (and_parts _ _ a).0 in
    let c = and_parts _ _ b.0 in
    leb-true 1 s.records (and_parts _ _ c.1).0

blank_tidy : (s : Sizes) → 1 ≤ s.records → Tidy (blank_notes s) (replicate s.cores empty)
blank_tidy s some =
    record {
      records = some;
      rules = block_rules s (replicate s.cores empty) (empty_block s);
      chained = λ k. empty_chained s _ _ (get_or-blank s.cores k empty);
      opened = λ k o is. cc (get_or-blank {A = Option OpenRecord} s.cores k None, is);
    }

pub orderly_start : (s : Sizes) (n : Notes) (w : World) (r : Result Unit LogFault) (n' : Notes) (w' : World) → Begins s (state_of n w) r (state_of n' w') → OrderlyStart r (state_of n' w')
orderly_start s n w r n' w' did ok k = ⊎_elim fit unfit (cases_Bool (sizes_fit s (length w.memory.lines)))
  where
    fit : sizes_fit s (length w.memory.lines) ≡ true → Orderly (state_of n' w') k []
    fit h =
        let (_, (notes, (block, _))) = did.done h in
        subst (λ (m : Notes). Orderly (state_of m w') k []) (sym notes)
        (record {
          tidy = subst (Tidy (blank_notes s)) (sym block) (blank_tidy s (some_records s (length w.memory.lines) h));
          holds = empty_holds s w' k (ap (λ (es : List BlockEntry). entry_at es k) block ∙ get_or-blank s.cores k empty);
        })

    unfit : sizes_fit s (length w.memory.lines) ≡ false → Orderly (state_of n' w') k []
    unfit h = cc (ok, (did.unfit h).0)
