-- The header of one record: reading it, and what a header that fits says.
use Rattle.std.proofs.Common.{◌≡◌, ℕ, ◌<◌, ◌≤◌, Bool, true, false, cond, [], length, Some, None, Ok, Err, Option, Result, MatchOption, sym, refl, ap, ◌∙◌, subst, ⊎_elim}
use Rattle.std.proofs.lemmas.List.{get_or_past}
use Rattle.std.proofs.lemmas.Bool.{cases_lt, cond-true, cond-false, and_parts, ltb-true, eqb-true}
use Rattle.std.proofs.lemmas.Option.{cond_some}
use Rattle.std.specs.Bool.{then_some}
use Rattle.std.specs.Result.{result_ok}
use Rattle.memory.specs.Meaning.{Meaning, Line, Reads, content_at}
use Rattle.memory.specs.declared.fault.MemoryFault.{MemoryFault}
use Rattle.memory.proofs.Told.{was_read}
use Rattle.layout.specs.declared.block.BlockEntry.{BlockEntry}
use Rattle.layout.specs.declared.sizes.Sizes.{Sizes}
use Rattle.layout.specs.Places.{header_line, in_log}
use Rattle.header.specs.declared.Header.{Header}
use Rattle.header.specs.Header.{read_header}
use Rattle.header.proofs.Good.{reads_nothing}
use Rattle.undo_log.specs.Closing.{State}
use Rattle.recovery.specs.declared.walk.Cursor.{Cursor}
use Rattle.recovery.specs.Cursor.{header_here}
use Rattle.recovery.specs.Walk.{fits, fitting, header_at}

-- a header that is read

ok_read : (q : Result Line MemoryFault) (bs : Line) → Some bs ≡ result_ok q → q ≡ Ok bs
ok_read (Ok x) bs e = cc
ok_read (Err f) bs e = cc e

read_gives : (m : Meaning) (l : ℕ) (q : Result Line MemoryFault) (bs : Line) → Reads m l q → Some bs ≡ result_ok q → content_at m l ≡ bs
read_gives m l q bs h e = sym (was_read m l bs (subst (Reads m l) (ok_read q bs e) h))

read_fails : (m : Meaning) (l : ℕ) (q : Result Line MemoryFault) → m.on ≡ true → Reads m l q → None ≡ result_ok q → content_at m l ≡ []
read_fails m l q on h e =
    ⊎_elim
    (λ (p : l < length m.lines). cc (e, ap result_ok (h.done p on)))
    (λ (p : length m.lines ≤ l). get_or_past m.lines l [] p)
    (cases_lt l (length m.lines))

there : (s : Sizes) (f : ℕ → Line) (k : ℕ) (e : BlockEntry) (n b r : ℕ) → in_log s b r ≡ true
    → header_at s f k e n b r ≡ fitting s k e n (read_header s (f (header_line s b r)))
unfolding header_at
there s f k e n b r h = cond-true _ _ None h

not_there : (s : Sizes) (f : ℕ → Line) (k : ℕ) (e : BlockEntry) (n b r : ℕ) → in_log s b r ≡ false → None ≡ header_at s f k e n b r
unfolding header_at
not_there s f k e n b r h = sym (cond-false _ _ None h)

-- t are the sizes of the log s as they are told
module _ (s : State) (c : Cursor) (n : ℕ) (t : Sizes) (e : t ≡ s.notes.sizes) where
  by_sizes : header_at t (content_at s.world.memory) c.core c.held n c.id.bucket c.id.slot ≡ header_here s c n
  by_sizes = ap (λ (t : Sizes). header_at t (content_at s.world.memory) c.core c.held n c.id.bucket c.id.slot) e

  -- no such record
  pub header_outside : in_log t c.id.bucket c.id.slot ≡ false → None ≡ header_here s c n
  header_outside h = not_there t (content_at s.world.memory) c.core c.held n c.id.bucket c.id.slot h ∙ by_sizes

  -- its line l is read from m, with the answer q
  module _ (m : Meaning) (l : ℕ) (q : Result Line MemoryFault) (same : m ≡ s.world.memory) (on : s.world.memory.on ≡ true)
      (h : in_log t c.id.bucket c.id.slot ≡ true) (at : l ≡ header_line t c.id.bucket c.id.slot) (x : Reads m l q) where
    line_holds : (bs : Line) → content_at s.world.memory l ≡ bs → fitting t c.core c.held n (read_header t bs) ≡ header_here s c n
    line_holds bs y =
        ap (λ (bs : Line). fitting t c.core c.held n (read_header t bs)) (sym y ∙ ap (content_at s.world.memory) at)
        ∙ sym (there t (content_at s.world.memory) c.core c.held n c.id.bucket c.id.slot h) ∙ by_sizes

    pub header_unread : None ≡ result_ok q → None ≡ header_here s c n
    header_unread p =
        ap (fitting t c.core c.held n) (sym (reads_nothing t))
        ∙ line_holds [] (read_fails s.world.memory l q on (subst (λ (m : Meaning). Reads m l q) same x) p)

    pub header_read : (bs : Line) (o : Option Header) → Some bs ≡ result_ok q → o ≡ read_header t bs → fitting t c.core c.held n o ≡ header_here s c n
    header_read bs o p i =
        ap (fitting t c.core c.held n) i ∙ line_holds bs (read_gives s.world.memory l q bs (subst (λ (m : Meaning). Reads m l q) same x) p)

then_cond : (b : Bool) (h : Header) → then_some b h ≡ cond b (Some h) None
then_cond true h = refl
then_cond false h = refl

-- a filter by a test that says whether a header fits
pub filtered : (s : Sizes) (k : ℕ) (e : BlockEntry) (n : ℕ) (P : Header → Bool → Type 0) (o r : Option Header)
    → MatchOption o (r ≡ None) (λ h. (b : Bool) × P h b × (r ≡ then_some b h)) → ((h : Header) (b : Bool) → P h b → b ≡ fits s k e n h) → r ≡ fitting s k e n o
filtered s k e n P None r m t = m
filtered s k e n P (Some h) r m t = m.2 ∙ ap (λ (b : Bool). then_some b h) (t h m.0 m.1) ∙ then_cond (fits s k e n h) h

-- what a header that fits says

some_fits : (s : Sizes) (k : ℕ) (e : BlockEntry) (n : ℕ) (o : Option Header) (h : Header) → Some h ≡ fitting s k e n o → (o ≡ Some h) × (fits s k e n h ≡ true)
some_fits s k e n None h q = cc
some_fits s k e n (Some x) h q = let (p, y) = cond_some (fits s k e n x) x h (sym q) in (ap Some y, ap (fits s k e n) (sym y) ∙ p)

pub record There (s : Sizes) (f : ℕ → Line) (n b r : ℕ) (h : Header) : Type 0 where
  pub bucket : b < s.buckets
  pub slot : r < s.records
  pub good : read_header s (f (header_line s b r)) ≡ Some h
  pub number : h.number ≡ n

-- it lies in the log, its line holds a good header, and the number is right
pub header_there : (s : Sizes) (f : ℕ → Line) (k : ℕ) (e : BlockEntry) (n b r : ℕ) (h : Header) → Some h ≡ header_at s f k e n b r → There s f n b r h
unfolding header_at
header_there s f k e n b r h q = go (in_log s b r) refl q
  where
    go : (t : Bool) → in_log s b r ≡ t → Some h ≡ cond t (fitting s k e n (read_header s (f (header_line s b r)))) None → There s f n b r h
    go true t q =
        let p = and_parts _ _ t in
        let x = some_fits s k e n _ h q in
        let y = and_parts _ _ (and_parts _ _ x.1).0 in
        record { bucket = ltb-true b s.buckets p.0; slot = ltb-true r s.records p.1; good = x.0; number = eqb-true h.number n y.1 }
    go false t q = cc q
