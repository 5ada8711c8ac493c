-- The steps of a closing, and the notes after it.
use Rattle.std.proofs.Common.{◌≡◌, ℕ, [], ◌∷◌, None, refl, arith}
use Rattle.memory.specs.Meaning.{Line}
use Rattle.layout.specs.declared.block.BlockEntry.{BlockEntry}
use Rattle.layout.specs.declared.open.OpenRecord.{OpenRecord}
use Rattle.layout.specs.declared.sizes.Sizes.{Sizes}
use Rattle.layout.specs.Block.{counting}
use Rattle.layout.specs.Places.{header_line, entry_line}
use Rattle.header.specs.declared.Header.{Header}
use Rattle.header.specs.Header.{written}
use Rattle.undo_log.specs.Steps.{write, fence, enter}
use Rattle.undo_log.specs.Closing.{Notes, noting, closing, record_place, header_of, bucket_before}

-- the header's line
pub first_line : (s : Sizes) (b r l : ℕ) → l ≡ entry_line s b r 0 → l ≡ header_line s b r
first_line s b r l e = omega arith

pub the_steps : (s : Sizes) (e d f : BlockEntry) (was be k l : ℕ) (o : OpenRecord) (h : Header) (bs : Line)
    → l ≡ entry_line s o.id.bucket o.id.slot 0 → bs ≡ written h → d ≡ e → be ≡ was → h ≡ header_of s d be k o → f ≡ counting d o.id.bucket o.id.slot
    → write l bs (record_place k o) ∷ fence (record_place k o) ∷ enter k f ∷ [] ≡ closing s e was k o
the_steps s e d f was be k l o h bs p q a b r t =
    let line = first_line s o.id.bucket o.id.slot l p in
    rw (line, q, r, t, a, b) refl

pub the_notes : (n m : Notes) (e d : BlockEntry) (was be k : ℕ) (o : OpenRecord) (s : Sizes) (h : Header) → m ≡ n → d ≡ e → be ≡ was → h ≡ header_of s d be k o
    → noting m k None h.before ≡ noting n k None (bucket_before e was o)
the_notes n m e d was be k o s h p a b r = rw (p, r, a, b) refl
