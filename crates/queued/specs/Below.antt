-- Queued writes and the bytes below them.
use Rattle.std.specs.Prelude.{ℕ, suc, List, [], ◌∷◌, slice_set}
use Rattle.lines.specs.Lines.{Line, line_of, with_line}
use Rattle.queued.specs.declared.slot.Slot.{Slot}
use Rattle.queued.specs.Fates.{fate_at, survivor}

-- the lines below with the queued writes put in, in order of entry
unfoldable pub overlaid : List Line → List Slot → List Line
overlaid ls [] = ls
overlaid ls (e ∷ es) = overlaid (slice_set ls e.line e.content) es

-- the bytes after entries were moved down, in order of entry
unfoldable pub moved : List ℕ → List Slot → List ℕ
moved bs [] = bs
moved bs (e ∷ es) = moved (with_line bs e.line e.content) es

-- the bytes after a cut that meets these entries, the first of which has number i
unfoldable pub cut_down : ℕ → ℕ → List ℕ → List Slot → List ℕ
cut_down choice i bs [] = bs
cut_down choice i bs (e ∷ es) =
    cut_down choice (suc i) (with_line bs e.line (survivor (fate_at choice i) (line_of bs e.line) e.content)) es
