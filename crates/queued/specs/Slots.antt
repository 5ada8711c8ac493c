-- Queued writes: a list of entries, the oldest first, each a line with its new content.
use Rattle.std.specs.Prelude.{◌≡◌, ℕ, Bool, true, cond, not, ◌&&◌, List, [], ◌∷◌, length, replicate, reverse, find, Option, ◌==◌, slice_index_or}
use Rattle.std.specs.List.{list_any}
use Rattle.std.specs.Option.{option_map}
use Rattle.lines.specs.Lines.{Line}
use Rattle.queued.specs.declared.slot.Slot.{Slot}

abbrev pub slot : ℕ → Line → Slot
slot l c = record { line = l; content = c }

-- every entry has 64 bytes
abbrev pub Whole : List Slot → Type 0
Whole es = (i : ℕ) → length (slice_index_or es i (slot 0 (replicate 64 0))).content ≡ 64

-- some entry is of line l
abbrev pub is_queued : List Slot → ℕ → Bool
is_queued es l = list_any (λ e. e.line == l) es

-- no line is queued twice
abbrev pub distinct : List Slot → Bool
distinct [] = true
distinct (e ∷ es) = not (is_queued es e.line) && distinct es

-- what the newest entry of line l holds
abbrev pub newest : List Slot → ℕ → Option Line
newest es l = option_map (λ e. e.content) (find (λ e. e.line == l) (reverse es))

-- an entry of line l gets the content c in place
abbrev pub renewed : ℕ → Line → Slot → Slot
renewed l c e = cond (e.line == l) (slot l c) e
