-- Straight memory is sound at every moment: the proof of the law, which has to stand here.
use Rattle.std.specs.Prelude.{◌≡◌, ℕ, zero, suc, true, replicate, slice_index_or, refl}
use Rattle.std.proofs.Common.{sym, ◌∙◌}
use Rattle.std.proofs.lemmas.List.{length-replicate}
use Rattle.lines.specs.Lines.{count_of, lines_of}
use Rattle.lines.proofs.Rows.{lines_length, lines_whole}
use Rattle.memory.specs.Meaning.{Sound}
use Rattle.memory.proofs.Ways.{sound_kind}
use Rattle.straight.specs.declared.Straight.{Straight}
use Rattle.straight.specs.Straight.{bytes_in, meant}

pub all_durable : (n k : ℕ) → slice_index_or (replicate n true) k true ≡ true
all_durable zero k = refl
all_durable (suc n) zero = refl
all_durable (suc n) (suc k) = all_durable n k

pub always_sound : (s : Straight) → Sound (meant s)
always_sound s =
    sound_kind (lines_of (bytes_in s)) (replicate (count_of (bytes_in s)) true) s.power
    (length-replicate (count_of (bytes_in s)) true ∙ sym (lines_length (bytes_in s)))
    (lines_whole (bytes_in s)) (λ _ l. all_durable (count_of (bytes_in s)) l)
