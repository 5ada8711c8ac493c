-- What a cut makes of a queued line: by two bits of the choice it stays old, is new, is torn or holds other bytes.
use Rattle.std.specs.Prelude.{ℕ, zero, suc, ◌*◌, ◌/◌, ◌%◌, ◌^◌, replicate}
use Rattle.lines.specs.Lines.{Line, torn}
use Rattle.queued.specs.declared.fate.Fate.{Fate}
use Rattle.queued.specs.declared.fate.Fate.TheVariants.{Old, New, Torn, Other}

-- 0 old, 1 new, 2 torn, 3 other
abbrev pub fate_of : ℕ → Fate
fate_of zero = Old
fate_of (suc zero) = New
fate_of (suc (suc zero)) = Torn
fate_of (suc (suc (suc n))) = Other

-- the fate of entry i: bits 2 i and 2 i + 1 of the choice
abbrev pub fate_at : ℕ → ℕ → Fate
fate_at choice i = fate_of (choice / 2 ^ (2 * i) % 4)

-- what stands in the line after the cut
abbrev pub survivor : Fate → Line → Line → Line
survivor Old old new = old
survivor New old new = new
survivor Torn old new = torn old new
survivor Other old new = replicate 64 165
