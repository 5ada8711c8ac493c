-- What a line holds, and what that is called.
use Rattle.std.specs.Prelude.{ℕ, ◌+◌, ◌%◌, cond, List, replicate}
use Rattle.std.specs.Str.{bytes_eq}
use Rattle.lines.specs.Lines.{torn}
use Rattle.outage.specs.declared.content.Stands.{Stands}
use Rattle.outage.specs.declared.content.Stands.TheVariants.{Old, New, Torn, Other}

-- before the story begins
abbrev pub old_content : ℕ → List ℕ
old_content l = replicate 64 (l % 100)

-- what a write puts into line l
abbrev pub new_content : ℕ → List ℕ
new_content l = replicate 64 (100 + l % 100)

-- what the content x of line l is called
abbrev pub called : ℕ → List ℕ → Stands
called l x =
    cond (bytes_eq x (old_content l)) Old (cond (bytes_eq x (new_content l)) New (cond (bytes_eq x (torn (old_content l) (new_content l))) Torn Other))
