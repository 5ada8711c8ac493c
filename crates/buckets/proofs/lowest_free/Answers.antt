use Rattle.std.proofs.Common.{◌≡◌, sym, ◌∙◌, refl, rules, arith}
use borrow.Author.Tests.{tests}
use Rattle.std.proofs.lemmas.Iterator.{YieldsList-from_range}
use Rattle.std.proofs.lemmas.Iterator.Search.{find_from_yields_List}
use Rattle.std.proofs.lemmas.Iterator.Adapters.{option_map_id}
use Rattle.buckets.specs.Buckets.{free, lowest_free}
use Rattle.buckets.proofs.Searches.{lowest_free_lem}
use Rattle.buckets.proofs.lowest_free.Goals as goal

pub returns : goal.returns
returns c =
    let found : c.find.result ≡ lowest_free (free c.args.block.now c.args.«open».now) c.args.buckets 0 =
    sym (option_map_id c.find.result)
    ∙ find_from_yields_List (free c.args.block.now c.args.«open».now) _ _ _ c.find.ensures.ran (YieldsList-from_range 0 c.args.buckets c.args.buckets refl (omega arith)) (λ x b q k. search (rules, tests)) in
    record { found = found; lowest = lowest_free_lem _ _ _ _ found }
