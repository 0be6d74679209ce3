-- The words added up are their sum.
use Rattle.std.proofs.Common.{◌∙◌, refl, arith, rules}
use Rattle.std.proofs.lemmas.Iterator.{YieldsList-from_map_by, YieldsList-from_range}
use Rattle.std.proofs.lemmas.Iterator.Consumers.{YieldsList-at, fold_from_yields_List}
use Rattle.filesystem.specs.Words.{word_at}
use Rattle.journalled.proofs.Adding.{added, sector_added}
use Rattle.journalled.proofs.sums.sector_sum.Goals as goal

pub returns : goal.returns
unfolding added
returns c =
    fold_from_yields_List _ added 0 c.fold.result c.fold.ensures.ran
    (YieldsList-from_map_by _ (λ x. x) (word_at c.args.sector.now) (YieldsList-at c.map.ensures.source (YieldsList-from_range 0 128 128 refl (omega arith))) c.map.ensures.closure (λ x r q k. search rules))
    (λ a x b q k. search rules)
    ∙ sector_added c.args.sector.now
