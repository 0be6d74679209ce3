-- The sums of the sectors added up are that of all their words.
use Rattle.std.proofs.Common.{◌∙◌, ℕ, ◌+◌, ◌%◌, ◌^◌, refl, arith, rules}
use Rattle.std.proofs.lemmas.Iterator.{YieldsList-from_map_by, YieldsList-from_range}
use Rattle.std.proofs.lemmas.Iterator.Consumers.{YieldsList-at, fold_from_yields_List}
use Rattle.image.specs.Fetched.{sector_of}
use Rattle.journalled.specs.Journal.{word_sum}
use Rattle.journalled.proofs.Adding.{added, journal_added}
use Rattle.journalled.proofs.sums.journal_sum.Goals as goal

pub returns : goal.returns
unfolding added
returns g c =
    let k = c.args.size in
    let sum : ℕ → ℕ = λ n. word_sum (sector_of (g.S.ImageStore.sectors c.args.image.now) n) % 2 ^ 30 in
    fold_from_yields_List _ added 0 c.fold.result c.fold.ensures.ran
    (YieldsList-from_map_by _ (λ x. x) sum (YieldsList-at c.map.ensures.source (YieldsList-from_range 2 (k + 3) (k + 1) refl (omega arith))) c.map.ensures.closure (λ x r q k. search rules))
    (λ a x b q k. search rules)
    ∙ journal_added (g.S.ImageStore.sectors c.args.image.now) k sum (λ n. refl)
