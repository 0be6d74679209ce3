use Rattle.std.proofs.Common.{◌≡◌, true, false, rules}
use Rattle.std.proofs.lemmas.Iterator.{first_from_Range}
use Rattle.meaning.specs.Judgements.{is_fine}
use Rattle.judging.specs.Tables.{values_in}
use Rattle.judging.proofs.Finding.{judged_by}
use Rattle.judging.proofs.values.Values.judge.Goals as goal

pub returns : goal.returns
returns c =
    let values = values_in c.args.self.now in
    let nodes = c.args.tree.now.nodes in
    judged_by values nodes c.find.result c.map_or.result
    (first_from_Range _ _ _ c.find.result (λ n. is_fine values nodes n ≡ false) (λ n. is_fine values nodes n ≡ true) c.find.ensures.ran (λ x q h. search rules) (λ x q h. (search rules, search rules)))
    (λ e. search rules)
    (λ i e. search rules)
