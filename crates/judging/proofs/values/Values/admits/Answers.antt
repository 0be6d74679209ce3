use Rattle.std.proofs.Common.{◌≡◌, ap, ◌∙◌, rules}
use Rattle.std.specs.List.{list_any}
use Rattle.std.proofs.lemmas.Iterator.{YieldsList-from_slice}
use Rattle.std.proofs.lemmas.Iterator.Search.{any_from_yields_List}
use Rattle.meaning.specs.Judgements.{is_among, same_node}
use Rattle.judging.specs.Tables.{values_in}
use Rattle.judging.proofs.values.Values.admits.Goals as goal

pub returns : goal.returns
returns c =
    let x = c.node-node.result in
    let found : c.any.result ≡ list_any (λ y. same_node y x) c.of.result.now = any_from_yields_List (λ y. same_node y x) _ _ c.any.result c.any.ensures.ran (YieldsList-from_slice c.of.result.now cc) (λ y b q h. (search rules, search rules)) in
    found ∙ ap (is_among x) c.of.ensures ∙ ap (λ n. is_among n (values_in c.args.self.now c.args.n)) c.node-node.ensures
