-- A word that fails is the lowest to fail; 16 that pass are the tree.
use Rattle.std.proofs.Common.{◌≡◌, true, false, cond, is_ok, [], ◌∷◌, ◌++◌, length, get_or, length-append, ap, ◌∙◌, arith, rules, below_more}
use Rattle.std.proofs.lemmas.Grind.{common_steps}
use Rattle.tree.specs.Lists.{listed}
use Rattle.tree.specs.declared.node.Node.TheVariants.{Absent}
use Rattle.filesystem.specs.Outcomes.{a_fault, told}
use Rattle.filesystem.specs.declared.fault.Fault.TheVariants.{NodeWord}
use Rattle.filesystem.specs.Words.{word_at}
use Rattle.filesystem.specs.Trees.{node_of, node_word, node_stands}
use Rattle.filesystem.proofs.Laying.{whole, broken, answered, more}
use Rattle.filesystem.proofs.reading.read_tree.Goals as goal

pub returns-in_err-map_err-clause-told : goal.returns-in_err-map_err-clause-told
returns-in_err-map_err-clause-told g c =
    let im = g.S.ImageStore.sectors c.args.image.now in
    let k = c.loop-k.k in
    let i = c.loop-k.invariant in
    let nodes = listed c.loop-k.builder.nodes in
    let is : c.word_at.result ≡ node_word im k = c.word_at.ensures ∙ ap (λ s. word_at s k) c.fetch-sector.ensures.sector in
    let bad : is_ok c.lay_word.result ≡ false = search rules in
    let fault : told c.from_residual.result c.args.tree.now.nodes ≡ a_fault (NodeWord k) = search rules in
    fault ∙ broken c.args.lowest im k (omega arith) i.2 (answered c.args.lowest im k (omega arith) i.2 nodes i.1 _ c.word_at.result (length nodes) i.0 is c.lay_word.ensures.answer ∙ bad)

pub loop-k-preserved : goal.loop-k-preserved
loop-k-preserved g c =
    let im = g.S.ImageStore.sectors c.args.image.now in
    let k = c.loop-k.k in
    let i = c.loop-k.invariant in
    let nodes = listed c.loop-k.builder.nodes in
    let w = c.word_at.result in
    let is : w ≡ node_word im k = c.word_at.ensures ∙ ap (λ s. word_at s k) c.fetch-sector.ensures.sector in
    let good : is_ok c.lay_word.result ≡ true = search rules in
    let stands : node_stands c.args.lowest im k ≡ true = answered c.args.lowest im k (omega arith) i.2 nodes i.1 _ w (length nodes) i.0 is c.lay_word.ensures.answer ∙ good in
    let laid : listed c.lay_word.new.builder.nodes ≡ nodes ++ node_of im w ∷ [] = c.lay_word.ensures.nodes ∙ ap (λ t. cond t (nodes ++ node_of im w ∷ []) nodes) good in (
      omega (arith, ap length laid, length-append nodes (node_of im w ∷ [])),
      (λ j l. ap (λ ns. get_or ns j Absent) laid ∙ more c.args.lowest im k (omega arith) i.2 nodes i.1 w i.0 is j l),
      below_more _ k i.2 stands,
    )

pub returns-clause-told : goal.returns-clause-told
returns-clause-told g c = grind (arith, common_steps, whole)
