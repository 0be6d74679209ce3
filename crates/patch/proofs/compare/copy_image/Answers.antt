-- After n turns the first n sectors are those of the other store.
use Rattle.std.proofs.Common.{◌≡◌, [], get_or, set, ap, ◌∙◌, arith}
use Rattle.patch.proofs.Copying.{copied_more}
use Rattle.patch.proofs.compare.copy_image.Goals as goal

pub loop-n-preserved : goal.loop-n-preserved
loop-n-preserved g c =
    let a = g.A.ImageStore.sectors c.args.from.now in
    let b = g.B.ImageStore.sectors c.args.to.now in
    let n = c.loop-n.n in
    let w : g.B.ImageStore.sectors c.write.new.self ≡ set (g.B.ImageStore.sectors c.loop-n.to) n (get_or a n []) = grind arith in (
      w ∙ ap (λ x. set x n (get_or a n [])) c.loop-n.invariant.0 ∙ copied_more a b n (omega arith) (omega arith),
      g.B.ImageStore.onward c.args.to.now c.loop-n.to c.write.new.self c.loop-n.invariant.1 c.write.ensures.kept,
    )
