use Rattle.std.proofs.Common.{◌≡◌, ℕ, ◌<◌, length, subst, arith}
use Rattle.trace.specs.Meaning.{recording_of}
use Rattle.standing.proofs.Listing.{ListedTo, listed_none, listed_more, listed_all}
use Rattle.standing.proofs.choice.Choice.at.Goals as goal

pub loop-s-init : goal.loop-s-init
loop-s-init g c = listed_none _ _ c.new-choice.result c.new-choice.ensures.places

pub loop-s-preserved : goal.loop-s-preserved
loop-s-preserved g c =
    let found = c.in_ok-candidates_of.ensures in
    let inside : c.loop-s.s < 64 = omega (arith, c.loop-s-test.true, c.count-s-end.ensures.few) in
    listed_more _ c.args.point c.loop-s.s c.loop-s.choice _ _ c.loop-s.invariant inside c.list.ensures.places c.list.ensures.lists found.2 found.1

pub returns : goal.returns
returns g c =
    let image = g.S.ImageStore.sectors c.args.base.now in
    let d = recording_of image c.args.trace.now in
    let few = c.count-s-end.ensures.few in
    let number = c.count-s-end.ensures.number in
    let e : c.loop-s.s ≡ length image = omega (arith, c.loop-s-test.false, c.loop-s.auto.s-end) in
    listed_all d c.args.point _ (omega arith) (subst (λ (n : ℕ). ListedTo d c.args.point n c.loop-s.choice) e c.loop-s.invariant)
