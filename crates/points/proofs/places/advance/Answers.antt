-- From the last place down, those without room go back to 0, and the first with room goes one up.
use Rattle.std.proofs.Common.{◌≡◌, ℕ, ◌-◌, ◌<◌, get_or, sym, refl, subst, arith}
use Rattle.points.proofs.Turning.{Turning, turning_start, turning_room, turning_more, turning_changed, turning_done}
use Rattle.points.proofs.places.advance.Goals as goal

pub loop-i-init : goal.loop-i-init
loop-i-init c = turning_start c.args.counts.now c.args.places.now (sym c.if-places-counts.false)

pub returns-then-places-i : goal.returns-then-places-i
returns-then-places-i c =
    let e = sym c.if-places-counts.false in
    let counts = c.args.counts.now in
    let before = c.args.places.now in
    let room : get_or c.loop-i.places (c.loop-i.i - 1) 0 < get_or counts (c.loop-i.i - 1) 0 - 1 = omega (arith, c.if-places-i.true, c.saturating_sub-last.ensures) in (
      e,
      turning_room counts before c.loop-i.i c.loop-i.places e c.loop-i.invariant c.loop-i-test.true room,
      turning_changed counts before c.loop-i.i c.loop-i.places e c.loop-i.invariant c.loop-i-test.true _ refl,
    )

pub loop-i-preserved : goal.loop-i-preserved
loop-i-preserved c =
    turning_more c.args.counts.now c.args.places.now c.loop-i.i c.loop-i.places (sym c.if-places-counts.false) c.loop-i.invariant c.loop-i-test.true (omega (arith, c.if-places-i.false, c.saturating_sub-last.ensures))

pub returns : goal.returns
returns c =
    let e = sym c.if-places-counts.false in
    let counts = c.args.counts.now in
    let before = c.args.places.now in
    let z : c.loop-i.i ≡ 0 = omega (arith, c.loop-i-test.false) in
    let d = turning_done counts before c.loop-i.places e (subst (λ (n : ℕ). Turning counts before n c.loop-i.places) z c.loop-i.invariant) in
    (e, d.0, d.1)
