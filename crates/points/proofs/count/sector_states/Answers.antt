use Rattle.std.proofs.Common.{below_more, ◌≡◌, ℕ, length, ap, ◌∙◌, arith, rules}
use Rattle.crash.specs.Ranks.{product}
use Rattle.trace.specs.Meaning.{recording_of}
use Rattle.candidates.specs.Gathering.{NoneAbove, numbers_at}
use Rattle.candidates.specs.Lists.{listed}
use Rattle.points.specs.Counting.{widths, capped}
use Rattle.points.proofs.Multiplying.{width_more}
use Rattle.points.proofs.Limiting.{sector_declined}
use Rattle.points.proofs.count.sector_states.Goals as goal

pub returns-in_err-few : goal.returns-in_err-few
returns-in_err-few g c = search (rules, sector_declined)

pub loop-s-preserved : goal.loop-s-preserved
loop-s-preserved g c =
    let d = recording_of (g.S.ImageStore.sectors c.args.base.now) c.args.trace.now in
    let p = c.args.point in
    let h = c.in_ok-few.ensures in (
      width_more d p c.loop-s.s c.loop-s.states (length c.values.result.now) c.widened-states.result (listed c.in_ok-few.few) c.loop-s.invariant.0 h.2 (ap length c.values.ensures.values) c.widened-states.ensures,
      below_more (λ (k : ℕ). NoneAbove (numbers_at d k) p) c.loop-s.s c.loop-s.invariant.1 h.1,
    )

pub returns : goal.returns
returns g c =
    let image = g.S.ImageStore.sectors c.args.base.now in
    let d = recording_of image c.args.trace.now in
    let p = c.args.point in
    let e : c.loop-s.s ≡ length image = omega (arith, c.count-s-end.ensures.number, c.loop-s-test.false, c.loop-s.auto.s-end) in (
      λ s h. c.loop-s.invariant.1 s (omega arith),
      c.loop-s.invariant.0 ∙ ap (λ (n : ℕ). capped (product (widths d p n))) e,
    )
