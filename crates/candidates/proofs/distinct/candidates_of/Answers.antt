use Rattle.std.proofs.Common.{◌<◌, length, arith, rules}
use Rattle.trace.specs.Meaning.{recording_of}
use Rattle.candidates.specs.Lists.{listed}
use Rattle.candidates.proofs.Leaving.{left_candidates, found_declined}
use Rattle.candidates.proofs.distinct.candidates_of.Goals as goal

pub returns-in_err-numbers : goal.returns-in_err-numbers
returns-in_err-numbers g c =
    let image = g.S.ImageStore.sectors c.args.base.now in
    let inside : c.args.sector < length image = omega (arith, c.count.ensures.number, c.if-sector-count.false) in
    let h = c.in_err-numbers.ensures image in
    search (rules, found_declined)

pub returns : goal.returns
returns g c =
    let image = g.S.ImageStore.sectors c.args.base.now in
    let s = c.args.sector in
    let inside : s < length image = omega (arith, c.count.ensures.number, c.if-sector-count.false) in
    let h = c.in_ok-numbers.ensures image in (
      inside,
      h.0,
      left_candidates (recording_of image c.args.trace.now) c.args.point s c.fetch-content.result (listed c.in_ok-numbers.numbers) (listed c.leave_out.result) (c.fetch-content.ensures.inside inside) h.1 c.leave_out.ensures,
    )
