-- Due are the sectors that take another candidate than their base content.
use Rattle.std.proofs.Common.{ap, rules}
use Rattle.standing.specs.Places.{differs}
use Rattle.standing.proofs.Stepping.{lay_over}
use Rattle.standing.proofs.choice.Choice.lay.Goals as goal

pub returns-clause-stands : goal.returns-clause-stands
returns-clause-stands g c =
    let sectors = g.S.ImageStore.sectors in
    let self = c.args.self.now in
    let put = c.put_due.ensures.image (differs self) (λ s b said. search rules) in
    lay_over (sectors c.args.state.now.below) (sectors c.forget.new.self.below) _ _ c.args.trace.now self (ap sectors c.forget.ensures.below) c.forget.ensures.same c.put_due.ensures.shaped put
