-- Due are the sectors that may take another candidate.
use Rattle.std.proofs.Common.{◌≡◌, [], length, None, refl, arith, rules}
use Rattle.std.proofs.lemmas.List.{length-take-le}
use Rattle.image.specs.Shown.{shown}
use Rattle.standing.specs.Places.{wavers}
use Rattle.standing.proofs.Stepping.{moved_rows, on_over, last_over}
use Rattle.standing.proofs.choice.Choice.advance.Goals as goal

pub returns-in_default-clause-onward : goal.returns-in_default-clause-onward
returns-in_default-clause-onward g c =
    let sectors = g.S.ImageStore.sectors in
    let self = c.args.self.now in
    let image = shown sectors c.args.state.now in
    let few = c.count-count.ensures.few in
    let placed = self.placed in
    let part = length-take-le c.count-count.result self.places (omega arith) in
    let long : length c.advance.new.places ≡ c.count-count.result = omega (arith, c.advance.auto.places) in
    let none = moved_rows c.count-count.result _ _ _ _ _ [] _ _ None self.counted refl c.in_default.ensures long refl c.advance.ensures in
    last_over (sectors c.args.state.now.below) image image c.args.trace.now self self c.count-count.result c.count-count.ensures.number none

pub returns-clause-onward : goal.returns-clause-onward
returns-clause-onward g c =
    let sectors = g.S.ImageStore.sectors in
    let self = c.args.self.now in
    let put = c.put_due.ensures.image (wavers self) (λ s b said. search rules) in
    let few = c.count-count.ensures.few in
    let placed = self.placed in
    let part = length-take-le c.count-count.result self.places (omega arith) in
    let long : length c.advance.new.places ≡ c.count-count.result = omega (arith, c.advance.auto.places) in
    let moved = moved_rows c.count-count.result _ _ _ _ _ _ _ _ _ self.counted refl c.in-Some.ensures long refl c.advance.ensures in
    on_over (sectors c.args.state.now.below) (shown sectors c.args.state.now) (shown sectors c.put_due.new.state) c.args.trace.now self _ c.count-count.result c.count-count.ensures.number c.in-Some.first c.count-count.ensures.shaped refl moved put
