use Rattle.std.proofs.Common.{vec_items, sym, ap, ◌∙◌}
use Rattle.std.specs.Bool.{then_some}
use Rattle.candidates.proofs.Walking.{effect_step, step_turn}
use Rattle.candidates.proofs.sectors.turn.Goals as goal

pub returns : goal.returns
returns c = λ base held.
    rw (effect_step base c.args.trace.now c.args.number, sym c.step-step.ensures)
    (step_turn (vec_items c.args.trace.now.sectors) c.step-step.result c.args.sector c.args.number c.then_some.result held (c.then_some.ensures ∙ ap (λ b. then_some b c.args.number) c.covers-writes.ensures))
