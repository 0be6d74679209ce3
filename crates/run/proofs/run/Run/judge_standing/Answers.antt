-- The upper overlay holds nothing, so that recovery starts from the standing state.
use Rattle.std.proofs.Common.{◌≡◌, ℕ, not, eqb, refl, ap, ◌∙◌}
use Rattle.image.specs.Shown.{shown}
use Rattle.meaning.specs.Judgements.{judgement}
use Rattle.progress.specs.Moves.{judged_as}
use Rattle.judging.specs.Codes.{code_of}
use Rattle.judging.specs.Tables.{values_in}
use Rattle.run.specs.Events.{found_of}
use Rattle.run.specs.Seen.{subject, view}
use Rattle.run.proofs.Clean.{shown_clean}
use Rattle.run.proofs.Carrying.{carry_step}
use Rattle.run.proofs.Stepping.{judges}
use Rattle.run.proofs.run.Run.judge_standing.Goals as goal

pub returns-clause-goes : goal.returns-clause-goes
returns-clause-goes g c =
    let run = c.args.self.now in
    let p = run.progress in
    let found = c.judge_state-found.result in
    let o : ℕ = (code_of found).0 in
    let sectors = g.S.ImageStore.sectors in
    let outcome = g.F.FileSystem.outcome run.fs in
    let state = shown sectors run.layers.below in
    let moved : c.judge.new.self ≡ judged_as (not (eqb o 0)) p = c.judge.ensures ∙ ap (λ (x : ℕ × ℕ). judged_as (not (eqb x.0 0)) p) c.code-outcome.ensures in
    let j : code_of found ≡ judgement (values_in run.space.values) (outcome state) = c.judge_state-found.ensures.judged ∙ ap (λ x. judgement (values_in run.space.values) (outcome x)) (shown_clean (shown sectors) run.layers run.clean) in
    carry_step sectors outcome run.space c.judge_state-found.ensures.below moved (subject run) (view run) (found_of found) (judges g.F.FileSystem.LEAST outcome (sectors run.layers.below.below) state run.space p run.valid o (code_of found).1 c.requires j).1
