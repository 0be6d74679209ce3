-- One sector more is put, or passed over.
use Rattle.std.proofs.Common.{◌≡◌, cond, sym, ap, ◌∙◌, arith}
use Rattle.image.specs.Sectors.{Image}
use Rattle.image.specs.Shown.{shown}
use Rattle.crash.specs.Rules.{written}
use Rattle.trace.specs.Meaning.{recording_of}
use Rattle.standing.specs.Places.{chosen, replaced}
use Rattle.standing.proofs.Covering.{put_more}
use Rattle.standing.proofs.choice.Choice.put_due.Goals as goal
use Rattle.standing.proofs.choice.Choice.put_due.Goals.{then-due, else-due}

pub loop-s-preserved : goal.loop-s-preserved
loop-s-preserved g c =
    let sectors = g.S.ImageStore.sectors in
    let self = c.args.self.now in
    let s = c.loop-s.s in
    let before = shown sectors c.loop-s.state in
    let content = chosen (recording_of (sectors c.args.state.now.below) c.args.trace.now) self s in
    let put : Image = replaced before s content in
    let same : (c.if-due.state.below ≡ c.loop-s.state.below) × (shown sectors c.if-due.state ≡ cond c.due.result put before) =
    elim c.if-due.branch [
      | then-due w ↦ (
        ap (λ o. o.below) w.state-is ∙ w.put.ensures.below,
        ap (shown sectors) w.state-is
            ∙ w.put.ensures.image
            ∙ ap (λ b. replaced before s (written (recording_of (sectors b) c.args.trace.now) s w.number.result)) c.loop-s.invariant.0
            ∙ ap (λ n. replaced before s (written (recording_of (sectors c.args.state.now.below) c.args.trace.now) s n)) w.number.ensures
            ∙ sym (ap (λ b. cond b put before) w.if-due.true),
      )
      | else-due w ↦ (ap (λ o. o.below) w.state-is, ap (shown sectors) w.state-is ∙ sym (ap (λ b. cond b put before) w.if-due.false))
    ] in (
      same.0 ∙ c.loop-s.invariant.0,
      λ test h. put_more test (chosen (recording_of (sectors c.args.state.now.below) c.args.trace.now) self) c.args.first (shown sectors c.args.state.now) s before (shown sectors c.if-due.state) (omega arith) (c.loop-s.invariant.1 test h)
          (same.1 ∙ ap (λ b. cond b put before) (h s c.due.result c.due.ensures)),
    )
