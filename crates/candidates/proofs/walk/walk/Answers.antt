use Rattle.std.proofs.Common.{◌≡◌, ◌+◌, ◌<◌, length, Err, ◌∙◌, subst, rules, arith}
use Rattle.history.specs.Held.{held}
use Rattle.candidates.specs.declared.refusal.Refusal.TheVariants.{Candidates}
use Rattle.candidates.specs.Turns.{turned}
use Rattle.candidates.proofs.Walking.{HoldsUpTo, held_few, holds_start, holds_on, too_many}
use Rattle.candidates.proofs.walk.walk.Goals as goal

pub loop-k-init : goal.loop-k-init
loop-k-init g c = (search rules, λ at f. holds_start f (held c.start-history.result) c.start-history.ensures.values)

pub returns-in_err-map_err : goal.returns-in_err-map_err
returns-in_err-map_err g c = λ at f.
    let e : c.from_residual.result ≡ Err (Candidates (c.loop-k.k-counter + 1)) = search rules in
    let l : 8 < length (turned c.turn.result (held c.loop-k.history)) = search rules in
    rw e (too_many f c.loop-k.k-counter c.turn.result (held c.loop-k.history) c.loop-k-test.true c.turn.ensures (c.loop-k.invariant.1 at f) l)

pub loop-k-preserved : goal.loop-k-preserved
loop-k-preserved g c = (
  c.apply.ensures.cells,
  λ at f.
      let e : held c.apply.new.history ≡ turned c.turn.result (held c.loop-k.history) = search rules in
      holds_on f c.loop-k.k-counter c.turn.result (held c.loop-k.history) (held c.apply.new.history) c.loop-k-test.true c.turn.ensures (c.loop-k.invariant.1 at f) e
      (held_few c.apply.new.history),
)

pub returns : goal.returns
returns g c = λ at f.
    let e : c.loop-k.k-counter ≡ c.args.point = omega arith in
    let h = subst (λ k. HoldsUpTo at k (held c.loop-k.history)) e (c.loop-k.invariant.1 at f) in
    (h.1, c.of.ensures ∙ c.values.ensures ∙ h.0)
