-- One call more, or the end of the talk.
use Rattle.std.proofs.Common.{◌≡◌, Some, None, Option, refl, ap, ◌∙◌, subst, inl, inr, arith}
use Rattle.run.specs.declared.call.Call.{Call}
use Rattle.work.specs.Talks.{Reply, silent, said}
use Rattle.work.proofs.working.work.Goals as goal

pub loop-init : goal.loop-init
loop-init g c = ((refl, refl), λ s h L. (silent, L, refl, refl, refl))

pub returns-in_default-clause-kept : goal.returns-in_default-clause-kept
returns-in_default-clause-kept g c = c.loop.invariant.0

pub returns-in_default-clause-told : goal.returns-in_default-clause-told
returns-in_default-clause-told g c =
    λ s h L.
    let v = c.loop.invariant.1 s h L in
    let P : Option Reply → Type 0 = λ x. g.C.Caller.says c.loop.caller x None c.next.new.self in
    (v.0, v.1, inr (c.loop.caller, omega (arith, v.4, c.loop-test.true), v.2, subst P v.3 (c.in_default.ensures {u = tt})))

pub loop-preserved : goal.loop-preserved
loop-preserved g c =
    let i = c.loop.invariant in
    let k = c.call.ensures.kept in (
      (k.0 ∙ i.0.0, k.1 ∙ i.0.1),
      λ s h L.
          let v = i.1 s h L in
          let P : Option Reply → Type 0 = λ x. g.C.Caller.says c.loop.caller x (Some c.in-Some.call) c.next.new.self in
          (said v.0 c.in-Some.call c.call.result, c.call.ensures.went s _ v.1, (c.loop.caller, v.2, subst P v.3 (c.in-Some.ensures {u = tt}), c.call.ensures.fits), refl, omega (arith, v.4)),
    )

pub returns-clause-kept : goal.returns-clause-kept
returns-clause-kept g c = c.loop.invariant.0

pub returns-clause-told : goal.returns-clause-told
returns-clause-told g c =
    λ s h L.
    let v = c.loop.invariant.1 s h L in
    (v.0, v.1, inl (omega (arith, v.4), v.2))
