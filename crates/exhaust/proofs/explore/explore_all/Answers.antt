-- A search is loaded, goes on, and ends.
use Rattle.std.proofs.Common.{◌≡◌, ℕ, Ok, Err, Option, Result, sym, refl, ap, ◌∙◌, subst, inl, arith}
use Rattle.std.proofs.lemmas.Result.{err_from_is_err_and}
use Rattle.law.specs.Subject.{Subject, takes}
use Rattle.law.specs.History as H
use Rattle.law.specs.Steps.{Step}
use Rattle.judging.specs.declared.judgement.Judgement.{Judgement}
use Rattle.judging.specs.Codes as J
use Rattle.progress.specs.Reports.{report_seen}
use Rattle.run.specs.declared.refusal.Refusal.{Refusal}
use Rattle.run.specs.Seen.{Led, subject, view}
use Rattle.run.specs.Typed.{advancing, judging, loading}
use Rattle.exhaust.proofs.Onward.{loads, ready_bounds, passed_low, advance_ok, goes_on, over}
use Rattle.exhaust.specs.Searched.{searching}
use Rattle.exhaust.specs.Told.{quiet, told}
use Rattle.exhaust.proofs.Telling.{at_first, up_to_now, found_right, one_more, all_told}
use Rattle.exhaust.proofs.Ending.{ending}
use Rattle.exhaust.proofs.explore.explore_all.Goals as goal

pub loop-init : goal.loop-init
loop-init g c =
    let start = c.args.run.now in
    let run = c.load.new.self in
    let E = c.in_ok-load.ensures {u = tt} in
    let L = loads (subject start) c.args.recording.now (view start) (view run) E.goes in
    let b = ready_bounds run.progress run.valid.bounded L.3 in (
      E.kept,
      (L.0, L.1, record { recording = L.2; none_forgone = b.1; passed = b.0; ready = inl L.3 }, (quiet, refl, at_first (subject start) L.0 (view run) L.3 ((subject start).sound c.args.recording.now L.0 L.1), λ s h K. E.went s h K)),
    )

pub returns-in_err-load-clause-went : goal.returns-in_err-load-clause-went
returns-in_err-load-clause-went g c =
    λ s h K.
    let E = c.in_err-load.ensures {u = tt} in
    let q = err_from_is_err_and c.from_residual.result c.from_residual.ensures.1 in
    rw (q.1, q.2) (H.then h (loading c.args.recording.now (Err c.in_err-load.field-0.0)), E.went s h K, (refl, refl))

pub unwrap-requires : goal.unwrap-requires
unwrap-requires g c =
    let run = c.loop.run in
    let G = c.loop.invariant.1 in
    advance_ok (subject run) G.0 c.loop.counter (view run) (view c.advance.new.self) G.2 c.advance.result c.advance.ensures.goes

pub returns-in_default-clause-kept : goal.returns-in_default-clause-kept
returns-in_default-clause-kept g c = let i = c.loop.invariant.0 in let k = c.advance.ensures.kept in (k.0 ∙ i.0, k.1 ∙ i.1)

pub returns-in_default-clause-explored : goal.returns-in_default-clause-explored
returns-in_default-clause-explored g c =
    let before = c.loop.run in
    let run = c.advance.new.self in
    let i = c.loop.invariant in
    let G = i.1 in
    let P : Result (Option (ℕ × ℕ)) Refusal → Type 0 = λ r. Step (subject before) (view before) (advancing r) (view run) in
    let S : Step (subject before) (view before) H.ended (view run) = subst P (c.unwrap.ensures ∙ ap Ok c.in_default.is) c.advance.ensures.goes in
    let O = over (subject before) G.0 c.loop.counter (view before) (view run) G.2 S in
    λ s h K.
    let V = G.3.3 s h K in
    let m = H.then (searching h c.args.recording.now G.3.0) (advancing c.advance.result) in
    let led = c.advance.ensures.went s _ V in
    let taken : s.loads c.args.recording.now ≡ takes G.0 = ap (λ (x : Subject). x.loads c.args.recording.now) (sym K.0) ∙ G.1 in
    ending s m (view run) led.1 O.ended O.none_forgone c.args.recording.now G.0 taken O.recording (report_seen c.report.result) c.report.ensures.figures

pub returns-in-Err-clause-kept : goal.returns-in-Err-clause-kept
returns-in-Err-clause-kept g c =
    let i = c.loop.invariant.0 in
    let k = c.advance.ensures.kept in
    let j = c.judge.ensures.kept in
    (j.0 ∙ k.0 ∙ i.0, j.1 ∙ k.1 ∙ i.1)

pub loop-preserved : goal.loop-preserved
loop-preserved g c =
    let start = c.args.run.now in
    let before = c.loop.run in
    let middle = c.advance.new.self in
    let run = c.judge.new.self in
    let i = c.loop.invariant in
    let G = i.1 in
    let told_so = G.3 in
    let k = c.advance.ensures.kept in
    let j = c.judge.ensures.kept in
    let x : ℕ × ℕ = (c.in-Some.point, c.in-Some.rank) in
    let found = c.unwrap-found.result in
    let P : Result (Option (ℕ × ℕ)) Refusal → Type 0 = λ r. Step (subject before) (view before) (advancing r) (view middle) in
    let S : Step (subject before) (view before) (H.gave x) (view middle) = subst P (c.unwrap.ensures ∙ ap Ok c.in-Some.is) c.advance.ensures.goes in
    let Q : Result Judgement Refusal → Type 0 = λ r. Step (subject middle) (view middle) (judging r) (view run) in
    let T : Step (subject middle) (view middle) (H.found (J.code_of found).0 (J.code_of found).1) (view run) = subst Q c.unwrap-found.ensures c.judge.ensures.goes in (
      (j.0 ∙ k.0 ∙ i.0.0, j.1 ∙ k.1 ∙ i.0.1),
      (
        G.0,
        G.1,
        goes_on (subject before) (subject middle) G.0 c.loop.counter (view before) (view middle) (view run) x (J.code_of found).0 (J.code_of found).1 G.2 S T,
        (
          told told_so.0 x found,
          (c.loop.watch, told_so.1, c.in_default-judged.ensures {u = tt}),
          one_more (subject start) (subject before) G.0 (view before) (view middle) x told_so.0 G.2.recording told_so.2 S (subject middle) (view run) found T,
          λ s h K.
              let k = searching h c.args.recording.now told_so.0 in
              let L : Result (Option (ℕ × ℕ)) Refusal → Type 0 = λ r. Led s (H.then k (advancing r)) middle in
              let given : Led s (H.then k (H.gave x)) middle = subst L (c.unwrap.ensures ∙ ap Ok c.in-Some.is) (c.advance.ensures.went s k (told_so.3 s h K)) in
              let M : Result Judgement Refusal → Type 0 = λ r. Led s (H.then (H.then k (H.gave x)) (judging r)) run in
              subst M c.unwrap-found.ensures (c.judge.ensures.went s (H.then k (H.gave x)) given),
        ),
      ),
    )

pub returns-in-Err-clause-stopped : goal.returns-in-Err-clause-stopped
returns-in-Err-clause-stopped g c =
    let start = c.args.run.now in
    let before = c.loop.run in
    let middle = c.advance.new.self in
    let run = c.judge.new.self in
    let G = c.loop.invariant.1 in
    let told_so = G.3 in
    let x : ℕ × ℕ = (c.in-Some.point, c.in-Some.rank) in
    let found = c.unwrap-found.result in
    let P : Result (Option (ℕ × ℕ)) Refusal → Type 0 = λ r. Step (subject before) (view before) (advancing r) (view middle) in
    let S : Step (subject before) (view before) (H.gave x) (view middle) = subst P (c.unwrap.ensures ∙ ap Ok c.in-Some.is) c.advance.ensures.goes in
    let Q : Result Judgement Refusal → Type 0 = λ r. Step (subject middle) (view middle) (judging r) (view run) in
    let T : Step (subject middle) (view middle) (H.found (J.code_of found).0 (J.code_of found).1) (view run) = subst Q c.unwrap-found.ensures c.judge.ensures.goes in
    record {
      recording = G.0;
      taken = G.1;
      telling = told_so.0;
      state = x;
      found = found;
      watcher = c.loop.watch;
      heard = told_so.1;
      stopped = c.in-Err.ensures {u = tt};
      states = up_to_now (subject start) (subject before) G.0 (view before) (view middle) x told_so.0 G.2.recording told_so.2 S;
      right = found_right (subject start) (subject before) G.0 (view before) (view middle) x told_so.0 G.2.recording told_so.2 S (subject middle) (view run) found T;
    }

pub returns-in_default-clause-heard : goal.returns-in_default-clause-heard
returns-in_default-clause-heard g c =
    let start = c.args.run.now in
    let before = c.loop.run in
    let run = c.advance.new.self in
    let G = c.loop.invariant.1 in
    let told_so = G.3 in
    let P : Result (Option (ℕ × ℕ)) Refusal → Type 0 = λ r. Step (subject before) (view before) (advancing r) (view run) in
    let S : Step (subject before) (view before) H.ended (view run) = subst P (c.unwrap.ensures ∙ ap Ok c.in_default.is) c.advance.ensures.goes in
    record {
      recording = G.0;
      taken = G.1;
      telling = told_so.0;
      heard = told_so.1;
      states = all_told (subject start) (subject before) G.0 (view before) (view run) told_so.0 G.2.recording told_so.2 S;
      right = told_so.2.right;
    }

pub unreachable-requires : goal.unreachable-requires
unreachable-requires g c =
    let run = c.loop.run in
    let p = c.loop.invariant.1.2.passed in
    let low = passed_low run.progress run.valid.bounded in
    omega (arith, c.loop-test.false)

pub returns-in_default-clause-went : goal.returns-in_default-clause-went
returns-in_default-clause-went g c =
    λ s h K.
    let run = c.advance.new.self in
    let told_so = c.loop.invariant.1.3 in
    let k = searching h c.args.recording.now told_so.0 in
    let L : Result (Option (ℕ × ℕ)) Refusal → Type 0 = λ r. Led s (H.then k (advancing r)) run in
    (H.then k H.ended, subst L (c.unwrap.ensures ∙ ap Ok c.in_default.is) (c.advance.ensures.went s k (told_so.3 s h K)), (told_so.0, told_so.1, refl))

pub returns-in-Err-clause-went : goal.returns-in-Err-clause-went
returns-in-Err-clause-went g c =
    λ s h K.
    let middle = c.advance.new.self in
    let run = c.judge.new.self in
    let told_so = c.loop.invariant.1.3 in
    let x : ℕ × ℕ = (c.in-Some.point, c.in-Some.rank) in
    let found = c.unwrap-found.result in
    let k = searching h c.args.recording.now told_so.0 in
    let L : Result (Option (ℕ × ℕ)) Refusal → Type 0 = λ r. Led s (H.then k (advancing r)) middle in
    let given : Led s (H.then k (H.gave x)) middle = subst L (c.unwrap.ensures ∙ ap Ok c.in-Some.is) (c.advance.ensures.went s k (told_so.3 s h K)) in
    let M : Result Judgement Refusal → Type 0 = λ r. Led s (H.then (H.then k (H.gave x)) (judging r)) run in
    let judged = subst M c.unwrap-found.ensures (c.judge.ensures.went s (H.then k (H.gave x)) given) in
    (searching h c.args.recording.now (told told_so.0 x found), judged, (told_so.0, x, found, c.loop.watch, told_so.1, c.in-Err.ensures {u = tt}, refl))
