-- A line more is read, or it spells no call.
use Rattle.std.proofs.Common.{◌≡◌, ◌+◌, ◌<◌, length, Err, MatchResult, refl, subst, sym, ap, rules, arith}
use Rattle.std.proofs.lemmas.Bool.Decides.{nat_tests}
use Rattle.std.specs.List.{AllZip}
use Rattle.script.specs.Spelling.{Spells}
use Rattle.script.specs.declared.refusal.Refusal.TheVariants.{Memory}
use Rattle.script.specs.Lines.{lines, StopsAt, Stopped}
use Rattle.script.proofs.Spelling.{same_calls, none_spells}
use Rattle.script.proofs.Reading.{Reading, one_more, begins, stops, all_read}
use Rattle.script.proofs.reader.read_script.Goals as goal

pub loop-rest-preserved : goal.loop-rest-preserved
loop-rest-preserved c =
    let some : 0 < length c.loop-rest.rest.now = grind (arith, nat_tests) in
    subst (λ cs. Reading c.args.text.now cs c.first_line.result.1.now) (sym c.in_ok-push.ensures.items)
    (one_more c.args.text.now c.loop-rest.rest.now c.first_line.result.0.now c.first_line.result.1.now c.loop-rest.calls.items c.in-Some.call some c.first_line.ensures c.loop-rest.invariant c.in-Some.ensures)

pub returns-in_err-push-clause-read : goal.returns-in_err-push-clause-read
returns-in_err-push-clause-read c =
    let some : 0 < length c.loop-rest.rest.now = grind (arith, nat_tests) in
    let b : Stopped Memory (lines c.args.text.now) = begins c.args.text.now c.loop-rest.rest.now c.first_line.result.0.now c.first_line.result.1.now c.loop-rest.calls.items c.in-Some.call some c.first_line.ensures c.loop-rest.invariant c.in-Some.ensures in
    let e : c.from_residual.result ≡ Err Memory = search rules in
    subst (λ r. MatchResult r (λ calls. AllZip Spells calls.items (lines c.args.text.now)) (λ why. Stopped why (lines c.args.text.now))) (sym e) b

pub returns-in_default-clause-read : goal.returns-in_default-clause-read
returns-in_default-clause-read c =
    let some : 0 < length c.loop-rest.rest.now = grind (arith, nat_tests) in
    let many : c.len.result ≡ length c.loop-rest.calls.items = search rules in
    stops c.args.text.now c.loop-rest.rest.now c.first_line.result.0.now c.first_line.result.1.now c.loop-rest.calls.items (c.len.result + 1) some c.first_line.ensures c.loop-rest.invariant c.in_default.ensures (ap (λ n. n + 1) many)

pub returns-in_default-clause-only : goal.returns-in_default-clause-only
returns-in_default-clause-only c =
    let some : 0 < length c.loop-rest.rest.now = grind (arith, nat_tests) in
    let s : StopsAt (length c.loop-rest.calls.items + 1) (lines c.args.text.now) = stops c.args.text.now c.loop-rest.rest.now c.first_line.result.0.now c.first_line.result.1.now c.loop-rest.calls.items (length c.loop-rest.calls.items + 1) some c.first_line.ensures c.loop-rest.invariant c.in_default.ensures refl in
    λ cs z. absurd (none_spells s.1 s.3 s.2 cs s.7 (subst (AllZip Spells cs) s.4 z))

pub returns-clause-only : goal.returns-clause-only
returns-clause-only c =
    let nothing : length c.loop-rest.rest.now ≡ 0 = grind (arith, nat_tests) in
    λ cs z. same_calls c.loop-rest.calls.items cs (lines c.args.text.now) (all_read c.args.text.now c.loop-rest.rest.now c.loop-rest.calls.items nothing c.loop-rest.invariant) z
