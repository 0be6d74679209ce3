-- The reader's answers, one after the other, are those to the whole recording.
use Rattle.std.proofs.Common.{◌≡◌, Ok, sym, ap, ◌∙◌, arith, rules}
use Rattle.std.proofs.lemmas.Result.{err_from_is_err_and}
use Rattle.image.specs.Sectors.{Bytes}
use Rattle.recording.specs.Recorded.{counted}
use Rattle.recording.proofs.Wholly.{laws}
use Rattle.recording.proofs.Midway.{started, going, ended, declined, finished, answered}
use Rattle.recording.proofs.Remaining.{unopened}
use Rattle.recording.proofs.whole.validate.Goals as goal

pub returns-in_err-reader : goal.returns-in_err-reader
returns-in_err-reader c =
    let s = c.args.bytes.now in
    let bs : Bytes s = λ j. omega (arith, c.type_inv.bytes j) in
    let p = err_from_is_err_and c.from_residual.result c.from_residual.ensures.1 in
    let e = sym (ap counted (unopened s _ c.in_err-reader.ensures)) in
    rw (p.1, p.2) (record { value = e; laid = answered s _ bs e; laws = laws })

pub loop-init : goal.loop-init
loop-init c = started c.args.bytes.now c.in_ok-reader.reader c.in_ok-reader.ensures

pub returns-in_err-next : goal.returns-in_err-next
returns-in_err-next c =
    let s = c.args.bytes.now in
    let bs : Bytes s = λ j. omega (arith, c.type_inv.bytes j) in
    let p = err_from_is_err_and c.from_residual-in_err-next.result c.from_residual-in_err-next.ensures.1 in
    let e = sym (ap counted (declined s c.loop.reader _ c.loop.invariant c.in_err-next.ensures.step.0)) in
    rw (p.1, p.2) (record { value = e; laid = answered s _ bs e; laws = laws })

pub loop-smaller : goal.loop-smaller
loop-smaller c = (going c.args.bytes.now c.loop.reader c.next.new.self c.in_ok-next.field-0 (search rules) c.in_ok-next.ensures.step c.loop.invariant).1

pub loop-preserved : goal.loop-preserved
loop-preserved c = (going c.args.bytes.now c.loop.reader c.next.new.self c.in_ok-next.field-0 (search rules) c.in_ok-next.ensures.step c.loop.invariant).0

pub returns : goal.returns
returns c =
    let s = c.args.bytes.now in
    let bs : Bytes s = λ j. omega (arith, c.type_inv.bytes j) in
    let t = ended c.loop.reader c.next.new.self c.in_ok-next.field-0 (search rules) c.in_ok-next.ensures.step in
    let n : c.total.result ≡ c.loop.reader.total = c.total.ensures ∙ ap (λ r. r.total) t.2 in
    let e = ap Ok n ∙ finished s c.loop.reader bs c.loop.invariant t.0 t.1 in
    record { value = e; laid = answered s (Ok c.total.result) bs e; laws = laws }
