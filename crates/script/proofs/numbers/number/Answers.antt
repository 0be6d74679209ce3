-- One digit more.
use Rattle.std.proofs.Common.{get_or, rules, arith}
use Rattle.std.specs.Int.{IsInRange}
use Rattle.std.proofs.lemmas.List.Elements.{All-more}
use Rattle.script.proofs.Digits.{sum_more}
use Rattle.script.proofs.numbers.number.Goals as goal

pub loop-b-preserved : goal.loop-b-preserved
loop-b-preserved c =
    let t = c.args.text.now in
    let i = c.loop-b.b-index in
    let r : IsInRange 48 57 (get_or c.args.text.now c.loop-b.b-index 0) = search rules in
    record {
      digits = All-more (IsInRange 48 57) t i 0 (omega arith) c.loop-b.invariant.digits r;
      value = sum_more t i c.loop-b.sum c.saturating_mul.result c.from.result c.saturating_add-sum.result (omega arith) r c.loop-b.invariant.value c.saturating_mul.ensures c.from.ensures c.saturating_add-sum.ensures;
    }
