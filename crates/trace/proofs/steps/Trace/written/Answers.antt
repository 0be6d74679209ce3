use Rattle.std.proofs.Common.{◌≡◌, ◌+◌, ◌-◌, [], get_or, vec_items, sym, ◌∙◌, arith, rules}
use Rattle.trace.proofs.Writing.{data_written}
use Rattle.trace.proofs.steps.Trace.written.Goals as goal

pub returns-in-Data : goal.returns-in-Data
returns-in-Data c =
    let e : c.map_or.result.now ≡ get_or (vec_items c.args.self.now.sectors) (c.in-Data.from + (c.args.sector - c.args.step.now.first)) [] = search rules in
    e ∙ sym (data_written (vec_items c.args.self.now.sectors) c.args.sector c.args.step.now c.in-Data.from c.in-Data.is (omega arith))
