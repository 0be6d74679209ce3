-- The sector alone, or the sector and a length.
use Rattle.std.proofs.Common.{sym, subst, ◌++◌, codes}
use Rattle.script.specs.Spelling.{Finds}
use Rattle.script.proofs.Spelling.{lone, both, no_sector, no_size}
use Rattle.script.proofs.line.look.Goals as goal

pub returns-in_default : goal.returns-in_default
returns-in_default c = lone c.args.body.now c.in_ok-number.field-0 c.in_ok-number.ensures

pub returns-in_err-number-2 : goal.returns-in_err-number-2
returns-in_err-number-2 c = subst (Finds (codes "look " ++ c.args.body.now)) (sym c.from_residual-in_err-number-2.ensures) (no_sector c.args.body.now c.in-Some.sector.now c.in-Some.size.now c.in-Some.ensures c.in_err-number-2.ensures)

pub returns-in_err-number-3 : goal.returns-in_err-number-3
returns-in_err-number-3 c = subst (Finds (codes "look " ++ c.args.body.now)) (sym c.from_residual-in_err-number-3.ensures) (no_size c.args.body.now c.in-Some.sector.now c.in-Some.size.now c.in-Some.ensures c.in_err-number-3.ensures)

pub returns : goal.returns
returns c = both c.args.body.now c.in-Some.sector.now c.in-Some.size.now c.in-Some.ensures c.in_ok-number-2.field-0 c.in_ok-number-3.field-0 c.in_ok-number-2.ensures c.in_ok-number-3.ensures
