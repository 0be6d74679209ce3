-- The run of digits is the one number at the front, unless it has a leading zero.
use Rattle.std.proofs.Common.{arith, rules}
use Rattle.mark.proofs.Lemmas.{sound, only}
use Rattle.mark.proofs.numbers.read.Goals as goal

pub returns : goal.returns
returns c =
    let t = c.args.text.now in
    let run = c.run-n.ensures in
    rw (c.value.ensures, c.split_at.ensures.front, c.split_at.ensures.back) (sound t c.run-n.result run (omega arith) (omega arith) (search rules), λ v rest f. let o = only t c.run-n.result run v rest f in (o.0, o.1))

pub returns-then-n-eq0 : goal.returns-then-n-eq0
returns-then-n-eq0 c v rest f =
    let o = only _ _ c.run-n.ensures v rest f in
    let first = o.4 in
    grind (arith, c.then-n-eq0.branch)
