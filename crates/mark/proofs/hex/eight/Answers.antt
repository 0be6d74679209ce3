-- Fewer than eight digits leave room for one more.
use Rattle.std.proofs.Common.{arith}
use Rattle.mark.proofs.Hexes.{room}
use Rattle.mark.proofs.hex.eight.Goals as goal

pub overflow_mul-sum : goal.overflow_mul-sum
overflow_mul-sum c = omega (arith, room c.loop-b.b-index c.loop-b.sum (omega arith) c.loop-b.invariant.1)
