-- A word is taken out, or one more is passed.
use Rattle.std.proofs.Common.{◌-◌}
use Rattle.std.specs.Prelude.{vec_len}
use Rattle.explore.proofs.asked.take_options.Given as goal

abbrev pub decreases-loop-i : goal.decreases-loop-i
decreases-loop-i l = vec_len l.words - l.i
