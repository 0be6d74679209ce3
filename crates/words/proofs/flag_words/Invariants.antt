-- The names of the flags so far.
use Rattle.std.proofs.Common.{◌≡◌, string_bytes, take, map}
use Rattle.words.specs.Words.{flags_text}
use Rattle.words.proofs.flag_words.Given as goal

abbrev pub invariant-loop-is_set : goal.invariant-loop-is_set
invariant-loop-is_set l = string_bytes l.words ≡ flags_text (map (λ flag. (flag.0, flag.1.now)) (take l.is_set-index l.flags))
