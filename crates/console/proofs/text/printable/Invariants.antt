-- The bytes so far are shown.
use Rattle.std.proofs.Common.{◌≡◌, string_bytes, take}
use Rattle.console.specs.Texts.{shown}
use Rattle.console.proofs.text.printable.Given as goal

abbrev pub invariant-loop-byte : goal.invariant-loop-byte
invariant-loop-byte l = string_bytes l.shown ≡ shown (take l.byte-index l.text)
