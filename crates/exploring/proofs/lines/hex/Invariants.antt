-- The bytes so far are shown.
use Rattle.std.proofs.Common.{◌≡◌, string_bytes, take, flat_map}
use Rattle.exploring.specs.Lines.{byte_text}
use Rattle.exploring.proofs.lines.hex.Given as goal

abbrev pub invariant-loop-byte : goal.invariant-loop-byte
invariant-loop-byte l = string_bytes l.shown ≡ flat_map byte_text (take l.byte-index l.bytes)
