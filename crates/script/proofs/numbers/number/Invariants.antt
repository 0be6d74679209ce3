-- The digits so far, and the number that they write.
use Rattle.std.proofs.Common.{◌≡◌, ◌-◌, ◌^◌, min, take}
use Rattle.std.specs.List.{All}
use Rattle.std.specs.Int.{IsInRange}
use Rattle.std.specs.Str.Parse.{digits_value}
use Rattle.script.proofs.numbers.number.Given as goal

abbrev pub invariant-loop-b : goal.invariant-loop-b
invariant-loop-b l = record { digits : All (IsInRange 48 57) (take l.b-index l.text); value : l.sum ≡ min (digits_value 10 (take l.b-index l.text)) (2 ^ 64 - 1) }
