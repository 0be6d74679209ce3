-- The loop holds the number that the digits so far write.
use Rattle.std.proofs.Common.{◌≡◌, ◌^◌, ◌<◌, take}
use Rattle.tree.specs.Hex.{hexes}
use Rattle.mark.proofs.hex.eight.Given as goal

abbrev pub invariant-loop-b : goal.invariant-loop-b
invariant-loop-b l = (take l.b-index l.text ≡ hexes l.b-index l.sum) × (l.sum < 16 ^ l.b-index)
