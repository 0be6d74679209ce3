-- The homes so far stand, and are kept.
use Rattle.std.proofs.Common.{◌≡◌, true, map}
use Rattle.std.specs.List.{range_with_len}
use Rattle.journalled.specs.Journal.{home_in, homes_stand}
use Rattle.journalled.proofs.descriptor.read_homes.Given as goal

abbrev pub invariant-loop-i : goal.invariant-loop-i
invariant-loop-i l = record {
  kept : l.homes.items ≡ map (home_in l.sector) (range_with_len 0 l.i);
  stand : homes_stand l.count l.sector l.i ≡ true;
}
