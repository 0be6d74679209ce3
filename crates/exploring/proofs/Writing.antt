-- Where nothing is written, nothing grows.
use Rattle.std.proofs.Common.{ℕ, List, [], Option}
use Rattle.std.specs.Io.KnownBytes.{Appends}
use Rattle.std.proofs.KnownBytes.{Appends-nil}

pub nothing_written : (known : Option (List ℕ)) → Appends known known []
nothing_written known = Appends-nil known
