use Rattle.std.proofs.Common.{arith}
use Rattle.image.specs.Cuts.{within_cut}
use Rattle.image.proofs.flat.FlatImageStore.read.Goals as goal

pub get_sector-requires-clause-inside : goal.get_sector-requires-clause-inside
get_sector-requires-clause-inside c = omega (arith, within_cut c.args.self.now.bytes.now c.args.n (grind arith))
