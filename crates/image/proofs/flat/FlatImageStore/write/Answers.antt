use Rattle.std.proofs.Common.{arith}
use Rattle.image.specs.Cuts.{within_cut}
use Rattle.image.proofs.flat.FlatImageStore.write.Goals as goal

pub put_sector-requires-clause-inside : goal.put_sector-requires-clause-inside
put_sector-requires-clause-inside c = omega (arith, within_cut c.args.self.now.bytes.now c.args.n (grind arith))
