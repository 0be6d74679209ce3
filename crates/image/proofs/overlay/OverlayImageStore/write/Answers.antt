use Rattle.std.proofs.Common.{◌*◌, ◌%◌, ◌^◌, ap, ◌∙◌, arith}
use lib.Bits.{bit_or}
use Rattle.image.proofs.overlay.OverlayImageStore.write.Goals as goal
use Rattle.image.specs.Layers.{overlaid, length_overlaid}
use Rattle.image.proofs.Layering.{overlaid_write}

pub returns-clause-after : goal.returns-clause-after
returns-clause-after g c =
    let v = c.args.self.now in
    let below = g.S.ImageStore.sectors v.below in
    ap (λ x. overlaid (bit_or v.written (1 * 2 ^ c.args.n % 2 ^ 64)) x below) c.put_sector.ensures
    ∙ overlaid_write v.written v.cells below c.args.n c.args.buffer.now
    (grind (arith, length_overlaid)) (grind (arith, length_overlaid)) (omega arith) (grind arith)
