-- Each flag is one bit of the field.
use Rattle.recording.proofs.Bits.{bit_test}
use Rattle.recording.proofs.entry.Flags.from_bits.Goals as goal

pub returns : goal.returns
returns c = let b = c.args.bits in
    rw (bit_test b 0, bit_test b 1, bit_test b 2, bit_test b 3, bit_test b 4)
