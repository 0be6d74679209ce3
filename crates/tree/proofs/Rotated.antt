-- A rotation by 5, as shifts.
use Rattle.std.proofs.Common.{◌≡◌, ℕ, ◌+◌, ◌-◌, ◌*◌, ◌/◌, ◌%◌, ◌^◌, ◌<◌, sym, ap, ◌∙◌, arith}
use lib.Bits.{bit_or}
use Rattle.std.proofs.lemmas.Nat.{or_shifted}
use Rattle.tree.specs.Prints.{rotated}

pub or_rotated : (p : ℕ) → p < 2 ^ 32 → bit_or ((p * 2 ^ (5 % 32)) % 2 ^ 32) (p / 2 ^ ((32 - 5 % 32) % 32)) ≡ rotated p
or_rotated p h =
    let e : (p * 2 ^ 5) % 2 ^ 32 ≡ (p % 2 ^ 27) * 2 ^ 5 = omega arith in
    let low : p / 2 ^ 27 < 2 ^ 5 = omega arith in
    ap (λ x. bit_or x (p / 2 ^ 27)) e ∙ or_shifted (p % 2 ^ 27) 5 (p / 2 ^ 27) low ∙ ap (λ x. x + p / 2 ^ 27) (sym e)
