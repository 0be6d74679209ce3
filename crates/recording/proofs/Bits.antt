-- One bit of a number, tested by a mask.
use Rattle.std.proofs.Common.{◌≡◌, ℕ, ◌*◌, ◌/◌, ◌%◌, ◌^◌, ◌≢◌, not, eqb, sym, ap, ◌∙◌, inl, inr, one-mul, zero-mul, arith, eq-eqb, ne_eqb}
use Rattle.std.proofs.lemmas.Nat.{pow_pos, mod_below}
use Rattle.std.proofs.lemmas.Nat.Bits.{and_pow}
use Rattle.std.proofs.lemmas.Bool.{cases_eq}
use lib.Bits.{bit_and}
use Rattle.image.specs.Layers.{has}

pub bit_test : (n k : ℕ) → not (eqb (bit_and n (2 ^ k)) 0) ≡ has n k
unfolding has
bit_test n k = elim (cases_eq (n / 2 ^ k % 2) 0) [
  | inl e ↦
      let z : bit_and n (2 ^ k) ≡ 0 = and_pow n k ∙ ap (λ x. x * 2 ^ k) e ∙ zero-mul (2 ^ k) in
      ap not (eq-eqb (bit_and n (2 ^ k)) 0 z) ∙ sym (ap (λ x. eqb x 1) e)
  | inr ne ↦
      let o : n / 2 ^ k % 2 ≡ 1 = omega (arith, mod_below (n / 2 ^ k) 2 (omega arith)) in
      let p : bit_and n (2 ^ k) ≡ 2 ^ k = and_pow n k ∙ ap (λ x. x * 2 ^ k) o ∙ one-mul (2 ^ k) in
      let q : bit_and n (2 ^ k) ≢ 0 = λ z. omega (arith, pow_pos k) in
      ap not (ne_eqb (bit_and n (2 ^ k)) 0 q) ∙ sym (ap (λ x. eqb x 1) o)
]
