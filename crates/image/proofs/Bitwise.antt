-- The bits of a mask, one by one.
use Rattle.std.proofs.Common.{◌≡◌, ℕ, zero, suc, ◌+◌, ◌*◌, ◌/◌, ◌%◌, ◌^◌, ◌<◌, true, false, cond, eqb, sym, refl, ap, ◌∙◌, inl, inr, w64, mod-eq_of_lt, add_comm, add-one, arith, eq-eqb, ne_eqb}
use lib.Bits.{bit_and, bit_or}
use lib.Count.{ones, ones_cat}
use Rattle.std.proofs.lemmas.Nat.{pow_pos, mod-pow-add, mod_below}
use Rattle.std.proofs.lemmas.Nat.Bits.{shr_and_one, bit_at-lt, bit_at-zero, bit_at_set_same, bit_at_set_other}
use Rattle.std.specs.Int.{bit_at}
use Rattle.std.proofs.lemmas.Bool.{cases_eq, cases_lt}
use Rattle.image.specs.Layers.{has, how_many, how_many_more}

pub has_with : (m n k : ℕ) → n < 64 → has (bit_or m ((1 * 2 ^ n) % 2 ^ 64)) k ≡ cond (eqb k n) true (has m k)
unfolding has
has_with m n k h = elim (cases_eq k n) [
  | inl e ↦ rw (eq-eqb k n e) (ap (λ j. eqb (bit_at (bit_or m (1 * 2 ^ n % 2 ^ 64)) j) 1) e ∙ ap (λ x. eqb x 1) (bit_at_set_same w64 m n h))
  | inr ne ↦ rw (ne_eqb k n ne) (ap (λ x. eqb x 1) (bit_at_set_other w64 m n h k ne))
]

pub has_set : (m n : ℕ) → (bit_and (m / 2 ^ n) 1 ≡ 0 → ⊥) → has m n ≡ true
unfolding has
has_set m n ne = let e : bit_at m n ≡ 1 = omega (arith, bit_at-lt m n, shr_and_one m n, ne) in ap (λ x. eqb x 1) e

pub has_unset : (m n : ℕ) → bit_and (m / 2 ^ n) 1 ≡ 0 → has m n ≡ false
unfolding has
has_unset m n e = ap (λ x. eqb x 1) (sym (shr_and_one m n) ∙ e)

pub has_none : (m k : ℕ) → m ≡ 0 → has m k ≡ false
unfolding has
has_none m k e = ap (λ n. eqb (bit_at n k) 1) e ∙ ap (λ x. eqb x 1) (bit_at-zero k)

one_bit : (x : ℕ) → ones (x % 2) ≡ cond (eqb (x % 2) 1) 1 0
unfolding ones
one_bit x = elim (cases_lt (x % 2) 1) [
  | inl l ↦ let e : x % 2 ≡ 0 = omega arith in rw e
  | inr l ↦ let e : x % 2 ≡ 1 = omega (arith, mod_below x 2 (omega arith)) in rw e
]

ones_zero : ones 0 ≡ 0
unfolding ones
ones_zero = refl

one_more : (k : ℕ) → suc k ≡ 1 + k
one_more k = omega arith

ones_below : (m k : ℕ) → ones (m % 2 ^ k) ≡ how_many (has m) k
unfolding has
ones_below m zero = let e : m % 1 ≡ 0 = omega arith in ap ones e ∙ ones_zero
ones_below m (suc k) =
    ap ones (ap (λ x. m % 2 ^ x) (one_more k) ∙ mod-pow-add m 1 k)
    ∙ ones_cat k (m / 2 ^ k % 2) (m % 2 ^ k) (mod_below m (2 ^ k) (pow_pos k)) ∙ ap (λ x. x + ones (m % 2 ^ k)) (one_bit (m / 2 ^ k)) ∙ ap (λ x. cond (has m k) 1 0 + x) (ones_below m k) ∙ add_comm (cond (has m k) 1 0) (how_many (has m) k)
    ∙ sym (how_many_more (has m) k) ∙ ap (how_many (has m)) (add-one k)

pub ones_how_many : (m : ℕ) → m < 2 ^ 64 → ones m ≡ how_many (has m) 64
ones_how_many m h = ap ones (sym (mod-eq_of_lt h)) ∙ ones_below m 64
