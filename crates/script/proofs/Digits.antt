-- Numbers, a digit more at a time.
use Rattle.std.proofs.Common.{◌≡◌, ℕ, ◌+◌, ◌-◌, ◌*◌, ◌^◌, ◌<◌, min, List, length, get_or, take, sym, ap, ◌∙◌, arith}
use Rattle.std.specs.Int.{IsInRange}
use Rattle.std.specs.Char.{digit_value}
use Rattle.std.specs.Str.Parse.{digits_value}
use Rattle.std.proofs.lemmas.Bool.Decides.{nat_tests}
use Rattle.std.proofs.lemmas.Int.Digits.{digits_value_more}

value_of : (c : ℕ) → IsInRange 48 57 c → digit_value c ≡ c - 48
value_of c i = grind (arith, nat_tests)

-- the greatest of 64 bits stays the greatest
capped_more : (v d : ℕ) → min (min (min v (2 ^ 64 - 1) * 10) (2 ^ 64 - 1) + d) (2 ^ 64 - 1) ≡ min (v * 10 + d) (2 ^ 64 - 1)
capped_more v d = omega arith

pub sum_more : (t : List ℕ) (i s m f r : ℕ) → i < length t → IsInRange 48 57 (get_or t i 0) → s ≡ min (digits_value 10 (take i t)) (2 ^ 64 - 1) → m ≡ min (s * 10) (2 ^ 64 - 1) → f ≡ get_or t i 0 - 48 → r ≡ min (m + f) (2 ^ 64 - 1)
    → r ≡ min (digits_value 10 (take (i + 1) t)) (2 ^ 64 - 1)
sum_more t i s m f r h d es em ef er =
    let v = digits_value_more 10 t i h in
    let w = value_of (get_or t i 0) d in
    let k = capped_more (digits_value 10 (take i t)) (get_or t i 0 - 48) in
    er ∙ ap (λ x. min (x + f) (2 ^ 64 - 1)) em ∙ ap (λ x. min (min (x * 10) (2 ^ 64 - 1) + f) (2 ^ 64 - 1)) es
    ∙ ap (λ x. min (min (min (digits_value 10 (take i t)) (2 ^ 64 - 1) * 10) (2 ^ 64 - 1) + x) (2 ^ 64 - 1)) ef ∙ k
    ∙ ap (λ x. min (digits_value 10 (take i t) * 10 + x) (2 ^ 64 - 1)) (sym w) ∙ ap (λ x. min x (2 ^ 64 - 1)) (sym v)
