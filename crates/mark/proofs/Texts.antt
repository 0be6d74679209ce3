-- The texts of marks, from their parts.
use Rattle.std.proofs.Common.{◌≡◌, ℕ, List, [], ◌∷◌, get_or, drop, ap, arith}
use Rattle.mark.specs.Numbers.{NoDigit}

pub tail : {a b : ℕ} {s t : List ℕ} → a ∷ s ≡ b ∷ t → s ≡ t
tail e = ap (drop 1) e

pub head : {a b : ℕ} {s t : List ℕ} → a ∷ s ≡ b ∷ t → a ≡ b
head e = ap (λ l. get_or l 0 0) e

pub space : (t : List ℕ) → NoDigit (32 ∷ t)
space t h d = omega (arith, d.0)

pub none : NoDigit []
none h d = omega (arith, h)
