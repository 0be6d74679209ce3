-- Numbers as bytes, the least first; rows of zeros.
use Rattle.std.specs.Prelude.{ℕ, zero, suc, ◌+◌, ◌*◌, ◌/◌, ◌%◌, Bool, List, [], ◌∷◌, take, drop, ◌==◌}
use Rattle.std.specs.List.{list_all}

-- the number that bytes write
abbrev pub number : List ℕ → ℕ
number [] = 0
number (b ∷ bs) = b + 256 * number bs

-- n in so many bytes
unfoldable pub field : (width n : ℕ) → List ℕ
field zero n = []
field (suc w) n = (n % 256) ∷ field w (n / 256)

-- the n bytes of s from `at` on
abbrev pub part : List ℕ → (at n : ℕ) → List ℕ
part s at n = take n (drop at s)

-- each byte is 0
abbrev pub all_zero : List ℕ → Bool
all_zero xs = list_all (λ b. b == 0) xs
