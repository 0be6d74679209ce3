-- Hexadecimal digits.
use Rattle.std.specs.Prelude.{ℕ, zero, suc, ◌/◌, ◌%◌, List, [], ◌∷◌, ◌++◌}
use Rattle.std.specs.Char.{digit_char}

-- the lowest k hexadecimal digits of n, each 0-9 or a-f
abbrev pub hexes : ℕ → ℕ → List ℕ
hexes zero n = []
hexes (suc k) n = hexes k (n / 16) ++ digit_char (n % 16) ∷ []
