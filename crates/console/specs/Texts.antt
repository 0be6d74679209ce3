-- What is shown of a text of any bytes.
use Rattle.std.specs.Prelude.{ℕ, ◌/◌, ◌%◌, Bool, false, ◌&&◌, not, List, [], ◌∷◌, ◌++◌, codes, flat_map, nat_le, nat_lt, ◌==◌, if◌then◌else◌}
use Rattle.std.specs.Fmt.{digit_glyph}

-- printable ASCII, and no backslash
abbrev pub plain : ℕ → Bool
plain b = nat_le 32 b && nat_lt b 127 && not (b == 92)

-- a plain byte stands for itself, another is shown in two hexadecimal digits
abbrev pub shown_byte : ℕ → List ℕ
shown_byte b = if plain b then b ∷ [] else codes "\\x" ++ (digit_glyph false (b / 16) ∷ digit_glyph false (b % 16) ∷ [])

abbrev pub shown : List ℕ → List ℕ
shown text = flat_map shown_byte text
