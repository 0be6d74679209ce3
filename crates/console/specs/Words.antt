-- What the words of a call ask for.
use Rattle.std.specs.Prelude.{◌≡◌, ℕ, ◌⊎◌, cond, List, [], ◌∷◌, map, codes, string_bytes, String, Option, Some, None}
use Rattle.std.specs.Str.{bytes_eq}

-- the help or the version, and nothing else
abbrev pub AsksText : {A : Type 0} → List (String A) → Type 0
AsksText words = (map string_bytes words ≡ codes "--help" ∷ []) ⊎ (map string_bytes words ≡ codes "--version" ∷ [])

-- the text that words ask for: the help, or the version where there is one; no other words ask for a text
abbrev pub asked_text : (help : List ℕ) → (version : Option (List ℕ)) → (words : List (List ℕ)) → Option (List ℕ)
asked_text help version [] = None
asked_text help version (word ∷ []) = cond (bytes_eq word (codes "--help")) (Some help) (cond (bytes_eq word (codes "--version")) version None)
asked_text help version (word ∷ next ∷ words) = None
