-- Words that ask for no text.
use Rattle.std.proofs.Common.{◌≡◌, ◌≢◌, ℕ, ◌≤◌, ◌<◌, Bool, true, cond, List, [], ◌∷◌, length, map, false, Some, None, Option, codes, string_bytes, String, slice_index_or, refl, sym, ap, ◌∙◌, arith}
use Rattle.std.specs.Str.{bytes_eq}
use Rattle.std.proofs.lemmas.Slice.Eq.{bytes_eq-Decides}
use Rattle.console.specs.Words.{asked_text}

another : (x y : List ℕ) → x ≢ y → bytes_eq x y ≡ false
another x y n = by (bytes_eq x y) refl
  where
    by : (t : Bool) → bytes_eq x y ≡ t → bytes_eq x y ≡ false
    by true e = absurd (n ((bytes_eq-Decides x y).0 e))
    by false e = e

pub asks_none : (help : List ℕ) (version : Option (List ℕ)) (word : List ℕ) → word ≢ codes "--help" → word ≢ codes "--version" → asked_text help version (word ∷ []) ≡ None
asks_none help version word h v =
    ap (λ t. cond t (Some help) (cond (bytes_eq word (codes "--version")) version None)) (another word (codes "--help") h)
    ∙ ap (λ t. cond t version None) (another word (codes "--version") v)

-- the one word of a list
pub only_word : {A : Type 0} (words : List (String A)) (word : String A) → 1 ≤ length words → length words < 2 → word ≡ slice_index_or words 0 word → map string_bytes words ≡ string_bytes word ∷ []
only_word [] word a b e = absurd (omega arith)
only_word (w ∷ []) word a b e = ap (λ x. string_bytes x ∷ []) (sym e)
only_word (w ∷ (v ∷ vs)) word a b e = absurd (omega arith)
