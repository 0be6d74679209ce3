-- Four bytes pasted into a list are four bytes set one after another.
use Rattle.std.proofs.Common.{◌≡◌, ℕ, zero, suc, ◌+◌, ◌*◌, ◌/◌, ◌%◌, ◌^◌, ◌<◌, List, [], ◌∷◌, ◌++◌, length, take, drop, set, refl, ap, ◌∙◌, arith}
use native.Mathlib.Numerals.{unary_clauses}
use Rattle.journalled.specs.Journal.{put_word}

pasted : (s : List ℕ) (a w x y z : ℕ) → a + 3 < length s → take a s ++ (w ∷ x ∷ y ∷ z ∷ drop 4 (drop a s)) ≡ set (set (set (set s a w) (a + 1) x) (a + 2) y) (a + 3) z
pasted [] a w x y z l = absurd (omega arith)
pasted (b0 ∷ []) zero w x y z l = absurd (omega arith)
pasted (b0 ∷ b1 ∷ []) zero w x y z l = absurd (omega arith)
pasted (b0 ∷ b1 ∷ b2 ∷ []) zero w x y z l = absurd (omega arith)
pasted (b0 ∷ b1 ∷ b2 ∷ b3 ∷ s) zero w x y z l = refl
pasted (b ∷ s) (suc a) w x y z l = simp unary_clauses (ap (λ t. b ∷ t) (simp unary_clauses at (pasted s a w x y z (omega arith))))

pub word_pasted : (s : List ℕ) (i w n : ℕ) → 4 * i + 3 < length s → n ≡ 4
    → take (4 * i) s ++ ((w % 256 ∷ w / 2 ^ 8 % 256 ∷ w / 2 ^ 16 % 256 ∷ w / 2 ^ 24 % 256 ∷ []) ++ drop n (drop (4 * i) s)) ≡ put_word s i w
unfolding put_word
word_pasted s i w n l e = ap (λ k. take (4 * i) s ++ ((w % 256 ∷ w / 2 ^ 8 % 256 ∷ w / 2 ^ 16 % 256 ∷ w / 2 ^ 24 % 256 ∷ []) ++ drop k (drop (4 * i) s))) e ∙ pasted s (4 * i) _ _ _ _ l
