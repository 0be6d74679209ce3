-- A number padded with zeros to a width is the row of its lowest hexadecimal digits.
use Rattle.std.proofs.Common.{◌≡◌, ℕ, zero, suc, ◌+◌, ◌-◌, ◌*◌, ◌/◌, ◌%◌, ◌^◌, ◌<◌, ◌≤◌, false, List, [], ◌∷◌, ◌++◌, cond, length, replicate, refl, ap, ◌∙◌, inl, inr, eq-eqb, ne_eqb, pow-suc, append_assoc, arith}
use Rattle.std.specs.Char.{digit_char}
use Rattle.std.specs.Fmt.{digits, digits_onto, digit_glyph, padded_integral, format_spec, char_count}
use Rattle.std.proofs.lemmas.Bool.{cases_eq}
use Rattle.std.proofs.lemmas.Bool.Decides.{nat_tests}
use Rattle.std.proofs.lemmas.List.{append-nil, replicate-append-replicate}
use Rattle.tree.specs.Hex.{hexes}

glyph : (d : ℕ) → d < 16 → digit_glyph false d ≡ digit_char d
glyph d h = grind (arith, nat_tests)

zeros : (k : ℕ) → hexes k 0 ≡ replicate k 48
zeros zero = refl
zeros (suc k) = ap (λ l. l ++ 48 ∷ []) (zeros k) ∙ replicate-append-replicate k 1 48 ∙ ap (λ n. replicate n 48) {y = suc k} (omega arith)

-- the last k digits before `after`, with a zero for each that the number does not have
module _ (n : ℕ) (after : List ℕ) where
  first : (i : ℕ) → n / 16 ≡ 0 → digits_onto (suc i) 16 false n after ≡ digit_glyph false (n % 16) ∷ after
  first i e = ap (λ b. cond b (digit_glyph false (n % 16) ∷ after) (digits_onto i 16 false (n / 16) (digit_glyph false (n % 16) ∷ after))) (eq-eqb (n / 16) 0 e)

  more : (i : ℕ) → (n / 16 ≡ 0 → ⊥) → digits_onto (suc i) 16 false n after ≡ digits_onto i 16 false (n / 16) (digit_glyph false (n % 16) ∷ after)
  more i e = ap (λ b. cond b (digit_glyph false (n % 16) ∷ after) (digits_onto i 16 false (n / 16) (digit_glyph false (n % 16) ∷ after))) (ne_eqb (n / 16) 0 e)

left : (k n : ℕ) → n < 16 ^ suc k → (n / 16 ≡ 0 → ⊥) → 0 < k
left zero n small ne = absurd (ne (omega arith))
left (suc k) n small ne = omega arith

filled : (k i n : ℕ) (after : List ℕ) → 0 < k → k ≤ i → n < 16 ^ k
    → replicate (k + length after - length (digits_onto i 16 false n after)) 48 ++ digits_onto i 16 false n after ≡ hexes k n ++ after
filled zero i n after some room small = absurd (omega arith)
filled (suc k) zero n after some room small = absurd (omega arith)
filled (suc k) (suc i) n after some room small =
    let p : 16 ^ suc k ≡ 16 ^ k * 16 = pow-suc _ _ in
    let g : digit_glyph false (n % 16) ≡ digit_char (n % 16) = glyph (n % 16) (omega arith) in
    let F : List ℕ → List ℕ = λ d. replicate (suc k + length after - length d) 48 ++ d in
    elim (cases_eq (n / 16) 0) [
      | inl z ↦
          let e : hexes k (n / 16) ≡ replicate k 48 = ap (hexes k) z ∙ zeros k in
          let count : suc k + length after - suc (length after) ≡ k = omega arith in
          ap F (first n after i z) ∙ rw (count, g, e, append_assoc)
      | inr ne ↦
          let count : suc k + length after ≡ k + suc (length after) = omega arith in
          ap F (more n after i ne)
          ∙ ap (λ m. replicate (m - length (digits_onto i 16 false (n / 16) (digit_glyph false (n % 16) ∷ after))) 48 ++ digits_onto i 16 false (n / 16) (digit_glyph false (n % 16) ∷ after)) count
          ∙ filled k i (n / 16) (digit_glyph false (n % 16) ∷ after) (left k n small ne) (omega arith) (omega arith)
          ∙ rw (g, append_assoc)
    ]

-- under the options `08x` zeros come first, and nothing after the digits
padded : (ds : List ℕ) → padded_integral (format_spec 32 0 4 8 (2 ^ 64 - 1)) false [] ds ≡ replicate (8 - length ds - 0 - 0) 48 ++ ds
unfolding padded_integral char_count
padded ds = ap (λ l. replicate (8 - length ds - 0 - 0) 48 ++ l) (append-nil ds)

pub eight : (n : ℕ) → n < 2 ^ 32 → padded_integral (format_spec 32 0 4 8 (2 ^ 64 - 1)) false [] (digits 16 false n) ≡ hexes 8 n
unfolding digits
eight n h = padded (digits_onto 64 16 false n []) ∙ ap (λ m. replicate m 48 ++ digits_onto 64 16 false n []) {y = 8 + 0 - length (digits_onto 64 16 false n [])} (omega arith) ∙ filled 8 64 n [] (omega arith) (omega arith) (omega arith) ∙ append-nil (hexes 8 n)
