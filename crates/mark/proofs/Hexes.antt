-- Hexadecimal digits, one more at a time.
use Rattle.std.proofs.Common.{◌≡◌, ℕ, ◌+◌, ◌*◌, ◌/◌, ◌%◌, ◌^◌, ◌<◌, ◌≤◌, List, [], ◌∷◌, ◌++◌, length, get_or, take, sym, ap, ◌∙◌, pow-suc, add-one, arith}
use native.Mathlib.Nat.{pow-le-pow_right}
use Rattle.std.specs.Char.{digit_char}
use Rattle.std.proofs.lemmas.List.{take_more}
use Rattle.tree.specs.Hex.{hexes}

pub sixteen_more : (i : ℕ) → 16 ^ (i + 1) ≡ 16 ^ i * 16
sixteen_more i = rw (add-one, pow-suc)

-- a number of fewer than eight digits has room for one more
pub room : (i v : ℕ) → i < 8 → v < 16 ^ i → v * 16 + 15 < 4294967296
room i v h l =
    let pos : 0 < 16 = omega arith in
    let le : i ≤ 7 = omega arith in
    let top : 16 ^ i ≤ 16 ^ 7 = pow-le-pow_right pos le in
    omega arith

pub hexes_more : (i v d : ℕ) → d < 16 → hexes (i + 1) (v * 16 + d) ≡ hexes i v ++ digit_char d ∷ []
hexes_more i v d h =
    let q : (v * 16 + d) / 16 ≡ v = omega arith in
    let r : (v * 16 + d) % 16 ≡ d = omega arith in
    ap (λ k. hexes k (v * 16 + d)) (add-one i) ∙ ap (λ u. hexes i u ++ digit_char ((v * 16 + d) % 16) ∷ []) q ∙ ap (λ u. hexes i v ++ digit_char u ∷ []) r

pub hex_step : (t : List ℕ) (i v d : ℕ) → i < length t → take i t ≡ hexes i v → d < 16 → digit_char d ≡ get_or t i 0 → take (i + 1) t ≡ hexes (i + 1) (v * 16 + d)
hex_step t i v d h e s g =
    take_more t i 0 h ∙ ap (λ l. l ++ get_or t i 0 ∷ []) e ∙ ap (λ x. hexes i v ++ x ∷ []) (sym g) ∙ sym (hexes_more i v d s)
