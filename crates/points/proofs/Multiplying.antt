-- Products of candidate counts, one sector more.
use Rattle.std.proofs.Common.{◌≡◌, ℕ, ◌+◌, ◌*◌, ◌<◌, ◌≤◌, min, List, [], ◌∷◌, ◌++◌, length, sym, ap, ◌∙◌, inl, inr, mul-le-mul_right, mul_assoc, mul-le-mul_left, one-mul, mul-one, arith}
use Rattle.std.specs.List.{range_with_len}
use Rattle.std.proofs.lemmas.List.FromFn.{map-range_with_len_more}
use Rattle.std.proofs.lemmas.List.{length-map}
use Rattle.std.proofs.lemmas.Simd.{map-map}
use Rattle.std.proofs.lemmas.Bool.{cases_lt}
use Rattle.crash.specs.Rules.{Recording, written}
use Rattle.crash.specs.States.{numbers, candidates, candidate_numbers, columns, states}
use Rattle.crash.specs.Ranks.{product}
use Rattle.crash.proofs.Repeating.{map_firsts}
use Rattle.crash.proofs.Numbering.{candidates_some}
use Rattle.crash.proofs.Stating.{states_count}
use Rattle.points.specs.Counting.{widths, capped}

product_push : (xs : List ℕ) (x : ℕ) → product (xs ++ x ∷ []) ≡ product xs * x
product_push [] x = mul-one x ∙ sym (one-mul x)
product_push (y ∷ xs) x = ap (λ n. y * n) (product_push xs x) ∙ sym (mul_assoc y (product xs) x)

capped_times : (a c : ℕ) → 1 ≤ c → min (capped a * c) 1048577 ≡ capped (a * c)
capped_times a c h = elim (cases_lt a 1048577) [
  | inl l ↦ let e : capped a ≡ a = omega arith in ap (λ n. min (n * c) 1048577) e
  | inr g ↦
      let e : capped a ≡ 1048577 = omega arith in
      let p : 1048577 * 1 ≤ 1048577 * c = mul-le-mul_left 1048577 h in
      let q : 1048577 * c ≤ a * c = mul-le-mul_right c g in
      ap (λ n. min (n * c) 1048577) e ∙ omega arith
]

-- the numbers of the candidates are as many as the candidates
same_length : (d : Recording) (p s : ℕ) → length (candidate_numbers d p s) ≡ length (candidates d p s)
unfolding candidates candidate_numbers
same_length d p s = sym (length-map (candidate_numbers d p s) (written d s)) ∙ ap length (map_firsts (written d s) (numbers d p s))

pub width_more : (d : Recording) (p s states n now : ℕ) (few : List ℕ) → states ≡ capped (product (widths d p s)) → few ≡ candidate_numbers d p s → n ≡ length few →
    now ≡ min (states * n) 1048577 → now ≡ capped (product (widths d p (s + 1)))
width_more d p s states n now few a b c e =
    let m : n ≡ length (candidates d p s) = c ∙ ap length b ∙ same_length d p s in
    let some = candidates_some d p s in
    e
    ∙ ap (λ x. min (x * n) 1048577) a
    ∙ ap (λ x. min (capped (product (widths d p s)) * x) 1048577) m
    ∙ capped_times (product (widths d p s)) (length (candidates d p s)) some
    ∙ ap capped (sym (product_push (widths d p s) (length (candidates d p s))) ∙ ap product (sym (map-range_with_len_more (λ k. length (candidates d p k)) 0 s s (omega arith))))

-- over all sectors the product is the number of states
pub widths_states : (d : Recording) (p : ℕ) → product (widths d p (length d.base)) ≡ length (states d p)
unfolding columns
widths_states d p = sym (states_count d p ∙ ap product (map-map length (candidates d p) (range_with_len 0 (length d.base))))

pub capped_low : (n m : ℕ) → n ≡ capped m → n ≤ 1048576 → n ≡ m
capped_low n m e l = omega arith

pub capped_high : (n m : ℕ) → n ≡ capped m → 1048576 < n → 1048576 < m
capped_high n m e l = omega arith
