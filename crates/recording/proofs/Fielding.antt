-- Numbers as bytes and back, rows of zeros, and parts of rows of bytes.
use Rattle.std.proofs.Common.{◌≡◌, ℕ, zero, suc, ◌+◌, ◌*◌, ◌/◌, ◌%◌, ◌^◌, ◌<◌, ◌≤◌, true, eqb, List, [], ◌∷◌, ◌++◌, length, get_or, take, drop, replicate, sym, refl, ap, ◌∙◌, inl, inr, pow-suc, arith}
use Rattle.std.proofs.lemmas.Bool.{cases_lt, and_parts, eqb-true}
use Rattle.std.proofs.lemmas.List.{length-take-le, length-drop, drop-drop, get_or-take, get_or-drop, get_or_past, take-append-drop, length-take}
use Rattle.std.proofs.lemmas.Nat.{div_below}
use Rattle.image.specs.Sectors.{Bytes}
use Rattle.recording.specs.Numbers.{number, field, part, all_zero}

pub length_field : (w n : ℕ) → length (field w n) ≡ w
unfolding field
length_field zero n = refl
length_field (suc w) n = ap suc (length_field w (n / 256))

pub number_field : (w n : ℕ) → n < 256 ^ w → number (field w n) ≡ n
unfolding field
number_field zero n h = let k : n < 1 = h in omega arith
number_field (suc w) n h =
    let k : n < 256 ^ w * 256 = rw pow-suc at h in
    let e = number_field w (n / 256) (div_below n 256 (256 ^ w) (omega arith) k) in
    omega arith

bytes_tail : (b : ℕ) (bs : List ℕ) → Bytes (b ∷ bs) → Bytes bs
bytes_tail b bs h i = h (suc i)

pub field_number : (xs : List ℕ) → Bytes xs → field (length xs) (number xs) ≡ xs
unfolding field
field_number [] h = refl
field_number (b ∷ bs) h =
    let l : b < 256 = h 0 in
    let m : (b + 256 * number bs) % 256 ≡ b = omega arith in
    let d : (b + 256 * number bs) / 256 ≡ number bs = omega arith in
    ap (λ y. y ∷ field (length bs) ((b + 256 * number bs) / 256)) m
    ∙ ap (λ y. b ∷ field (length bs) y) d
    ∙ ap (λ ys. b ∷ ys) (field_number bs (bytes_tail b bs h))

pub zeros_are : (xs : List ℕ) → all_zero xs ≡ true → xs ≡ replicate (length xs) 0
zeros_are [] e = refl
zeros_are (b ∷ bs) e =
    let p = and_parts (eqb b 0) (all_zero bs) e in
    ap (λ y. y ∷ bs) (eqb-true b 0 p.0) ∙ ap (λ ys. 0 ∷ ys) (zeros_are bs p.1)

pub zeros_all : (n : ℕ) → all_zero (replicate n 0) ≡ true
zeros_all zero = refl
zeros_all (suc n) = zeros_all n

pub bytes_drop : (n : ℕ) (xs : List ℕ) → Bytes xs → Bytes (drop n xs)
bytes_drop n xs h i = rw (get_or-drop n xs i 0) (h (n + i))

pub bytes_take : (n : ℕ) (xs : List ℕ) → Bytes xs → Bytes (take n xs)
bytes_take n xs h i = elim (cases_lt i n) [
  | inl l ↦ rw (get_or-take n xs i 0 l) (h i)
  | inr g ↦ let p : get_or (take n xs) i 0 ≡ 0 = get_or_past (take n xs) i 0 (omega (arith, length-take n xs)) in omega (arith, p)
]

pub length_part : (x : List ℕ) (k w : ℕ) → k + w ≤ length x → length (part x k w) ≡ w
length_part x k w h = length-take-le w (drop k x) (omega (arith, length-drop k x))

-- a part of so many bytes is the field of its number
pub part_field : (x : List ℕ) (k w : ℕ) → Bytes x → k + w ≤ length x → part x k w ≡ field w (number (part x k w))
part_field x k w bs h =
    sym (field_number (part x k w) (bytes_take w (drop k x) (bytes_drop k x bs)))
    ∙ ap (λ n. field n (number (part x k w))) (length_part x k w h)

-- what is left from p on: the next i bytes, and what is left behind them
pub peel : (p i : ℕ) (x : List ℕ) → drop p x ≡ take i (drop p x) ++ drop (p + i) x
peel p i x = sym (take-append-drop i (drop p x)) ∙ ap (λ y. take i (drop p x) ++ y) (drop-drop i p x)

-- a number of so many bytes is below their power
pub number_below : (xs : List ℕ) → Bytes xs → number xs < 256 ^ length xs
number_below [] h = omega arith
number_below (b ∷ bs) h =
    let l : b < 256 = h 0 in
    let k = number_below bs (bytes_tail b bs h) in
    rw pow-suc (omega arith)
