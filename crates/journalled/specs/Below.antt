-- A test of the numbers below a number.
use Rattle.std.specs.Prelude.{◌≡◌, ℕ, zero, suc, ◌+◌, ◌<◌, Bool, true, false, ◌&&◌, refl}
use Rattle.std.proofs.Common.{sym, ap, ◌∙◌, inl, inr, add-one, arith}
use Rattle.std.proofs.lemmas.Bool.{cases_eq, and_from, and_left, and_right, and_parts}

-- the test holds of each number below n
unfoldable pub every : (ℕ → Bool) → ℕ → Bool
every test zero = true
every test (suc n) = every test n && test n

pub every_none : (test : ℕ → Bool) → every test 0 ≡ true
unfolding every
every_none test = refl

pub every_more : (test : ℕ → Bool) (n : ℕ) → every test n ≡ true → test n ≡ true → every test (n + 1) ≡ true
unfolding every
every_more test n h t = ap (every test) (add-one n) ∙ and_from (every test n) (test n) h t

pub every_fails : (test : ℕ → Bool) (n i : ℕ) → i < n → test i ≡ false → every test n ≡ false
unfolding every
every_fails test zero i l f = absurd (omega arith)
every_fails test (suc n) i l f = elim (cases_eq i n) [
  | inl e ↦ and_right (every test n) (test n) (ap test (sym e) ∙ f)
  | inr ne ↦ and_left (every test n) (test n) (every_fails test n i (omega arith) f)
]

pub every_at : (test : ℕ → Bool) (n i : ℕ) → every test n ≡ true → i < n → test i ≡ true
unfolding every
every_at test zero i h l = absurd (omega arith)
every_at test (suc n) i h l = elim (cases_eq i n) [
  | inl e ↦ ap test e ∙ (and_parts (every test n) (test n) h).1
  | inr ne ↦ every_at test n i (and_parts (every test n) (test n) h).0 (omega arith)
]

pub every_all : (test : ℕ → Bool) (n : ℕ) → ((i : ℕ) → i < n → test i ≡ true) → every test n ≡ true
unfolding every
every_all test zero h = refl
every_all test (suc n) h = and_from (every test n) (test n) (every_all test n (λ i l. h i (omega arith))) (h n (omega arith))
