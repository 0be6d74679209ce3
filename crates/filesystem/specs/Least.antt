-- The least number that fails a test.
use Rattle.std.specs.Prelude.{◌≡◌, ℕ, zero, suc, ◌<◌, ◌≤◌, Bool, true, false, cond, nat_lt}
use Rattle.std.proofs.Math.Path.{refl, sym, ap}
use Rattle.std.proofs.Common.{subst, ◌∙◌, arith}
use Rattle.std.proofs.Math.Logic.{inl, inr}
use Rattle.std.proofs.lemmas.Bool.{cases_eq, cases_lt, cases_Bool, lt-ltb, le-ltb}

-- the least number below n that fails the test, or n where none does
unfoldable pub first_failing : (ℕ → Bool) → ℕ → ℕ
first_failing test zero = zero
first_failing test (suc n) = cond (nat_lt (first_failing test n) n) (first_failing test n) (cond (test n) (suc n) n)

module _ (test : ℕ → Bool) where
  at_end : (n m : ℕ) → m ≡ n → cond (nat_lt m n) m (cond (test n) (suc n) n) ≡ cond (test n) (suc n) n
  at_end n m e = ap (λ b. cond b m (cond (test n) (suc n) n)) (le-ltb m n (omega arith))

  pub none_fails : (n : ℕ) → ((k : ℕ) → k < n → test k ≡ true) → first_failing test n ≡ n
  unfolding first_failing
  none_fails zero h = refl
  none_fails (suc n) h =
      at_end n (first_failing test n) (none_fails n (λ k l. h k (omega arith)))
      ∙ ap (λ b. cond b (suc n) n) (h n (omega arith))

  pub one_fails : (n i : ℕ) → i < n → ((k : ℕ) → k < i → test k ≡ true) → test i ≡ false → first_failing test n ≡ i
  unfolding first_failing
  one_fails zero i l h f = absurd (omega arith)
  one_fails (suc n) i l h f = elim (cases_eq i n) [
    | inl e ↦
        at_end n (first_failing test n) (none_fails n (λ k l'. h k (omega arith)))
        ∙ ap (λ b. cond b (suc n) n) (ap test (sym e) ∙ f) ∙ sym e
    | inr ne ↦
        let q : first_failing test n ≡ i = one_fails n i (omega arith) h f in
        ap (λ b. cond b (first_failing test n) (cond (test n) (suc n) n)) (lt-ltb (first_failing test n) n (omega arith)) ∙ q
  ]

-- m is the least number below n that fails the test, or n
pub record First (test : ℕ → Bool) (n m : ℕ) : Type 0 where
  pub within : m ≤ n
  pub before : (k : ℕ) → k < m → test k ≡ true
  pub fails : m < n → test m ≡ false

pub first_failing_lem : (test : ℕ → Bool) (n : ℕ) → First test n (first_failing test n)
unfolding first_failing
first_failing_lem test zero = record { within = omega arith; before = λ k l. absurd (omega arith); fails = λ l. absurd (omega arith) }
first_failing_lem test (suc n) = elim (cases_lt (first_failing test n) n) [
  | inl l ↦ move (ap (λ b. cond b (first_failing test n) (cond (test n) (suc n) n)) (lt-ltb (first_failing test n) n l))
      (record { within = omega arith; before = (first_failing_lem test n).before; fails = λ _. (first_failing_lem test n).fails l })
  | inr g ↦
      let e : first_failing test n ≡ n = let w = (first_failing_lem test n).within in omega arith in
      elim (cases_Bool (test n)) [
        | inl t ↦ move (at_end test n (first_failing test n) e ∙ ap (λ b. cond b (suc n) n) t)
            (record { within = omega arith; before = λ k l. elim (cases_eq k n) [ inl q ↦ ap test q ∙ t | inr ne ↦ (first_failing_lem test n).before k (omega arith) ]; fails = λ l. absurd (omega arith) })
        | inr f ↦ move (at_end test n (first_failing test n) e ∙ ap (λ b. cond b (suc n) n) f)
            (record { within = omega arith; before = λ k l. (first_failing_lem test n).before k (omega arith); fails = λ _. f })
      ]
]
  where
    move : {a b : ℕ} → a ≡ b → First test (suc n) b → First test (suc n) a
    move {a} {b} e h = let P : ℕ → Type 0 = λ m. First test (suc n) m in subst P (sym e) h
