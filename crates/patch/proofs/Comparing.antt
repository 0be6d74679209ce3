-- Numbers counted by two tests that agree on them.
use Rattle.std.proofs.Common.{◌≡◌, ℕ, zero, suc, ◌+◌, ◌<◌, ◌≤◌, Bool, cond, refl, ap, ◌∙◌, sym, arith}
use Rattle.std.specs.List.{range_with_len, count_by}
use Rattle.std.proofs.lemmas.List.Sums.{sum_by-cons}

pub counted_same : (f g : ℕ → Bool) (a n : ℕ) → ((k : ℕ) → a ≤ k → k < a + n → f k ≡ g k) → count_by f (range_with_len a n) ≡ count_by g (range_with_len a n)
counted_same f g a zero same = refl
counted_same f g a (suc n) same =
    sum_by-cons _ a (range_with_len (a + 1) n)
    ∙ ap (λ b. cond b 1 0 + count_by f (range_with_len (a + 1) n)) (same a (omega arith) (omega arith))
    ∙ ap (λ m. cond (g a) 1 0 + m) (counted_same f g (a + 1) n (λ k l h. same k (omega arith) (omega arith)))
    ∙ sym (sum_by-cons _ a (range_with_len (a + 1) n))
