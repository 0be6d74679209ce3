-- A judgement depends on the values of the 16 nodes alone.
use Rattle.std.specs.Prelude.{◌≡◌, ℕ, zero, suc, ◌<◌, Bool, cond, List, nat_lt, slice_index_or, refl}
use Rattle.std.proofs.Common.{ap, ◌∙◌, arith}
use Rattle.tree.specs.declared.node.Node.{Node}
use Rattle.tree.specs.declared.node.Node.TheVariants.{Absent}
use Rattle.filesystem.specs.Outcomes.{Outcome, a_tree, a_fault}
use Rattle.filesystem.specs.Least.{first_failing}
use Rattle.meaning.specs.Judgements.{is_among, is_fine, judged_at, judgement}

-- the least number below n that fails a test depends on the test below n alone
first_same : (f g : ℕ → Bool) (n : ℕ) → ((k : ℕ) → k < n → f k ≡ g k) → first_failing f n ≡ first_failing g n
unfolding first_failing
first_same f g zero h = refl
first_same f g (suc n) h =
    let e = first_same f g n (λ k l. h k (omega arith)) in
    ap (λ m. cond (nat_lt m n) m (cond (f n) (suc n) n)) e
    ∙ ap (λ b. cond (nat_lt (first_failing g n) n) (first_failing g n) (cond b (suc n) n)) (h n (omega arith))

pub same_values : (f g : ℕ → List Node) → ((n : ℕ) → n < 16 → f n ≡ g n) → (o : Outcome) → judgement f o ≡ judgement g o
same_values f g h (a_tree nodes) = ap judged_at (first_same (is_fine f nodes) (is_fine g nodes) 16 (λ n l. ap (is_among (slice_index_or nodes n Absent)) (h n l)))
same_values f g h (a_fault fault) = refl
