-- What the lowest node that fails makes of a tree.
use Rattle.std.proofs.Common.{◌≡◌, ℕ, ◌<◌, ◌≤◌, Bool, true, false, cond, List, Option, Some, None, sym, refl, ap, ◌∙◌, arith}
use Rattle.std.specs.Option.{MatchOption}
use Rattle.std.proofs.lemmas.Bool.{lt-ltb}
use Rattle.tree.specs.declared.node.Node.{Node}
use Rattle.filesystem.specs.Outcomes.{a_tree}
use Rattle.filesystem.specs.Least.{none_fails, one_fails}
use Rattle.judging.specs.declared.judgement.Judgement.{Judgement}
use Rattle.judging.specs.declared.judgement.Judgement.TheVariants.{Admitted, Unadmitted}
use Rattle.judging.specs.Codes.{code_of}
use Rattle.meaning.specs.Judgements.{is_fine, judged_at, judgement}

module _ (values : ℕ → List Node) (nodes : List Node) where
  -- the judgement by the lowest node that has none of its values
  pub judged_by : (lowest : Option ℕ) (found : Judgement) → MatchOption lowest ((k : ℕ) → 0 ≤ k → k < 16 → is_fine values nodes k ≡ true)
      (λ i. (0 ≤ i) × (i < 16) × (is_fine values nodes i ≡ false) × ((k : ℕ) → 0 ≤ k → k < i → is_fine values nodes k ≡ true)) →
      (lowest ≡ None → found ≡ Admitted) → ((i : ℕ) → lowest ≡ Some i → found ≡ Unadmitted i) → code_of found ≡ judgement values (a_tree nodes)
  judged_by None found h a u = ap code_of (a refl) ∙ sym (ap judged_at (none_fails (is_fine values nodes) 16 (λ k l. h k (omega arith) l)))
  judged_by (Some i) found h a u =
      ap code_of (u i refl)
      ∙ sym (ap judged_at (one_fails (is_fine values nodes) 16 i h.1 (λ k l. h.3 k (omega arith) l) h.2) ∙ ap (λ b. cond b (1, i) (0, 0)) (lt-ltb i 16 h.1))
