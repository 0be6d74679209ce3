-- What the rules ask of a node depends on the nodes below it alone.
use Rattle.std.specs.Prelude.{◌≡◌, ℕ, ◌<◌, cond, ◌&&◌, List, ◌==◌, nat_le, nat_lt, slice_index_or, refl}
use Rattle.std.proofs.Common.{sym, ◌∙◌, inl, inr}
use Rattle.std.proofs.Math.Path.{ap}
use Rattle.std.proofs.lemmas.Bool.{cases_lt, le-ltb, and_left}
use Rattle.tree.specs.Rules.{is_directory, below, placed, allowed}
use Rattle.tree.specs.declared.node.Node.{Node}
use Rattle.tree.specs.declared.node.Node.TheVariants.{Absent, Directory, File}

module _ (xs ys : List Node) (k : ℕ) (same : (j : ℕ) → j < k → slice_index_or xs j Absent ≡ slice_index_or ys j Absent) where
  below_agree : (parent : ℕ) → below xs k parent ≡ below ys k parent
  below_agree parent = elim (cases_lt parent k) [
    | inl l ↦ ap (λ n. nat_lt parent k && is_directory n) (same parent l)
    | inr l ↦ and_left (nat_lt parent k) _ (le-ltb parent k l) ∙ sym (and_left (nat_lt parent k) _ (le-ltb parent k l))
  ]

  placed_agree : (node : Node) → placed xs k node ≡ placed ys k node
  placed_agree Absent = refl
  placed_agree (Directory parent) = ap (cond (k == 0) (parent == 0)) (below_agree parent)
  placed_agree (File parent size print) = ap (λ b. b && nat_le size 512) (below_agree parent)

  pub allowed_agree : (node : Node) → allowed xs k node ≡ allowed ys k node
  unfolding allowed
  allowed_agree node = ap (λ b. nat_lt k 16 && b) (placed_agree node)
