-- The nodes laid so far, and what they say of the whole tree.
use Rattle.std.proofs.Common.{◌≡◌, ℕ, ◌+◌, ◌<◌, Bool, true, false, cond, ◌&&◌, List, [], ◌∷◌, ◌++◌, length, get_or, sym, ap, ◌∙◌, arith, below_more}
use Rattle.std.proofs.lemmas.List.FromFn.{get_or-map-range_with_len, fill_by_all}
use Rattle.std.proofs.lemmas.List.{get_or_append_left, get_or_push}
use Rattle.std.proofs.lemmas.Bool.{lt-ltb}
use Rattle.tree.specs.declared.node.Node.{Node}
use Rattle.tree.specs.declared.node.Node.TheVariants.{Absent}
use Rattle.tree.specs.Rules.{allowed}
use Rattle.tree.specs.Agreeing.{allowed_agree}
use Rattle.image.specs.Sectors.{Image}
use Rattle.filesystem.specs.declared.fault.Fault.TheVariants.{NodeWord}
use Rattle.filesystem.specs.Least.{none_fails, one_fails}
use Rattle.filesystem.specs.Outcomes.{a_tree, a_fault}
use Rattle.filesystem.specs.Words.{word_stands}
use Rattle.filesystem.specs.Trees.{node_of, node_word, node_at, nodes_of, node_stands, tree_from, tree_of}

nodes_at : (im : Image) (j : ℕ) → j < 16 → get_or (nodes_of im) j Absent ≡ node_at im j
unfolding nodes_of
nodes_at im j h = get_or-map-range_with_len (node_at im) 0 16 j j Absent h (omega arith)

module _ (lowest : ℕ) (im : Image) where
  pub whole : (nodes : List Node) → length nodes ≡ 16 → ((j : ℕ) → j < 16 → get_or nodes j Absent ≡ node_at im j)
      → ((j : ℕ) → j < 16 → node_stands lowest im j ≡ true) → a_tree nodes ≡ tree_of lowest im
  unfolding tree_of nodes_of
  whole nodes len same ok =
      ap a_tree (fill_by_all (node_at im) nodes 16 Absent len same)
      ∙ sym (ap (λ bad. tree_from bad im) (none_fails (node_stands lowest im) 16 ok))

  module _ (k : ℕ) (inside : k < 16) (ok : (j : ℕ) → j < k → node_stands lowest im j ≡ true) where
    pub broken : node_stands lowest im k ≡ false → a_fault (NodeWord k) ≡ tree_of lowest im
    unfolding tree_of
    broken f = sym (ap (λ bad. tree_from bad im) (one_fails (node_stands lowest im) 16 k inside ok f)
        ∙ ap (λ b. cond b (a_fault (NodeWord k)) (a_tree (nodes_of im))) (lt-ltb k 16 inside))

    module _ (nodes : List Node) (same : (j : ℕ) → j < k → get_or nodes j Absent ≡ node_at im j) where
      -- the answer to node k's word is whether the node stands
      pub answered : (r : Bool) (w laid : ℕ) → laid ≡ k → w ≡ node_word im k
          → r ≡ (word_stands lowest (length im) laid w && allowed nodes laid (node_of im w)) → node_stands lowest im k ≡ r
      unfolding node_stands node_at
      answered r w laid el ew q = sym (q
          ∙ ap (λ x. word_stands lowest (length im) x w && allowed nodes x (node_of im w)) el
          ∙ ap (λ v. word_stands lowest (length im) k v && allowed nodes k (node_of im v)) ew
          ∙ ap (λ b. word_stands lowest (length im) k (node_word im k) && b)
          (allowed_agree nodes (nodes_of im) k (λ j l. same j l ∙ sym (nodes_at im j (omega arith))) (node_at im k)))

      -- one node more
      pub more : (w : ℕ) → length nodes ≡ k → w ≡ node_word im k
          → (j : ℕ) → j < k + 1 → get_or (nodes ++ node_of im w ∷ []) j Absent ≡ node_at im j
      unfolding node_at
      more w el ew = below_more _ k
          (λ j l. get_or_append_left nodes (node_of im w ∷ []) Absent j (omega arith) ∙ same j l)
          (get_or_push nodes (node_of im w) Absent k el ∙ ap (node_of im) ew)
