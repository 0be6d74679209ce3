-- What the rules give of a node that keeps them.
use Rattle.std.specs.Prelude.{◌≡◌, ℕ, zero, suc, ◌<◌, ◌≤◌, true, cond, List, length, get_or, replicate, Some, ◌==◌, nat_le, nat_lt, slice_index_or, refl}
use Rattle.std.proofs.Common.{sym, ap, ◌∙◌, inl, inr, arith}
use Rattle.std.proofs.lemmas.Bool.{and_parts, and_from, cases_eq, cases_lt, eq-eqb, ne_eqb, eqb-true, lt-ltb, ltb-true, leb-true, false≢true}
use Rattle.std.proofs.lemmas.List.{get_or_past, get_or-replicate}
use Rattle.tree.specs.Rules.{is_directory, parent_of, below, placed, allowed, bare}
use Rattle.tree.specs.declared.node.Node.{Node}
use Rattle.tree.specs.declared.node.Node.TheVariants.{Absent, Directory, File}

module _ (nodes : List Node) (k : ℕ) where
  lies : (p : ℕ) → below nodes k p ≡ true → (p < k) × (is_directory (slice_index_or nodes p Absent) ≡ true)
  lies p h = let t = and_parts (nat_lt p k) (is_directory (slice_index_or nodes p Absent)) h in (ltb-true p k t.0, t.1)

  pub file_lies : (p l r : ℕ) → placed nodes k (File p l r) ≡ true → (p < k) × (is_directory (slice_index_or nodes p Absent) ≡ true)
  file_lies p l r h = lies p (and_parts (below nodes k p) (nat_le l 512) h).0

  pub file_fits : (p l r : ℕ) → placed nodes k (File p l r) ≡ true → l ≤ 512
  file_fits p l r h = leb-true l 512 (and_parts (below nodes k p) (nat_le l 512) h).1

  pub directory_lies : (p : ℕ) → 0 < k → placed nodes k (Directory p) ≡ true → (p < k) × (is_directory (slice_index_or nodes p Absent) ≡ true)
  directory_lies p l h = lies p (ap (λ b. cond b (p == 0) (below nodes k p)) (sym (ne_eqb k 0 (λ e. omega arith))) ∙ h)

  pub root_own : (p : ℕ) → k ≡ 0 → placed nodes k (Directory p) ≡ true → p ≡ 0
  root_own p e h = eqb-true p 0 (ap (λ b. cond b (p == 0) (below nodes k p)) (sym (eq-eqb k 0 e)) ∙ h)

  -- the parent of a node is a lower one, but for node 0
  pub parent_lower : (n : Node) → placed nodes k n ≡ true → (p : ℕ) → parent_of n ≡ Some p → 0 < k → p < k
  parent_lower Absent h p e l = cc
  parent_lower (Directory q) h p e l = let s : q ≡ p = cc in omega (arith, (directory_lies q l h).0)
  parent_lower (File q m r) h p e l = let s : q ≡ p = cc in omega (arith, (file_lies q m r h).0)

  -- and a directory
  pub parent_directory : get_or nodes 0 Absent ≡ Directory 0 → (n : Node) → placed nodes k n ≡ true → (p : ℕ) → parent_of n ≡ Some p → is_directory (slice_index_or nodes p Absent) ≡ true
  parent_directory root Absent h p e = cc
  parent_directory root (File q m r) h p e = let s : q ≡ p = cc in ap (λ j. is_directory (slice_index_or nodes j Absent)) (sym s) ∙ (file_lies q m r h).1
  parent_directory root (Directory q) h p e =
      let s : q ≡ p = cc in
      ap (λ j. is_directory (slice_index_or nodes j Absent)) (sym s) ∙ elim (cases_eq k 0) [
        | inl z ↦ ap (λ j. is_directory (slice_index_or nodes j Absent)) (root_own q z h) ∙ ap is_directory root
        | inr ne ↦ (directory_lies q (omega arith) h).1
      ]

-- an allowed node is one of the 16, and keeps the rules
pub allowed_parts : (nodes : List Node) (k : ℕ) (n : Node) → allowed nodes k n ≡ true → (k < 16) × (placed nodes k n ≡ true)
unfolding allowed
allowed_parts nodes k n h = let t = and_parts (nat_lt k 16) (placed nodes k n) h in (ltb-true k 16 t.0, t.1)

-- 16 nodes that each keep the rules, as the facts of a tree
module _ (nodes : List Node) (size : length nodes ≡ 16) (ok : (k : ℕ) → k < 16 → allowed nodes k (slice_index_or nodes k Absent) ≡ true) where
  stands : (k : ℕ) → k < 16 → placed nodes k (slice_index_or nodes k Absent) ≡ true
  stands k h = (allowed_parts nodes k (slice_index_or nodes k Absent) (ok k h)).1

  -- a node past the last is not there
  past : (k : ℕ) → 16 ≤ k → slice_index_or nodes k Absent ≡ Absent
  past k h = get_or_past nodes k Absent (omega arith)

  at_0 : (n : Node) → placed nodes 0 n ≡ true → n ≡ Directory 0
  at_0 Absent h = absurd (false≢true h)
  at_0 (Directory p) h = ap Directory (root_own nodes 0 p refl h)
  at_0 (File p l r) h = absurd (let t = (file_lies nodes 0 p l r h).0 in omega arith)

  pub root : get_or nodes 0 Absent ≡ Directory 0
  root = at_0 (slice_index_or nodes 0 Absent) (stands 0 (omega arith))

  pub lower : (k p : ℕ) → 0 < k → parent_of (slice_index_or nodes k Absent) ≡ Some p → p < k
  lower k p l e = elim (cases_lt k 16) [
    | inl h ↦ parent_lower nodes k (slice_index_or nodes k Absent) (stands k h) p e l
    | inr h ↦ let q = ap parent_of (past k h) in cc
  ]

  pub directories : (k p : ℕ) → parent_of (slice_index_or nodes k Absent) ≡ Some p → is_directory (slice_index_or nodes p Absent) ≡ true
  directories k p e = elim (cases_lt k 16) [
    | inl h ↦ parent_directory nodes k root (slice_index_or nodes k Absent) (stands k h) p e
    | inr h ↦ let q = ap parent_of (past k h) in cc
  ]

  pub lengths : (k p l h : ℕ) → slice_index_or nodes k Absent ≡ File p l h → l ≤ 512
  lengths k p l h e = elim (cases_lt k 16) [
    | inl inside ↦ file_fits nodes k p l h (ap (placed nodes k) (sym e) ∙ stands k inside)
    | inr outside ↦ let q = past k outside in cc
  ]

-- node 0 alone keeps them
bare_placed : (k : ℕ) → placed bare k (slice_index_or bare k Absent) ≡ true
bare_placed zero = refl
bare_placed (suc k) = ap (placed bare (suc k)) none ∙ lt-ltb 0 (suc k) (omega arith)
  where
    none : get_or (replicate 15 Absent) k Absent ≡ Absent
    none = elim (cases_lt k 15) [
      | inl h ↦ get_or-replicate 15 k Absent Absent h
      | inr h ↦ get_or_past (replicate 15 Absent) k Absent h
    ]

pub bare_allowed : (k : ℕ) → k < 16 → allowed bare k (slice_index_or bare k Absent) ≡ true
unfolding allowed
bare_allowed k h = and_from (nat_lt k 16) (placed bare k (slice_index_or bare k Absent)) (lt-ltb k 16 h) (bare_placed k)
