-- A point is declined exactly where it is beyond the limits; and the first of some points that is.
use Rattle.std.proofs.Common.{◌≡◌, ℕ, zero, suc, ◌+◌, ◌<◌, ◌≤◌, Bool, true, false, cond, ltb, ◌⊎◌, List, length, Some, None, Decides, Option, [], ◌∷◌, sym, refl, ap, ◌∙◌, inl, inr, arith}
use Rattle.std.specs.List.{range_with_len}
use Rattle.std.proofs.lemmas.Bool.{cases_Bool, cases_eq, cases_lt, le-ltb, ltb-false, both_ways}
use Rattle.std.proofs.lemmas.Bool.Decides.{Decides-or, Decides-ltb}
use Rattle.image.specs.Sectors.{Image}
use Rattle.tree.specs.declared.node.Node.{Node}
use Rattle.recording.specs.Items.{Item}
use Rattle.crash.specs.Rules.{Recording}
use Rattle.crash.specs.States.{some_below, numbers, states}
use Rattle.crash.proofs.Deciding.{some_decides}
use Rattle.meaning.specs.Meanings.{writes_of, values_of}
use Rattle.meaning.specs.Loads.{crowded, point_fault, or_else, first_fault}
use Rattle.meaning.specs.Taken.{PointFits}

-- THE FIRST of the points from a on.
module _ (fault : ℕ → Option (ℕ × ℕ)) where
  pub first_none : (a n : ℕ) → ((p : ℕ) → a ≤ p → p < a + n → fault p ≡ None) → first_fault fault (range_with_len a n) ≡ None
  first_none a zero h = refl
  first_none a (suc n) h =
      ap (λ o. or_else o (first_fault fault (range_with_len (a + 1) n))) (h a (omega arith) (omega arith))
      ∙ first_none (a + 1) n (λ p l b. h p (omega arith) (omega arith))

  pub first_some : (a n q : ℕ) (r : ℕ × ℕ) → a ≤ q → q < a + n → ((p : ℕ) → a ≤ p → p < q → fault p ≡ None) → fault q ≡ Some r → first_fault fault (range_with_len a n) ≡ Some r
  first_some a zero q r l b h e = absurd (omega arith)
  first_some a (suc n) q r l b h e = elim (cases_eq a q) [
    | inl s ↦ ap (λ o. or_else o (first_fault fault (range_with_len (a + 1) n))) (ap fault s ∙ e)
    | inr s ↦
        ap (λ o. or_else o (first_fault fault (range_with_len (a + 1) n))) (h a (omega arith) (omega arith))
        ∙ first_some (a + 1) n q r (omega arith) (omega arith) (λ p i j. h p (omega arith) j) e
  ]

  neither : (o u : Option (ℕ × ℕ)) → or_else o u ≡ None → (o ≡ None) × (u ≡ None)
  neither None u e = (refl, e)
  neither (Some r) u e = cc

  -- where the first is none, each of them is
  pub all_none : (a n : ℕ) → first_fault fault (range_with_len a n) ≡ None → (p : ℕ) → a ≤ p → p < a + n → fault p ≡ None
  all_none a zero e p l b = absurd (omega arith)
  all_none a (suc n) e p l b =
      let t = neither (fault a) (first_fault fault (range_with_len (a + 1) n)) e in
      elim (cases_eq a p) [
        | inl s ↦ ap fault (sym s) ∙ t.0
        | inr s ↦ all_none (a + 1) n t.1 p (omega arith) (omega arith)
      ]

module _ (base : Image) (nodes : List Node) (items : List Item) where
  abbrev d : Recording
  d = writes_of base items

  -- a sector or a node has more than 8 candidates
  abbrev pub Full : ℕ → Type 0
  Full p = ((s : ℕ) × (s < length base) × (8 < length (numbers d p s))) ⊎ ((n : ℕ) × (n < 16) × (8 < length (values_of nodes items p n)))

  pub crowded_decides : (p : ℕ) → Decides (crowded base nodes items p) (Full p)
  crowded_decides p =
      Decides-or (some_below (λ s. ltb 8 (length (numbers d p s))) (length base)) (some_below (λ n. ltb 8 (length (values_of nodes items p n))) 16)
      (some_decides (λ s. ltb 8 (length (numbers d p s))) (λ s. 8 < length (numbers d p s)) (λ s. Decides-ltb 8 (length (numbers d p s))) (length base))
      (some_decides (λ n. ltb 8 (length (values_of nodes items p n))) (λ n. 8 < length (values_of nodes items p n)) (λ n. Decides-ltb 8 (length (values_of nodes items p n))) 16)

  -- the point by its two tests
  abbrev fault : ℕ → Bool → Bool → Option (ℕ × ℕ)
  fault p c m = cond c (Some (13, p)) (cond m (Some (14, p)) None)

  none_by : (p : ℕ) (c m : Bool) → fault p c m ≡ None → (c ≡ false) × (m ≡ false)
  none_by p false false e = (refl, refl)
  none_by p false true e = cc
  none_by p true m e = cc

  late_by : (p : ℕ) (c m : Bool) (r : ℕ × ℕ) → fault p c m ≡ Some r → 6 < r.0
  late_by p true m r e = let q : 13 ≡ r.0 = cc in omega arith
  late_by p false true r e = let q : 14 ≡ r.0 = cc in omega arith
  late_by p false false r e = cc

  uncrowded : (p : ℕ) → crowded base nodes items p ≡ false → Full p → ⊥
  uncrowded p e f = both_ways (crowded base nodes items p) e ((crowded_decides p).1 f)

  at_most : (n : ℕ) → (8 < n → ⊥) → n ≤ 8
  at_most n h = elim (cases_lt 8 n) [ inl l ↦ absurd (h l) | inr g ↦ g ]

  pub fits : (p : ℕ) → point_fault base nodes items p ≡ None → PointFits base nodes items p
  fits p e =
      let t = none_by p (crowded base nodes items p) (ltb 1048576 (length (states d p))) e in
      record {
        sectors = λ s l. at_most (length (numbers d p s)) (λ m. uncrowded p t.0 (inl (s, l, m)));
        nodes = λ n l. at_most (length (values_of nodes items p n)) (λ m. uncrowded p t.0 (inr (n, l, m)));
        few = ltb-false 1048576 (length (states d p)) t.1;
      }

  none_full : (p : ℕ) → PointFits base nodes items p → Full p → ⊥
  none_full p F (inl s) = let a = F.sectors s.0 s.1 in let b = s.2 in omega arith
  none_full p F (inr n) = let a = F.nodes n.0 n.1 in let b = n.2 in omega arith

  pub no_fault : (p : ℕ) → PointFits base nodes items p → point_fault base nodes items p ≡ None
  no_fault p F =
      let few = F.few in
      let c : crowded base nodes items p ≡ false = elim (cases_Bool (crowded base nodes items p)) [
        | inl t ↦ absurd (none_full p F ((crowded_decides p).0 t))
        | inr f ↦ f
      ] in
      ap (λ b. fault p b (ltb 1048576 (length (states d p)))) c ∙ ap (fault p false) (le-ltb 1048576 (length (states d p)) few)

  late_point : (p : ℕ) (r : ℕ × ℕ) → point_fault base nodes items p ≡ Some r → 6 < r.0
  late_point p r e = late_by p (crowded base nodes items p) (ltb 1048576 (length (states d p))) r e

  late_or : (o u : Option (ℕ × ℕ)) (r : ℕ × ℕ) → ((t : ℕ × ℕ) → o ≡ Some t → 6 < t.0) → ((t : ℕ × ℕ) → u ≡ Some t → 6 < t.0) → or_else o u ≡ Some r → 6 < r.0
  late_or None u r a b e = b r e
  late_or (Some t) u r a b e = a r e

  -- a point is declined by 13 or 14
  pub late_points : (ps : List ℕ) (r : ℕ × ℕ) → first_fault (point_fault base nodes items) ps ≡ Some r → 6 < r.0
  late_points [] r e = cc
  late_points (p ∷ ps) r e = late_or (point_fault base nodes items p) (first_fault (point_fault base nodes items) ps) r (late_point p) (late_points ps) e
