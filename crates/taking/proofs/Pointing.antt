-- The first point that is declined: what the check of the points answers is what the tests say.
use Rattle.std.proofs.Common.{◌≡◌, ℕ, ◌+◌, ◌<◌, Bool, true, false, cond, ltb, List, map, length, get_or, Some, None, Ok, Err, Option, Result, refl, ap, ◌∙◌, inl, inr, arith}
use Rattle.std.specs.List.{range_with_len}
use Rattle.std.proofs.lemmas.List.{length-map}
use Rattle.std.proofs.lemmas.Bool.{cases_Bool, lt-ltb, le-ltb}
use Rattle.image.specs.Sectors.{Image}
use Rattle.tree.specs.declared.node.Node.{Node}
use Rattle.tree.specs.declared.node.Node.TheVariants.{Absent}
use Rattle.recording.specs.Items.{Item}
use Rattle.crash.specs.Effects.{effect_of}
use Rattle.crash.specs.Rules.{Recording}
use Rattle.crash.specs.States.{states}
use Rattle.meaning.specs.Meanings.{writes_of, values_of, marks_of}
use Rattle.meaning.specs.Loads.{crowded, point_fault, first_fault}
use Rattle.meaning.proofs.Pointing.{first_none, first_some, Full, crowded_decides}
use Rattle.candidates.specs.declared.refusal.Refusal.{Refusal}
use Rattle.candidates.specs.declared.refusal.Refusal.TheVariants.{SectorNumber, Candidates, States}
use Rattle.candidates.specs.Refusals.{code_of}
use Rattle.points.specs.Counting.{Crowded, Uncrowded, Fine, Checked}

-- why the points are declined, by what their check answers
abbrev pub reason : Result (Unit {0}) Refusal → Option (ℕ × ℕ)
reason (Ok u) = None
reason (Err f) = Some (code_of f)

module _ (base : Image) (nodes : List Node) (items : List Item) where
  abbrev d : Recording
  d = writes_of base items

  -- ONE POINT.
  full : (p : ℕ) → Crowded d (marks_of items) p → Full base nodes items p
  full p (inl s) = inl s
  full p (inr n) = inr (n.0, n.1, n.2 (get_or nodes n.0 Absent))

  not_full : (p : ℕ) → Uncrowded d (marks_of items) p → Full base nodes items p → ⊥
  not_full p u (inl s) = let a = u.0 s.0 s.1 in let b = s.2 in omega arith
  not_full p u (inr n) = let a = u.1 n.0 n.1 (get_or nodes n.0 Absent) in let b = n.2 in omega arith

  is_crowded : (p : ℕ) → Crowded d (marks_of items) p → crowded base nodes items p ≡ true
  is_crowded p c = (crowded_decides base nodes items p).1 (full p c)

  is_uncrowded : (p : ℕ) → Uncrowded d (marks_of items) p → crowded base nodes items p ≡ false
  is_uncrowded p u = elim (cases_Bool (crowded base nodes items p)) [
    | inl t ↦ absurd (not_full p u ((crowded_decides base nodes items p).0 t))
    | inr f ↦ f
  ]

  -- the point by its two tests
  abbrev fault : ℕ → Bool → Bool → Option (ℕ × ℕ)
  fault p c m = cond c (Some (13, p)) (cond m (Some (14, p)) None)

  by_tests : (p : ℕ) (c m : Bool) → crowded base nodes items p ≡ c → ltb 1048576 (length (states d p)) ≡ m → point_fault base nodes items p ≡ fault p c m
  by_tests p c m e f = ap (λ b. fault p b (ltb 1048576 (length (states d p)))) e ∙ ap (fault p c) f

  too_crowded : (p : ℕ) → Crowded d (marks_of items) p → point_fault base nodes items p ≡ Some (13, p)
  too_crowded p c = by_tests p true (ltb 1048576 (length (states d p))) (is_crowded p c) refl

  too_many : (p : ℕ) → Uncrowded d (marks_of items) p → 1048576 < length (states d p) → point_fault base nodes items p ≡ Some (14, p)
  too_many p u m = by_tests p false true (is_uncrowded p u) (lt-ltb 1048576 (length (states d p)) m)

  no_fault : (p : ℕ) → Fine d (marks_of items) p → point_fault base nodes items p ≡ None
  no_fault p h = by_tests p false false (is_uncrowded p h.0) (le-ltb 1048576 (length (states d p)) h.1)

  -- ALL POINTS.
  entries : length (map effect_of items) ≡ length items
  entries = length-map items effect_of

  pub points_fault : (r : Result (Unit {0}) Refusal) → Checked d (marks_of items) r → first_fault (point_fault base nodes items) (range_with_len 0 (length items + 1)) ≡ reason r
  points_fault (Ok u) h = first_none (point_fault base nodes items) 0 (length items + 1) (λ p l b. no_fault p (h p (let e = entries in omega arith)))
  points_fault (Err SectorNumber) h = absurd h
  points_fault (Err (Candidates q)) h =
      let e = entries in
      let i = h.0 in
      first_some (point_fault base nodes items) 0 (length items + 1) q (13, q) (omega arith) (omega arith) (λ p l b. no_fault p (h.2 p b)) (too_crowded q h.1)
  points_fault (Err (States q)) h =
      let e = entries in
      let i = h.0 in
      first_some (point_fault base nodes items) 0 (length items + 1) q (14, q) (omega arith) (omega arith) (λ p l b. no_fault p (h.3 p b)) (too_many q h.1 h.2)
