-- A recording that was taken is past no limit at any point.
use Rattle.std.proofs.Common.{◌≡◌, ℕ, ◌≤◌, true, List, length, get_or, is_ok, Ok, Err, Result, refl, inl, inr, arith}
use Rattle.image.specs.Sectors.{Image}
use Rattle.tree.specs.declared.node.Node.{Node}
use Rattle.tree.specs.declared.node.Node.TheVariants.{Absent}
use Rattle.trace.specs.declared.steps.Trace.{Trace}
use Rattle.trace.specs.Meaning.{recording_of, effects_of, marks_of}
use Rattle.candidates.specs.declared.refusal.Refusal.{Refusal}
use Rattle.candidates.specs.declared.refusal.Refusal.TheVariants.{SectorNumber, Candidates, States}
use Rattle.points.specs.Counting.{Counted}
use Rattle.standing.specs.declared.choice.Choice.{Choice}
use Rattle.standing.specs.Standing.{Entry}
use Rattle.judging.specs.declared.values.Values.{Values}
use Rattle.judging.specs.Tables.{Valued}
use Rattle.taking.specs.Taking.{Fit}

module _ (base : Image) (t : Trace) (fit : Fit base t) (p : ℕ) (l : p ≤ length (effects_of t)) where
  entry_never : (f : Refusal) → Entry (recording_of base t) p (Err f) → ⊥
  entry_never SectorNumber h = h
  entry_never (Candidates q) (s, k, h) = let few = (fit.points q (let b = h.0 in omega arith)).0.0 s k in let m = h.1 in omega arith
  entry_never (States q) h = h

  valued_never : (nodes : List Node) (f : Refusal) → Valued nodes (marks_of t) p (Err f) → ⊥
  valued_never nodes SectorNumber h = h
  valued_never nodes (Candidates q) (n, k, h, low) = let few = (fit.points q (let b = h.0 in omega arith)).0.1 n k (get_or nodes n Absent) in let m = h.1 in omega arith
  valued_never nodes (States q) h = h

  counted_never : (f : Refusal) → Counted (recording_of base t) (marks_of t) p (Err f) → ⊥
  counted_never SectorNumber h = h
  counted_never (Candidates q) (k, inl (s, b, m)) = let few = (fit.points q (omega arith)).0.0 s b in omega arith
  counted_never (Candidates q) (k, inr (n, b, m)) = let few = (fit.points q (omega arith)).0.1 n b Absent in let w = m Absent in omega arith
  counted_never (States q) (e, u, m) = let few = (fit.points p l).1 in omega arith

  -- so counting, listing the candidates of sectors, and those of nodes all succeed
  pub counted_ok : (r : Result ℕ Refusal) → Counted (recording_of base t) (marks_of t) p r → is_ok r ≡ true
  counted_ok (Ok n) h = refl
  counted_ok (Err f) h = absurd (counted_never f h)

  pub entry_ok : (r : Result Choice Refusal) → Entry (recording_of base t) p r → is_ok r ≡ true
  entry_ok (Ok c) h = refl
  entry_ok (Err f) h = absurd (entry_never f h)

  pub valued_ok : (nodes : List Node) (r : Result Values Refusal) → Valued nodes (marks_of t) p r → is_ok r ≡ true
  valued_ok nodes (Ok v) h = refl
  valued_ok nodes (Err f) h = absurd (valued_never nodes f h)
