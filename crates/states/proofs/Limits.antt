-- Within the limits nothing is declined.
use Rattle.std.proofs.Common.{ℕ, ◌<◌, ◌≤◌, List, length, Ok, Err, Result, IsOk, refl, inl, inr, arith}
use Rattle.tree.specs.declared.node.Node.TheVariants.{Absent}
use Rattle.mark.specs.declared.mark.Mark.{Mark}
use Rattle.crash.specs.Rules.{Recording}
use Rattle.candidates.specs.declared.eight.Few.{Few}
use Rattle.candidates.specs.declared.refusal.Refusal.{Refusal}
use Rattle.candidates.specs.declared.refusal.Refusal.TheVariants.{SectorNumber, Candidates, States}
use Rattle.candidates.specs.Gathering.{Found}
use Rattle.points.specs.Counting.{Crowded, Uncrowded, Fine, Counted}

apart : (d : Recording) (marks : List Mark) (q : ℕ) → Crowded d marks q → Uncrowded d marks q → ⊥
apart d marks q (inl (s, i, more)) few = let k = few.0 s i in omega arith
apart d marks q (inr (n, i, more)) few = let k = few.1 n i Absent in let m = more Absent in omega arith

module _ (d : Recording) (marks : List Mark) (fine : (q : ℕ) → q ≤ length d.effects → Fine d marks q) (p : ℕ) (l : p ≤ length d.effects) where
  pub counted_ok : (r : Result ℕ Refusal) → Counted d marks p r → IsOk r
  counted_ok (Ok n) h = refl
  counted_ok (Err SectorNumber) h = absurd h
  counted_ok (Err (Candidates q)) h = absurd (apart d marks q h.1 (fine q (omega arith)).0)
  counted_ok (Err (States q)) h = let k = (fine p l).1 in absurd (omega arith)

  pub found_ok : (s : ℕ) → s < length d.base → (r : Result (Few ℕ) Refusal) → Found d p s r → IsOk r
  found_ok s i (Ok few) h = refl
  found_ok s i (Err SectorNumber) h = absurd (omega arith)
  found_ok s i (Err (Candidates q)) h = let k = (fine q (omega arith)).0.0 s i in absurd (omega arith)
  found_ok s i (Err (States q)) h = absurd h
