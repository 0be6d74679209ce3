-- A load where no base recovers.
use Rattle.std.proofs.Common.{◌≡◌, ℕ, ◌<◌, ◌≤◌, Bool, true, false, cond, List, length, Some, None, Ok, Err, Option, Result, sym, refl, ap, ◌∙◌, nat_lt, arith}
use Rattle.image.specs.Sectors.{Image}
use Rattle.filesystem.specs.Outcomes.{a_fault}
use Rattle.filesystem.specs.declared.fault.Fault.{Fault}
use Rattle.law.specs.Subject.{Subject, Loading, takes, declines}
use Rattle.law.specs.History as H
use Rattle.law.specs.Rules.{refusal, of_recording, Late}
use Rattle.law.specs.Steps.{View, Step}
use Rattle.meaning.specs.Loads.{load_of}
use Rattle.run.specs.declared.refusal.Refusal.{Refusal}
use Rattle.run.specs.Refusals.{code_of}
use Rattle.run.specs.Events.{declining}
use Rattle.run.specs.Typed.{loading}
use Rattle.foreign.specs.Declined.{no_base, NoBase}

chosen : (b : Bool) → of_recording (cond b (declines 3 0) (declines 4 0)) ≡ Some (cond b 3 4, 0)
chosen true = refl
chosen false = refl

pub never_loads : (fault : Fault) (base : Image) (bytes : List ℕ) → of_recording (load_of 1 (λ i. a_fault fault) base bytes) ≡ no_base (length base)
unfolding load_of
never_loads fault base bytes = chosen (nat_lt (length base) 1)

-- 3 and 4 leave no want of memory
three_or_four : (b : Bool) → cond {A = ℕ} b 3 4 ≤ 6
three_or_four true = omega arith
three_or_four false = omega arith

not_late : (l : Loading) (n : ℕ) → of_recording l ≡ Some (n, 0) → n ≤ 6 → Late l → ⊥
not_late (takes R) n e h L = cc
not_late (declines m p) n e h L = let q : (m, p) ≡ (n, 0) = cc in let r : m ≡ n = ap (λ (x : ℕ × ℕ). x.0) q in omega arith

-- the load of an Empty run is declined so, and leaves the run as it was
module _ (s : Subject) (v w : View) (bytes : List ℕ) (count : ℕ) (rule : of_recording (s.loads bytes) ≡ no_base count) (empty : v.condition ≡ H.Empty) where
  rules : refusal s v.condition (H.load bytes) ≡ no_base count
  rules = ap (λ c. refusal s c (H.load bytes)) empty ∙ rule

  declines_so : (f : Refusal) (o : Option (ℕ × ℕ)) → code_of f ≡ o → Step s v (declining (H.load bytes) o) w → NoBase count (Err f) × (w ≡ v)
  declines_so f (Some c) e S = (e ∙ sym S.0 ∙ rules, S.1)
  declines_so f None e S = absurd (not_late (s.loads bytes) (cond (nat_lt count 1) 3 4) rule (three_or_four (nat_lt count 1)) S.1)

  pub not_loaded : (r : Result (Unit {0}) Refusal) → Step s v (loading bytes r) w → NoBase count r × (w ≡ v)
  not_loaded (Ok u) S = let d : None ≡ no_base count = sym S.0 ∙ rules in cc
  not_loaded (Err f) S = declines_so f (code_of f) refl S
