-- One sector put onto an image.
use Rattle.std.proofs.Common.{◌≡◌, ℕ, ◌<◌, ◌≤◌, Bool, true, false, cond, eqb, [], length, get_or, set, is_ok, Ok, Err, Result, sym, refl, ap, ◌∙◌, inl, inr, arith}
use Rattle.std.proofs.lemmas.List.{set_past}
use Rattle.std.proofs.lemmas.Bool.{cases_lt, lt-ltb}
use Rattle.image.specs.Sectors.{Sector, Image}
use Rattle.image.specs.Refusals.{access}
use Rattle.image.specs.declared.refusal.Refusal.{Refusal}
use Rattle.image.specs.declared.refusal.Refusal.TheVariants.{BufferLength, SectorNumber}
use Rattle.crash.specs.Rules.{written}
use Rattle.trace.specs.declared.steps.Trace.{Trace}
use Rattle.trace.specs.Meaning.{effects_of, recording_of, content_at}
use Rattle.candidates.proofs.Leaving.{content_written}
use Rattle.standing.specs.Places.{replaced}

-- a sector past the end stays away
pub replaced_past : (image : Image) (s : ℕ) (x : Sector) → length image ≤ s → image ≡ replaced image s x
replaced_past image s x h = go (eqb (length x) 512)
  where
    go : (b : Bool) → image ≡ cond b (set image s x) image
    go true = sym (set_past image s x h)
    go false = refl

abbrev answer : Bool → Bool → Result (Unit {0}) Refusal
answer whole inside = cond whole (cond inside (Ok tt) (Err SectorNumber)) (Err BufferLength)

-- a write that a store accepts, or declines
pub replaced_write : (image : Image) (s : ℕ) (x : Sector) → cond (is_ok (access (length x) s (length image))) (set image s x) image ≡ replaced image s x
replaced_write image s x = elim (cases_lt s (length image)) [
  | inl l ↦ ap (λ (b : Bool). cond (is_ok (answer (eqb (length x) 512) b)) (set image s x) image) (lt-ltb s (length image) l) ∙ go (eqb (length x) 512)
  | inr g ↦ any (is_ok (access (length x) s (length image))) (set_past image s x g) ∙ replaced_past image s x g
]
  where
    go : (b : Bool) → cond (is_ok (answer b true)) (set image s x) image ≡ cond b (set image s x) image
    go true = refl
    go false = refl

    any : (b : Bool) → set image s x ≡ image → cond b (set image s x) image ≡ image
    any true e = e
    any false e = refl

-- what one write leaves, from the sector that was read, the content and the answer
pub put_one : (base image after : Image) (t : Trace) (s j : ℕ) (x y : Sector) (r : Result (Unit {0}) Refusal) → length image ≡ length base →
    (s < length base → x ≡ get_or base s []) → y ≡ content_at x (effects_of t) s j → r ≡ access (length y) s (length image) →
    after ≡ cond (is_ok r) (set image s y) image → after ≡ replaced image s (written (recording_of base t) s j)
put_one base image after t s j x y r size read e a w =
    let h : after ≡ replaced image s y = w ∙ ap (λ (q : Result (Unit {0}) Refusal). cond (is_ok q) (set image s y) image) a ∙ replaced_write image s y in
    elim (cases_lt s (length base)) [
      | inl l ↦ h ∙ ap (replaced image s) (e ∙ content_written (recording_of base t) s j x (read l))
      | inr g ↦ h ∙ sym (replaced_past image s y (omega arith)) ∙ replaced_past image s (written (recording_of base t) s j) (omega arith)
    ]
