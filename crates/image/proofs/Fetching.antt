-- A sector that is read, or zeros.
use Rattle.std.proofs.Common.{◌≡◌, ℕ, false, cond, ltb, [], length, get_or, is_ok, Err, Result, sym, refl, ap, ◌∙◌, inl, inr}
use Rattle.std.proofs.lemmas.List.{get_or_past}
use Rattle.std.proofs.lemmas.Bool.{cases_lt, le-ltb}
use Rattle.image.specs.declared.refusal.Refusal.{Refusal}
use Rattle.image.specs.declared.refusal.Refusal.TheVariants.{SectorNumber}
use Rattle.image.specs.Sectors.{Sector, Image}
use Rattle.image.specs.Refusals.{access}
use Rattle.image.specs.Access.{access_ok}
use Rattle.image.specs.Fetched.{blank, sector_of, sector_is}

module _ (image : Image) (n : ℕ) (r : Result (Unit {0}) Refusal) (b : Sector) where
  pub fetched : r ≡ access 512 n (length image) → b ≡ cond (is_ok r) (get_or image n []) blank → b ≡ sector_of image n
  fetched q h = elim (cases_lt n (length image)) [
    | inl l ↦ h ∙ ap (λ x. cond (is_ok x) (get_or image n []) blank) (q ∙ sym (access_ok 512 n (length image) refl l)) ∙ sector_is image n l
    | inr g ↦ h ∙ ap (λ x. cond (is_ok x) (get_or image n []) blank) (q ∙ past (le-ltb n (length image) g)) ∙ sym (get_or_past image n blank g)
  ]
    where
      past : ltb n (length image) ≡ false → access 512 n (length image) ≡ Err SectorNumber
      past e = rw e
