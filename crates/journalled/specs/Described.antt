-- What a descriptor that stands gives.
use Rattle.std.specs.Prelude.{◌≡◌, ℕ, ◌+◌, ◌<◌, ◌≤◌, true, ◌&&◌, ◌⊎◌, List, ◌==◌, nat_le, nat_lt}
use Rattle.std.proofs.Common.{inl, inr}
use Rattle.std.proofs.lemmas.Bool.{and_parts, or_cases, leb-true, ltb-true, eqb-true}
use Rattle.filesystem.specs.Words.{word_at, kind, is_word}
use Rattle.journalled.specs.Below.{every_at}
use Rattle.journalled.specs.Journal.{size_in, home_in, home_stands, apart, homes_stand, describes}

module _ (s count : ℕ) (d : List ℕ) (ok : describes s count d ≡ true) where
  few : (nat_le (size_in d) 6 ≡ true) × (homes_stand count d (size_in d) ≡ true)
  unfolding describes
  few =
      let p = (and_parts (is_word 1 s (word_at d 0)) _ ok).1 in
      let q = (and_parts (kind (word_at d 1) == 2) _ p).1 in
      let r = (and_parts (nat_le 1 (size_in d)) _ q).1 in
      and_parts (nat_le (size_in d) 6) (homes_stand count d (size_in d)) r

  pub size_few : size_in d ≤ 6
  size_few = leb-true (size_in d) 6 few.0

  -- a home is sector 1 or a data sector
  pub home_is : (i : ℕ) → i < size_in d → (home_in d i ≡ 1) ⊎ ((10 ≤ home_in d i) × (home_in d i < count))
  home_is i l =
      let h = every_at (λ i. home_stands count d i && apart d i) (size_in d) i few.1 l in
      let a = (and_parts (home_stands count d i) (apart d i) h).0 in
      let b = (and_parts (kind (word_at d (2 + i)) == 3) _ a).1 in
      elim (or_cases (home_in d i == 1) (nat_le 10 (home_in d i) && nat_lt (home_in d i) count) b) [
        | inl e ↦ inl (eqb-true (home_in d i) 1 e)
        | inr e ↦ let t = and_parts (nat_le 10 (home_in d i)) (nat_lt (home_in d i) count) e in inr (leb-true 10 (home_in d i) t.0, ltb-true (home_in d i) count t.1)
      ]
