-- What a write to a layer, and the loss of all that it holds, do to what is shown.
use Rattle.std.proofs.Common.{◌≡◌, ℕ, ◌*◌, ◌%◌, ◌^◌, ◌<◌, ◌≤◌, true, false, cond, eqb, List, [], length, get_or, set, sym, refl, ap, ◌∙◌, inl, inr, arith, eq-eqb, ne_eqb}
use lib.Bits.{bit_or}
use Rattle.std.proofs.lemmas.List.{ext_get_or, length-set, get_or-set_same, get_or-set_other}
use Rattle.std.proofs.lemmas.Bool.{cases_eq}
use Rattle.image.specs.Sectors.{sector_at, put}
use Rattle.image.specs.Cuts.{put_same, put_other}
use Rattle.image.specs.Layers.{has, showing, overlaid, length_overlaid, overlaid_at}
use Rattle.image.proofs.Bitwise.{has_none, has_with}

module _ (m m' : ℕ) (cells : List ℕ) (below : List (List ℕ)) (n : ℕ) (s : List ℕ)
    (marks : (k : ℕ) → has m' k ≡ cond (eqb k n) true (has m k))
    (inside : n < length below) (few : length below ≤ 64) (sized : length cells ≡ 32768) (whole : length s ≡ 512) where
  same : showing m' (put cells n s) below n ≡ s
  same = let e : has m' n ≡ true = marks n ∙ ap (λ b. cond b true (has m n)) (eq-eqb n n refl) in
      ap (λ b. cond b (sector_at (put cells n s) n) (get_or below n [])) e ∙ put_same cells n s (omega arith) whole

  other : (k : ℕ) → (k ≡ n → ⊥) → showing m' (put cells n s) below k ≡ showing m cells below k
  other k ne = let e : has m' k ≡ has m k = marks k ∙ ap (λ b. cond b true (has m k)) (ne_eqb k n ne) in
      ap (λ b. cond b (sector_at (put cells n s) k) (get_or below k [])) e
      ∙ ap (λ x. cond (has m k) x (get_or below k [])) (put_other cells n s (omega arith) whole k ne)

  overlaid_put : overlaid m' (put cells n s) below ≡ set (overlaid m cells below) n s
  overlaid_put = ext_get_or [] (overlaid m' (put cells n s) below) (set (overlaid m cells below) n s)
      (length_overlaid m' (put cells n s) below ∙ sym (length_overlaid m cells below) ∙ sym (length-set (overlaid m cells below) n s))
      (λ k h. each k (rw length_overlaid at h))
    where
      each : (k : ℕ) → k < length below → get_or (overlaid m' (put cells n s) below) k [] ≡ get_or (set (overlaid m cells below) n s) k []
      each k h = overlaid_at m' (put cells n s) below k h ∙ elim (cases_eq k n) [
        | inl e ↦ ap (showing m' (put cells n s) below) e ∙ same ∙ sym (ap (λ j. get_or (set (overlaid m cells below) n s) j []) e ∙ get_or-set_same (overlaid m cells below) n s [] (rw length_overlaid inside))
        | inr ne ↦ other k ne ∙ sym (overlaid_at m cells below k h) ∙ sym (get_or-set_other (overlaid m cells below) n k s [] ne)
      ]

pub overlaid_write : (m : ℕ) (cells : List ℕ) (below : List (List ℕ)) (n : ℕ) (s : List ℕ) → n < length below → length below ≤ 64 → length cells ≡ 32768 → length s ≡ 512
    → overlaid (bit_or m (1 * 2 ^ n % 2 ^ 64)) (put cells n s) below ≡ set (overlaid m cells below) n s
overlaid_write m cells below n s inside few sized whole =
    overlaid_put m (bit_or m (1 * 2 ^ n % 2 ^ 64)) cells below n s (λ k. has_with m n k (omega arith)) inside few sized whole

pub overlaid_none : (m : ℕ) (cells : List ℕ) (below : List (List ℕ)) → m ≡ 0 → overlaid m cells below ≡ below
overlaid_none m cells below e = ext_get_or [] (overlaid m cells below) below (length_overlaid m cells below)
    (λ k h. overlaid_at m cells below k (rw length_overlaid at h) ∙ ap (λ b. cond b (sector_at cells k) (get_or below k [])) (has_none m k e))

-- what is read of a layer
pub held_shows : (m : ℕ) (cells : List ℕ) (below : List (List ℕ)) (k : ℕ) → k < length below → has m k ≡ true → get_or (overlaid m cells below) k [] ≡ sector_at cells k
held_shows m cells below k h e = overlaid_at m cells below k h ∙ ap (λ b. cond b (sector_at cells k) (get_or below k [])) e

pub below_shows : (m : ℕ) (cells : List ℕ) (below : List (List ℕ)) (k : ℕ) → k < length below → has m k ≡ false → get_or (overlaid m cells below) k [] ≡ get_or below k []
below_shows m cells below k h e = overlaid_at m cells below k h ∙ ap (λ b. cond b (sector_at cells k) (get_or below k [])) e
