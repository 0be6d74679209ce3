-- The first entry that lies outside, by its place among the entries.
use Rattle.std.proofs.Common.{◌≡◌, ℕ, ◌+◌, Bool, true, false, cond, List, [], ◌∷◌, Some, None, Option, sym, refl, ap, ◌∙◌}
use Rattle.std.specs.List.{position_from}
use Rattle.std.specs.Option.{option_map}
use Rattle.std.proofs.lemmas.Iterator.Adapters.{position_from-zero}
use Rattle.recording.specs.Items.{Item}
use Rattle.recording.specs.Writes.{outside}
use Rattle.patch.specs.Replayed.{first_outside}

module _ {A : Type 0} (test : A → Bool) where
  here : (b : Bool) (k : ℕ) (o p : Option ℕ) → o ≡ option_map (λ i. i + 1) p → cond b (Some (k + 1)) o ≡ option_map (λ i. i + 1) (cond b (Some k) p)
  here true k o p e = refl
  here false k o p e = e

  -- counted from the next number on, the place is the next one
  pub position_next : (k : ℕ) (xs : List A) → position_from test (k + 1) xs ≡ option_map (λ i. i + 1) (position_from test k xs)
  position_next k [] = refl
  position_next k (x ∷ xs) = here (test x) k _ _ (position_next (k + 1) xs)

-- where none lies outside, the first does not, nor does one behind it
none_next : (o : Option ℕ) → option_map (λ i. i + 1) o ≡ None → o ≡ None
none_next None e = refl
none_next (Some i) e = cc

none_here : (b : Bool) (o : Option ℕ) → cond b (Some 0) o ≡ None → (b ≡ false) × (o ≡ None)
none_here true o e = cc
none_here false o e = (refl, e)

pub none_outside : (count : ℕ) (e : Item) (es : List Item) → first_outside count (e ∷ es) ≡ None → (outside e count ≡ false) × (first_outside count es ≡ None)
none_outside count e es h =
    let test : Item → Bool = λ i. outside i count in
    let p = none_here (test e) (position_from test 1 es) (sym (position_from-zero test (e ∷ es)) ∙ none_next _ h) in
    (p.0, ap (option_map (λ i. i + 1)) (position_from-zero test es ∙ none_next _ (sym (position_next test 0 es) ∙ p.1)))
