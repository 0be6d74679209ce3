-- Numbers of contents, of which those with equal bytes are left out.
use Rattle.std.proofs.Common.{◌≡◌, ℕ, Bool, true, false, cond, not, List, [], ◌∷◌, map, filter, sym, refl, ap, ◌∙◌}
use Rattle.std.specs.Str.{bytes_eq}
use Rattle.crash.specs.Lists.{distinct, firsts}

module _ {X Y : Type 0} (f : X → Y) (test : Y → Bool) where
  kept_cons : (b : Bool) (x : X) (xs : List X) → cond b (f x ∷ map f xs) (map f xs) ≡ map f (cond b (x ∷ xs) xs)
  kept_cons true x xs = refl
  kept_cons false x xs = refl

  pub kept_by_map : (xs : List X) → filter test (map f xs) ≡ map f (filter (λ x. test (f x)) xs)
  kept_by_map [] = refl
  kept_by_map (x ∷ xs) =
      ap (λ l. cond (test (f x)) (f x ∷ l) l) (kept_by_map xs) ∙ kept_cons (test (f x)) x (filter (λ z. test (f z)) xs)

-- the contents of the numbers that stay are the contents that stay
pub map_firsts : (value : ℕ → List ℕ) (js : List ℕ) → map value (firsts value js) ≡ distinct (map value js)
map_firsts value [] = refl
map_firsts value (j ∷ js) =
    ap (λ l. value j ∷ l) (sym (kept_by_map value (λ y. not (bytes_eq (value j) y)) (firsts value js))
    ∙ ap (filter (λ y. not (bytes_eq (value j) y))) (map_firsts value js))
