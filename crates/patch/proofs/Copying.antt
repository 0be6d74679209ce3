-- A list copied over another, place by place.
use Rattle.std.proofs.Common.{◌≡◌, ℕ, ◌+◌, ◌<◌, ◌≤◌, [], ◌∷◌, ◌++◌, length, get_or, take, drop, set, sym, ap, ◌∙◌, append_assoc, append-nil, arith}
use Rattle.std.proofs.lemmas.List.{length-append, length-take-le, length-drop, set_at, drop_more, take_more, take_all, drop_all}
use Rattle.image.specs.Sectors.{Image}

module _ (a b : Image) (n : ℕ) where
  pub length_copied : n ≤ length a → n ≤ length b → length (take n a ++ drop n b) ≡ length b
  length_copied h k = simp (length-append) (omega (arith, length-take-le n a h, length-drop n b))

  pub copied_more : n < length a → n < length b → set (take n a ++ drop n b) n (get_or a n []) ≡ take (n + 1) a ++ drop (n + 1) b
  copied_more h k =
      ap (λ y. set (take n a ++ y) n (get_or a n [])) (drop_more b n [] k)
      ∙ set_at (take n a) (get_or b n []) (drop (n + 1) b) (get_or a n []) n (length-take-le n a (omega arith))
      ∙ sym (append_assoc (take n a) (get_or a n [] ∷ []) (drop (n + 1) b))
      ∙ ap (λ y. y ++ drop (n + 1) b) (sym (take_more a n [] h))

  pub copied_all : length a ≤ n → length b ≤ n → take n a ++ drop n b ≡ a
  copied_all h k = ap (λ y. take n a ++ y) (drop_all n b k) ∙ append-nil (take n a) ∙ take_all n a h
