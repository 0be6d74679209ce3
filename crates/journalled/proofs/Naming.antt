-- The homes of a descriptor, read one after another.
use Rattle.std.proofs.Common.{◌≡◌, ℕ, zero, suc, ◌+◌, ◌<◌, ◌≤◌, Bool, true, false, cond, not, ◌&&◌, ◌||◌, eqb, leb, ltb, map, length, get_or, set, List, [], ◌∷◌, ◌++◌, Some, None, sym, refl, ap, ◌∙◌, add-one, arith}
use Rattle.std.specs.List.{range_with_len, list_any}
use Rattle.std.proofs.lemmas.List.FromFn.{map-range_with_len_more, length-map-range_with_len, get_or-map-range_with_len}
use Rattle.std.proofs.lemmas.List.Folds.{list_any-append}
use Rattle.std.proofs.lemmas.Bool.{and_from, and_left, and_right}
use Rattle.std.proofs.lemmas.Option.{cond_some}
use Rattle.std.proofs.Math.Bool.{or-false}
use Rattle.image.specs.Sectors.{Sector, Image}
use Rattle.image.specs.Fetched.{sector_of}
use Rattle.filesystem.specs.Words.{word_at, kind, rest}
use Rattle.journalled.specs.Below.{every, every_more, every_fails}
use Rattle.journalled.specs.Journal.{size_in, home_in, homes_in, home_stands, apart, homes_stand, descriptor, stands, copied}
use Rattle.journalled.specs.Copies.{home_inside, step}

-- no public lemma of the library says it
none_is : (b : Bool) (n : ℕ) → None ≡ cond b (Some n) None → b ≡ false
none_is true n e = cc
none_is false n e = refl

-- a home is among those before it where it is not apart
module _ (f : ℕ → ℕ) (h : ℕ) where
  neither : (e b : Bool) → (not e || b) ≡ not (e && not b)
  neither true true = refl
  neither true false = refl
  neither false b = refl

  among : (i : ℕ) → list_any (λ y. eqb y h) (map f (range_with_len 0 i)) ≡ not (every (λ j. not (eqb (f j) h)) i)
  unfolding every
  among zero = refl
  among (suc i) =
      ap (λ m. list_any (λ y. eqb y h) (map f (range_with_len 0 m))) (sym (add-one i))
      ∙ ap (list_any (λ y. eqb y h)) (map-range_with_len_more f 0 i i (omega arith))
      ∙ list_any-append (λ y. eqb y h) (map f (range_with_len 0 i)) (f i ∷ [])
      ∙ ap (λ b. b || list_any (λ y. eqb y h) (f i ∷ [])) (among i)
      ∙ ap (λ b. not (every (λ j. not (eqb (f j) h)) i) || b) (or-false (eqb (f i) h))
      ∙ neither (every (λ j. not (eqb (f j) h)) i) (eqb (f i) h)

-- the test of a home's word
abbrev test : (count word : ℕ) → Bool
test count w = eqb (kind w) 3 && (eqb (rest w) 1 || (leb 10 (rest w) && ltb (rest w) count))

module _ (count i : ℕ) (d : Sector) (homes : List ℕ) (kept : homes ≡ map (home_in d) (range_with_len 0 i)) (stand : homes_stand count d i ≡ true) (w : ℕ) (is : w ≡ word_at d (2 + i)) where
  each : ℕ → Bool
  each j = home_stands count d j && apart d j

  home_is : test count w ≡ home_stands count d i
  home_is = ap (test count) is

  pub no_home : (n : ℕ) → i < n → None ≡ cond (test count w) (Some (rest w)) None → homes_stand count d n ≡ false
  unfolding each
  no_home n l e = every_fails each n i l (and_left (home_stands count d i) (apart d i) (sym home_is ∙ none_is (test count w) (rest w) e))

  module _ (h : ℕ) (e : Some h ≡ cond (test count w) (Some (rest w)) None) where
    found : (test count w ≡ true) × (rest w ≡ h)
    found = cond_some (test count w) (rest w) h (sym e)

    it_stands : home_stands count d i ≡ true
    it_stands = sym home_is ∙ found.0

    it_is : h ≡ home_in d i
    it_is = sym found.1 ∙ ap rest is

    apart_is : (b : Bool) → b ≡ list_any (λ y. eqb y h) homes → apart d i ≡ not b
    apart_is b q = back b (apart d i) (q ∙ ap (λ x. list_any (λ y. eqb y x) homes) it_is ∙ ap (list_any (λ y. eqb y (home_in d i))) kept ∙ among (home_in d) (home_in d i) i)
      where
        back : (b a : Bool) → b ≡ not a → a ≡ not b
        back b true q = rw q refl
        back b false q = rw q refl

    pub same_home : (n : ℕ) → i < n → true ≡ list_any (λ y. eqb y h) homes → homes_stand count d n ≡ false
    unfolding each
    same_home n l q = every_fails each n i l (and_right (home_stands count d i) (apart d i) (apart_is true q))

    pub all_stand : false ≡ list_any (λ y. eqb y h) homes → homes_stand count d (i + 1) ≡ true
    unfolding each
    all_stand q = every_more each i stand (and_from (home_stands count d i) (apart d i) it_stands (apart_is false q))

    pub all_kept : homes ++ h ∷ [] ≡ map (home_in d) (range_with_len 0 (i + 1))
    all_kept = ap (λ x. x ++ h ∷ []) kept ∙ ap (λ x. map (home_in d) (range_with_len 0 i) ++ x ∷ []) it_is ∙ sym (map-range_with_len_more (home_in d) 0 i i (omega arith))

-- the homes that a descriptor names, by their numbers
module _ (d : Sector) (homes : List ℕ) (named : homes ≡ homes_in d) where
  pub many : length homes ≡ size_in d
  many = ap length named ∙ length-map-range_with_len (home_in d) 0 (size_in d)

  pub home_at : (i : ℕ) → i < length homes → get_or homes i 0 ≡ home_in d i
  home_at i l = ap (λ h. get_or h i 0) named ∙ get_or-map-range_with_len (home_in d) 0 (size_in d) i i 0 (omega (arith, many)) (omega arith)

-- the homes of a transaction that stands lie in the image, and a sector more is copied to each
module _ (im : Image) (homes : List ℕ) (named : homes ≡ homes_in (descriptor im)) (room : 16 ≤ length im) (stood : stands im ≡ true) (i : ℕ) (l : i < length homes) where
  pub named_inside : get_or homes i 0 < length im
  named_inside =
      let h = home_inside im room stood i (omega (arith, many (descriptor im) homes named)) in
      omega (arith, home_at (descriptor im) homes named i l)

  pub named_step : set (copied im i) (get_or homes i 0) (sector_of (copied im i) (3 + i)) ≡ copied im (i + 1)
  named_step =
      ap (λ h. set (copied im i) h (sector_of (copied im i) (3 + i))) (home_at (descriptor im) homes named i l)
      ∙ step im room stood i (omega (arith, many (descriptor im) homes named))
