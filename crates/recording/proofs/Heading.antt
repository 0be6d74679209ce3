-- The head sector: from its bytes to the layout and back.
use Rattle.std.proofs.Common.{◌≡◌, ℕ, ◌+◌, ◌^◌, ◌<◌, ◌≤◌, true, false, not, ◌||◌, eqb, ltb, List, ◌++◌, length, take, drop, replicate, sym, refl, ap, ◌∙◌, subst, append_assoc, arith}
use Rattle.std.specs.List.{between}
use Rattle.std.specs.Str.{bytes_eq as sameBytes}
use Rattle.std.proofs.lemmas.Slice.Eq.{bytes_eq-Decides}
use Rattle.std.proofs.lemmas.Bool.{or_parts, or_from, not-false, not_from_true, eqb-true, eq-eqb, ltb-false, le-ltb}
use Rattle.std.proofs.lemmas.List.{length-take-le, length-drop, drop-drop, take_at, drop_at, length-append, length-replicate}
use Rattle.image.specs.Sectors.{Bytes}
use Rattle.recording.specs.Numbers.{number, field, part, all_zero}
use Rattle.recording.specs.Layout.{magic, head_layout}
use Rattle.recording.specs.Heads.{head_faulty, count_in}
use Rattle.recording.proofs.Fielding.{length_field, number_field, part_field, peel, zeros_are, zeros_all}

-- five parts and what is behind them
five : (a b c d z r : List ℕ) → (a ++ (b ++ (c ++ (d ++ z)))) ++ r ≡ a ++ (b ++ (c ++ (d ++ (z ++ r))))
five a b c d z r = simp append_assoc

module _ (s : List ℕ) (bs : Bytes s) (fine : head_faulty s ≡ false) where
  p0 : (ltb (length s) 512 ≡ false) × (not (sameBytes (part s 0 8) magic) || (not (eqb (number (part s 8 8)) 1) || (not (eqb (number (part s 24 4)) 512) || not (all_zero (between 28 512 s)))) ≡ false)
  p0 = or_parts (ltb (length s) 512) (not (sameBytes (part s 0 8) magic) || (not (eqb (number (part s 8 8)) 1) || (not (eqb (number (part s 24 4)) 512) || not (all_zero (between 28 512 s))))) fine

  p1 : (not (sameBytes (part s 0 8) magic) ≡ false) × (not (eqb (number (part s 8 8)) 1) || (not (eqb (number (part s 24 4)) 512) || not (all_zero (between 28 512 s))) ≡ false)
  p1 = or_parts (not (sameBytes (part s 0 8) magic)) (not (eqb (number (part s 8 8)) 1) || (not (eqb (number (part s 24 4)) 512) || not (all_zero (between 28 512 s)))) p0.1

  p2 : (not (eqb (number (part s 8 8)) 1) ≡ false) × (not (eqb (number (part s 24 4)) 512) || not (all_zero (between 28 512 s)) ≡ false)
  p2 = or_parts (not (eqb (number (part s 8 8)) 1)) (not (eqb (number (part s 24 4)) 512) || not (all_zero (between 28 512 s))) p1.1

  p3 : (not (eqb (number (part s 24 4)) 512) ≡ false) × (not (all_zero (between 28 512 s)) ≡ false)
  p3 = or_parts (not (eqb (number (part s 24 4)) 512)) (not (all_zero (between 28 512 s))) p2.1

  long : 512 ≤ length s
  long = ltb-false (length s) 512 p0.0

  gap : between 28 512 s ≡ replicate 484 0
  gap =
      let l : length (between 28 512 s) ≡ 484 = length-take-le 484 (drop 28 s) (let h = long in omega (arith, length-drop 28 s)) in
      zeros_are (between 28 512 s) (not-false (all_zero (between 28 512 s)) p3.1) ∙ ap (λ n. replicate n 0) l

  version : part s 8 8 ≡ field 8 1
  version = part_field s 8 8 bs (let h = long in omega arith) ∙ ap (field 8) (eqb-true (number (part s 8 8)) 1 (not-false (eqb (number (part s 8 8)) 1) p2.0))

  width : part s 24 4 ≡ field 4 512
  width = part_field s 24 4 bs (let h = long in omega arith) ∙ ap (field 4) (eqb-true (number (part s 24 4)) 512 (not-false (eqb (number (part s 24 4)) 512) p3.0))

  first : part s 0 8 ≡ magic
  first = (bytes_eq-Decides (part s 0 8) magic).0 (not-false (sameBytes (part s 0 8) magic) p1.0)

  pub head_laid : s ≡ head_layout (count_in s) ++ drop 512 s
  head_laid =
      peel 0 8 s
      ∙ ap (λ y. part s 0 8 ++ y) (peel 8 8 s)
      ∙ ap (λ y. part s 0 8 ++ (part s 8 8 ++ y)) (peel 16 8 s)
      ∙ ap (λ y. part s 0 8 ++ (part s 8 8 ++ (part s 16 8 ++ y))) (peel 24 4 s)
      ∙ ap (λ y. part s 0 8 ++ (part s 8 8 ++ (part s 16 8 ++ (part s 24 4 ++ y)))) (peel 28 484 s)
      ∙ ap (λ y. y ++ (part s 8 8 ++ (part s 16 8 ++ (part s 24 4 ++ (between 28 512 s ++ drop 512 s))))) first
      ∙ ap (λ y. magic ++ (y ++ (part s 16 8 ++ (part s 24 4 ++ (between 28 512 s ++ drop 512 s))))) version
      ∙ ap (λ y. magic ++ (field 8 1 ++ (y ++ (part s 24 4 ++ (between 28 512 s ++ drop 512 s))))) (part_field s 16 8 bs (let h = long in omega arith))
      ∙ ap (λ y. magic ++ (field 8 1 ++ (field 8 (count_in s) ++ (y ++ (between 28 512 s ++ drop 512 s))))) width
      ∙ ap (λ y. magic ++ (field 8 1 ++ (field 8 (count_in s) ++ (field 4 512 ++ (y ++ drop 512 s))))) gap
      ∙ sym (five magic (field 8 1) (field 8 (count_in s)) (field 4 512) (replicate 484 0) (drop 512 s))

-- what is read of a row that begins with the head of n entries
pub record HeadReads (n : ℕ) (r s : List ℕ) : Type 0 where
  pub fine : head_faulty s ≡ false
  pub count : count_in s ≡ n
  pub rest : drop 512 s ≡ r

module _ (n : ℕ) (r : List ℕ) (small : n < 2 ^ 64) where
  x3 : List ℕ
  x3 = field 4 512 ++ (replicate 484 0 ++ r)

  x2 : List ℕ
  x2 = field 8 n ++ x3

  x1 : List ℕ
  x1 = field 8 1 ++ x2

  y : List ℕ
  y = magic ++ x1

  laid_is : head_layout n ++ r ≡ y
  unfolding y x1 x2 x3
  laid_is = five magic (field 8 1) (field 8 n) (field 4 512) (replicate 484 0) r

  d8 : drop 8 y ≡ x1
  unfolding y
  d8 = drop_at magic x1 8 refl

  d16 : drop 16 y ≡ x2
  unfolding x1
  d16 = sym (drop-drop 8 8 y) ∙ ap (drop 8) d8 ∙ drop_at (field 8 1) x2 8 (length_field 8 1)

  d24 : drop 24 y ≡ x3
  unfolding x2
  d24 = sym (drop-drop 8 16 y) ∙ ap (drop 8) d16 ∙ drop_at (field 8 n) x3 8 (length_field 8 n)

  d28 : drop 28 y ≡ replicate 484 0 ++ r
  unfolding x3
  d28 = sym (drop-drop 4 24 y) ∙ ap (drop 4) d24 ∙ drop_at (field 4 512) (replicate 484 0 ++ r) 4 (length_field 4 512)

  front_of : (w : ℕ) (z rest : List ℕ) (m : ℕ) → m < 256 ^ w → z ≡ field w m ++ rest → number (take w z) ≡ m
  front_of w z rest m h e = ap number (ap (take w) e ∙ take_at (field w m) rest w (length_field w m)) ∙ number_field w m h

  first_read : part y 0 8 ≡ magic
  unfolding y
  first_read = take_at magic x1 8 refl

  version_read : number (part y 8 8) ≡ 1
  unfolding x1
  version_read = front_of 8 (drop 8 y) x2 1 (omega arith) d8

  count_read : count_in y ≡ n
  unfolding x2
  count_read = front_of 8 (drop 16 y) x3 n small d16

  width_read : number (part y 24 4) ≡ 512
  unfolding x3
  width_read = front_of 4 (drop 24 y) (replicate 484 0 ++ r) 512 (omega arith) d24

  zeros_read : all_zero (between 28 512 y) ≡ true
  zeros_read = ap (λ z. all_zero (take 484 z)) d28 ∙ ap all_zero (take_at (replicate 484 0) r 484 (length-replicate {A = ℕ} 484 0)) ∙ zeros_all 484

  pub length_head : length (head_layout n) ≡ 512
  length_head = simp (length-append, length_field, length-replicate) (omega arith)

  rest_read : drop 512 y ≡ r
  rest_read = ap (drop 512) (sym laid_is) ∙ drop_at (head_layout n) r 512 length_head

  whole : length y ≡ 512 + length r
  whole = ap length (sym laid_is) ∙ length-append (head_layout n) r ∙ ap (λ m. m + length r) length_head

  fine : head_faulty y ≡ false
  fine =
      or_from (ltb (length y) 512) (not (sameBytes (part y 0 8) magic) || (not (eqb (number (part y 8 8)) 1) || (not (eqb (number (part y 24 4)) 512) || not (all_zero (between 28 512 y))))) (le-ltb (length y) 512 (let w = whole in omega arith))
      (or_from (not (sameBytes (part y 0 8) magic)) (not (eqb (number (part y 8 8)) 1) || (not (eqb (number (part y 24 4)) 512) || not (all_zero (between 28 512 y)))) (not_from_true (sameBytes (part y 0 8) magic) ((bytes_eq-Decides (part y 0 8) magic).1 first_read))
      (or_from (not (eqb (number (part y 8 8)) 1)) (not (eqb (number (part y 24 4)) 512) || not (all_zero (between 28 512 y))) (not_from_true (eqb (number (part y 8 8)) 1) (eq-eqb (number (part y 8 8)) 1 version_read))
      (or_from (not (eqb (number (part y 24 4)) 512)) (not (all_zero (between 28 512 y))) (not_from_true (eqb (number (part y 24 4)) 512) (eq-eqb (number (part y 24 4)) 512 width_read))
      (not_from_true (all_zero (between 28 512 y)) zeros_read))))

  pub head_reads : (s : List ℕ) → s ≡ head_layout n ++ r → HeadReads n r s
  head_reads s e =
      let P : List ℕ → Type 0 = λ z. HeadReads n r z in
      subst P (sym (e ∙ laid_is)) (record { fine = fine; count = count_read; rest = rest_read })
