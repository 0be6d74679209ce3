-- An entry's sector: from its bytes to its fields and back.
use Rattle.std.proofs.Common.{◌≡◌, ℕ, ◌+◌, ◌-◌, ◌^◌, ◌<◌, ◌≤◌, true, List, ◌++◌, length, take, drop, replicate, sym, refl, ap, ◌∙◌, subst, append_assoc, arith}
use Rattle.std.specs.List.{between}
use Rattle.std.proofs.lemmas.List.{length-take-le, length-drop, drop-drop, take_at, drop_at, length-append, length-replicate}
use Rattle.image.specs.Sectors.{Bytes}
use Rattle.recording.specs.Numbers.{number, field, part, all_zero}
use Rattle.recording.specs.Layout.{sector_layout}
use Rattle.recording.specs.Entries.{sector_in, sectors_in, bits_in, size_in, text_in}
use Rattle.recording.proofs.Fielding.{length_field, number_field, part_field, peel, zeros_are, zeros_all}

-- six parts and what is behind them
six : (a b c d t z r : List ℕ) → (a ++ (b ++ (c ++ (d ++ (t ++ z))))) ++ r ≡ a ++ (b ++ (c ++ (d ++ (t ++ (z ++ r)))))
six a b c d t z r = simp append_assoc

module _ (x : List ℕ) (bs : Bytes x) (whole : 512 ≤ length x) (few : size_in x ≤ 480) (zeros : all_zero (between (32 + size_in x) 512 x) ≡ true) where
  parts : x ≡ part x 0 8 ++ (part x 8 8 ++ (part x 16 8 ++ (part x 24 8 ++ (take (32 + size_in x - 32) (drop 32 x) ++ (between (32 + size_in x) 512 x ++ drop 512 x)))))
  parts =
      let e : 32 + (32 + size_in x - 32) ≡ 32 + size_in x = omega arith in
      let f : (32 + size_in x) + (512 - (32 + size_in x)) ≡ 512 = omega arith in
      let p5 = peel 32 (32 + size_in x - 32) x ∙ ap (λ i. take (32 + size_in x - 32) (drop 32 x) ++ drop i x) e in
      let p6 = peel (32 + size_in x) (512 - (32 + size_in x)) x ∙ ap (λ i. between (32 + size_in x) 512 x ++ drop i x) f in
      peel 0 8 x
      ∙ ap (λ y. part x 0 8 ++ y) (peel 8 8 x)
      ∙ ap (λ y. part x 0 8 ++ (part x 8 8 ++ y)) (peel 16 8 x)
      ∙ ap (λ y. part x 0 8 ++ (part x 8 8 ++ (part x 16 8 ++ y))) (peel 24 8 x)
      ∙ ap (λ y. part x 0 8 ++ (part x 8 8 ++ (part x 16 8 ++ (part x 24 8 ++ y)))) p5
      ∙ ap (λ y. part x 0 8 ++ (part x 8 8 ++ (part x 16 8 ++ (part x 24 8 ++ (take (32 + size_in x - 32) (drop 32 x) ++ y))))) p6

  pub text_length : length (text_in x) ≡ size_in x
  text_length = length-take-le (32 + size_in x - 32) (drop 32 x) (omega (arith, length-drop 32 x)) ∙ omega arith

  gap : between (32 + size_in x) 512 x ≡ replicate (480 - length (text_in x)) 0
  gap =
      let l : length (between (32 + size_in x) 512 x) ≡ 480 - length (text_in x) = length-take-le (512 - (32 + size_in x)) (drop (32 + size_in x) x) (omega (arith, length-drop (32 + size_in x) x)) ∙ omega (arith, text_length) in
      zeros_are (between (32 + size_in x) 512 x) zeros ∙ ap (λ m. replicate m 0) l

  size : part x 24 8 ≡ field 8 (length (text_in x))
  size = part_field x 24 8 bs (omega arith) ∙ ap (field 8) (sym text_length)

  -- the sector is laid out by its fields and its text
  pub sector_laid : x ≡ sector_layout (sector_in x) (sectors_in x) (bits_in x) (text_in x) ++ drop 512 x
  sector_laid =
      parts
      ∙ ap (λ y. y ++ (part x 8 8 ++ (part x 16 8 ++ (part x 24 8 ++ (text_in x ++ (between (32 + size_in x) 512 x ++ drop 512 x)))))) (part_field x 0 8 bs (omega arith))
      ∙ ap (λ y. field 8 (sector_in x) ++ (y ++ (part x 16 8 ++ (part x 24 8 ++ (text_in x ++ (between (32 + size_in x) 512 x ++ drop 512 x)))))) (part_field x 8 8 bs (omega arith))
      ∙ ap (λ y. field 8 (sector_in x) ++ (field 8 (sectors_in x) ++ (y ++ (part x 24 8 ++ (text_in x ++ (between (32 + size_in x) 512 x ++ drop 512 x)))))) (part_field x 16 8 bs (omega arith))
      ∙ ap (λ y. field 8 (sector_in x) ++ (field 8 (sectors_in x) ++ (field 8 (bits_in x) ++ (y ++ (text_in x ++ (between (32 + size_in x) 512 x ++ drop 512 x)))))) size
      ∙ ap (λ y. field 8 (sector_in x) ++ (field 8 (sectors_in x) ++ (field 8 (bits_in x) ++ (field 8 (length (text_in x)) ++ (text_in x ++ (y ++ drop 512 x)))))) gap
      ∙ sym (six (field 8 (sector_in x)) (field 8 (sectors_in x)) (field 8 (bits_in x)) (field 8 (length (text_in x))) (text_in x) (replicate (480 - length (text_in x)) 0) (drop 512 x))

-- What is read of a row x that begins with the sector of the fields a, b, c and the text t, and goes on with r.
pub record SectorReads (a b c : ℕ) (t r x : List ℕ) : Type 0 where
  pub sector : sector_in x ≡ a
  pub sectors : sectors_in x ≡ b
  pub bits : bits_in x ≡ c
  pub size : size_in x ≡ length t
  pub text : text_in x ≡ t
  pub zeros : all_zero (between (32 + size_in x) 512 x) ≡ true
  pub rest : drop 512 x ≡ r
  pub whole : length x ≡ 512 + length r

module _ (a b c : ℕ) (t r : List ℕ) (fa : a < 2 ^ 64) (fb : b < 2 ^ 64) (fc : c < 2 ^ 64) (few : length t ≤ 480) where
  x4 : List ℕ
  x4 = t ++ (replicate (480 - length t) 0 ++ r)

  x3 : List ℕ
  x3 = field 8 (length t) ++ x4

  x2 : List ℕ
  x2 = field 8 c ++ x3

  x1 : List ℕ
  x1 = field 8 b ++ x2

  y : List ℕ
  y = field 8 a ++ x1

  laid_is : sector_layout a b c t ++ r ≡ y
  unfolding y x1 x2 x3 x4
  laid_is = six (field 8 a) (field 8 b) (field 8 c) (field 8 (length t)) t (replicate (480 - length t) 0) r

  d8 : drop 8 y ≡ x1
  unfolding y
  d8 = drop_at (field 8 a) x1 8 (length_field 8 a)

  d16 : drop 16 y ≡ x2
  unfolding x1
  d16 = sym (drop-drop 8 8 y) ∙ ap (drop 8) d8 ∙ drop_at (field 8 b) x2 8 (length_field 8 b)

  d24 : drop 24 y ≡ x3
  unfolding x2
  d24 = sym (drop-drop 8 16 y) ∙ ap (drop 8) d16 ∙ drop_at (field 8 c) x3 8 (length_field 8 c)

  d32 : drop 32 y ≡ x4
  unfolding x3
  d32 = sym (drop-drop 8 24 y) ∙ ap (drop 8) d24 ∙ drop_at (field 8 (length t)) x4 8 (length_field 8 (length t))

  front_of : (z rest : List ℕ) (n : ℕ) → n < 2 ^ 64 → z ≡ field 8 n ++ rest → number (take 8 z) ≡ n
  front_of z rest n h e = ap number (ap (take 8) e ∙ take_at (field 8 n) rest 8 (length_field 8 n)) ∙ number_field 8 n h

  sector_read : sector_in y ≡ a
  unfolding y
  sector_read = front_of y x1 a fa refl

  sectors_read : sectors_in y ≡ b
  unfolding x1
  sectors_read = front_of (drop 8 y) x2 b fb d8

  bits_read : bits_in y ≡ c
  unfolding x2
  bits_read = front_of (drop 16 y) x3 c fc d16

  size_read : size_in y ≡ length t
  unfolding x3
  size_read = front_of (drop 24 y) x4 (length t) (omega arith) d24

  text_read : text_in y ≡ t
  unfolding x4
  text_read =
      let e : 32 + size_in y - 32 ≡ length t = omega (arith, size_read) in
      ap (λ i. take i (drop 32 y)) e ∙ ap (take (length t)) d32 ∙ take_at t _ (length t) refl

  tail : drop (32 + length t) y ≡ replicate (480 - length t) 0 ++ r
  unfolding x4
  tail = sym (drop-drop (length t) 32 y) ∙ ap (drop (length t)) d32 ∙ drop_at t _ (length t) refl

  zeros_read : all_zero (between (32 + size_in y) 512 y) ≡ true
  zeros_read =
      let e : 512 - (32 + length t) ≡ 480 - length t = omega arith in
      ap (λ i. all_zero (between (32 + i) 512 y)) size_read
      ∙ ap (λ i. all_zero (take i (drop (32 + length t) y))) e
      ∙ ap (λ z. all_zero (take (480 - length t) z)) tail
      ∙ ap all_zero (take_at (replicate (480 - length t) 0) r (480 - length t) (length-replicate (480 - length t) 0))
      ∙ zeros_all (480 - length t)

  length_laid : length (sector_layout a b c t) ≡ 512
  length_laid = simp (length-append, length_field, length-replicate) (omega arith)

  rest_read : drop 512 y ≡ r
  rest_read = ap (drop 512) (sym laid_is) ∙ drop_at (sector_layout a b c t) r 512 length_laid

  whole_read : length y ≡ 512 + length r
  whole_read = ap length (sym laid_is) ∙ length-append (sector_layout a b c t) r ∙ ap (λ n. n + length r) length_laid

  pub sector_reads : (x : List ℕ) → x ≡ sector_layout a b c t ++ r → SectorReads a b c t r x
  sector_reads x e =
      let P : List ℕ → Type 0 = λ z. SectorReads a b c t r z in
      subst P (sym (e ∙ laid_is)) (record { sector = sector_read; sectors = sectors_read; bits = bits_read; size = size_read; text = text_read; zeros = zeros_read; rest = rest_read; whole = whole_read })
