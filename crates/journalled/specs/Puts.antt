-- A word replaced in a sector: it is there, and every other word is as it was.
use Rattle.std.specs.Prelude.{◌≡◌, ℕ, ◌+◌, ◌*◌, ◌/◌, ◌%◌, ◌^◌, ◌<◌, ◌≢◌, List, length, slice_index, slice_index_or, slice_set, refl}
use Rattle.std.proofs.Common.{sym, ◌∙◌, arith}
use Rattle.std.proofs.lemmas.List.{length-set, get_or-set_same, get_or-set_other}
use Rattle.std.proofs.lemmas.Nat.{shr-shr}
use Rattle.filesystem.specs.Words.{word_at}
use Rattle.journalled.specs.Journal.{put_word}

-- four bytes written one after another
abbrev four : List ℕ → ℕ → ℕ → ℕ → ℕ → ℕ → List ℕ
four s a w x y z = slice_set (slice_set (slice_set (slice_set s a w) (a + 1) x) (a + 2) y) (a + 3) z

module _ (s : List ℕ) (a w x y z : ℕ) (inside : a + 3 < length s) where
  at_0 : slice_index_or (four s a w x y z) a 0 ≡ w
  at_0 =
      get_or-set_other (slice_set (slice_set (slice_set s a w) (a + 1) x) (a + 2) y) (a + 3) a z 0 (λ e. omega arith)
      ∙ get_or-set_other (slice_set (slice_set s a w) (a + 1) x) (a + 2) a y 0 (λ e. omega arith)
      ∙ get_or-set_other (slice_set s a w) (a + 1) a x 0 (λ e. omega arith)
      ∙ get_or-set_same s a w 0 (omega arith)

  at_1 : slice_index_or (four s a w x y z) (a + 1) 0 ≡ x
  at_1 =
      get_or-set_other (slice_set (slice_set (slice_set s a w) (a + 1) x) (a + 2) y) (a + 3) (a + 1) z 0 (λ e. omega arith)
      ∙ get_or-set_other (slice_set (slice_set s a w) (a + 1) x) (a + 2) (a + 1) y 0 (λ e. omega arith)
      ∙ get_or-set_same (slice_set s a w) (a + 1) x 0 (rw length-set (omega arith))

  at_2 : slice_index_or (four s a w x y z) (a + 2) 0 ≡ y
  at_2 =
      get_or-set_other (slice_set (slice_set (slice_set s a w) (a + 1) x) (a + 2) y) (a + 3) (a + 2) z 0 (λ e. omega arith)
      ∙ get_or-set_same (slice_set (slice_set s a w) (a + 1) x) (a + 2) y 0 (simp length-set (omega arith))

  at_3 : slice_index_or (four s a w x y z) (a + 3) 0 ≡ z
  at_3 = get_or-set_same (slice_set (slice_set (slice_set s a w) (a + 1) x) (a + 2) y) (a + 3) z 0 (simp length-set (omega arith))

at_other : (s : List ℕ) (a w x y z n : ℕ) → n ≢ a → n ≢ a + 1 → n ≢ a + 2 → n ≢ a + 3 → slice_index (four s a w x y z) n ≡ slice_index s n
at_other s a w x y z n n0 n1 n2 n3 =
    get_or-set_other (slice_set (slice_set (slice_set s a w) (a + 1) x) (a + 2) y) (a + 3) n z 0 n3
    ∙ get_or-set_other (slice_set (slice_set s a w) (a + 1) x) (a + 2) n y 0 n2
    ∙ get_or-set_other (slice_set s a w) (a + 1) n x 0 n1
    ∙ get_or-set_other s a n w 0 n0

-- a number below 2^32 is its four bytes
split : (w u v t a b c d : ℕ) → a ≡ w % 256 → b ≡ u % 256 → c ≡ v % 256 → d ≡ t % 256 → u ≡ w / 256 → v ≡ u / 256 → t ≡ v / 256 → w < 2 ^ 32
    → a + b * 256 + c * 65536 + d * 16777216 ≡ w
split w u v t a b c d p q r s eu ev et h =
    let hu : u < 2 ^ 24 = omega arith in
    let hv : v < 2 ^ 16 = omega arith in
    let ht : t < 2 ^ 8 = omega arith in
    omega arith

pub put_same : (s : List ℕ) (i w : ℕ) → length s ≡ 512 → i < 128 → w < 2 ^ 32 → word_at (put_word s i w) i ≡ w
unfolding word_at put_word
put_same s i w len l h =
    let a : ℕ = 4 * i in
    let p : a + 3 < length s = omega arith in
    let w1 : ℕ = w / 2 ^ 8 % 256 in
    let w2 : ℕ = w / 2 ^ 16 % 256 in
    let w3 : ℕ = w / 2 ^ 24 % 256 in
    sum w _ _ _ _ (at_0 s a (w % 256) w1 w2 w3 p) (at_1 s a (w % 256) w1 w2 w3 p) (at_2 s a (w % 256) w1 w2 w3 p) (at_3 s a (w % 256) w1 w2 w3 p) h
  where
    sum : (w a b c d : ℕ) → a ≡ w % 256 → b ≡ w / 2 ^ 8 % 256 → c ≡ w / 2 ^ 16 % 256 → d ≡ w / 2 ^ 24 % 256 → w < 2 ^ 32
        → a + b * 256 + c * 65536 + d * 16777216 ≡ w
    sum w a b c d p q r t h = split w (w / 2 ^ 8) (w / 2 ^ 16) (w / 2 ^ 24) a b c d p q r t refl (sym (shr-shr w 8 8)) (sym (shr-shr w 16 8)) h

pub put_other : (s : List ℕ) (i j w : ℕ) → j ≢ i → word_at (put_word s i w) j ≡ word_at s j
unfolding word_at put_word
put_other s i j w ne =
    let at : (b : ℕ) → b < 4 → slice_index (put_word s i w) (4 * j + b) ≡ slice_index s (4 * j + b)
    = λ b l. at_other s (4 * i) _ _ _ _ (4 * j + b) (λ e. ne (omega arith)) (λ e. ne (omega arith)) (λ e. ne (omega arith)) (λ e. ne (omega arith)) in
    sum _ _ _ _ _ _ _ _ (at_other s (4 * i) _ _ _ _ (4 * j) (λ e. ne (omega arith)) (λ e. ne (omega arith)) (λ e. ne (omega arith)) (λ e. ne (omega arith)))
    (at 1 (omega arith)) (at 2 (omega arith)) (at 3 (omega arith))
  where
    sum : (a b c d a' b' c' d' : ℕ) → a ≡ a' → b ≡ b' → c ≡ c' → d ≡ d'
        → a + b * 256 + c * 65536 + d * 16777216 ≡ a' + b' * 256 + c' * 65536 + d' * 16777216
    sum a b c d a' b' c' d' p q r t = omega arith

pub length_put : (s : List ℕ) (i w : ℕ) → length (put_word s i w) ≡ length s
unfolding put_word
length_put s i w = simp length-set
