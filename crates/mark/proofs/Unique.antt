-- A text spells at most one mark.
use Rattle.std.proofs.Common.{◌≡◌, ℕ, zero, suc, ◌+◌, ◌*◌, ◌/◌, ◌%◌, ◌^◌, ◌<◌, List, [], ◌∷◌, ◌++◌, get_or, decimal, fold, sym, refl, ap, ◌∙◌, inl, inr, pow-suc, arith}
use Rattle.std.specs.Int.{IsInRange}
use Rattle.std.specs.Char.{digit_char, digit_value}
use Rattle.std.proofs.lemmas.List.Sums.{fold_push}
use Rattle.std.proofs.lemmas.Bool.{cases_lt}
use Rattle.std.proofs.lemmas.Str.{digit_value-digit_char}
use Rattle.tree.specs.Hex.{hexes}
use Rattle.mark.specs.declared.mark.Mark.{Mark}
use Rattle.mark.specs.declared.mark.Mark.TheVariants.{File, Directory, Absent, Sync, Comment}
use Rattle.mark.specs.Numbers.{Run, NoDigit, Front}
use Rattle.mark.specs.Marks.{spaced, Spells}
use Rattle.mark.proofs.Lemmas.{only}
use Rattle.mark.proofs.Texts.{head, tail, space, none}

-- every text has a run of digits at its front
stop : (b : ℕ) (t : List ℕ) → (IsInRange 48 57 b → ⊥) → Run (b ∷ t) 0
stop b t h = record { within = omega arith; all = λ k l. absurd (omega arith); stops = λ l d. h d }

further : (b : ℕ) (t : List ℕ) (n : ℕ) → IsInRange 48 57 b → Run t n → Run (b ∷ t) (suc n)
further b t n h r = record { within = (let w = r.within in omega arith); all = every; stops = λ l d. r.stops (omega arith) d }
  where
    every : (k : ℕ) → k < suc n → IsInRange 48 57 (get_or (b ∷ t) k 0)
    every zero l = h
    every (suc k) l = r.all k (omega arith)

run : (t : List ℕ) → (n : ℕ) × Run t n
run [] = (0, record { within = omega arith; all = λ k l. absurd (omega arith); stops = λ l d. omega arith })
run (b ∷ t) = elim (cases_lt b 48) [
  | inl l ↦ (0, stop b t (λ d. omega (arith, d.0)))
  | inr g ↦ elim (cases_lt 57 b) [
    | inl l ↦ (0, stop b t (λ d. omega (arith, d.1)))
    | inr h ↦ (suc (run t).0, further b t (run t).0 (omega arith, omega arith) (run t).1)
  ]
]

front_unique : (t : List ℕ) (v w : ℕ) (r s : List ℕ) → Front v r t → Front w s t → (v ≡ w) × (r ≡ s)
front_unique t v w r s f g =
    let a = only t (run t).0 (run t).1 v r f in
    let b = only t (run t).0 (run t).1 w s g in
    (sym a.0 ∙ b.0, sym a.1 ∙ b.1)

spaced_unique : (v w : ℕ) (r s : List ℕ) → spaced v r ≡ spaced w s → v < 1000 → w < 1000 → NoDigit r → NoDigit s → (v ≡ w) × (r ≡ s)
spaced_unique v w r s e lv lw nr ns = front_unique (decimal v ++ r) v w r s (refl, lv, nr) (tail e, lw, ns)

-- k hexadecimal digits read back, by any function that reads one back
module _ (value : ℕ → ℕ) (one_back : (d : ℕ) → d < 16 → value (digit_char d) ≡ d) where
  pub back : (k n : ℕ) → n < 16 ^ k → fold (λ v c. v * 16 + value c) 0 (hexes k n) ≡ n
  back zero n h = omega arith
  back (suc k) n h =
      let p : 16 ^ suc k ≡ 16 ^ k * 16 = pow-suc _ _ in
      let l : n / 16 < 16 ^ k = omega arith in
      let i : fold (λ v c. v * 16 + value c) 0 (hexes k (n / 16)) ≡ n / 16 = back k (n / 16) l in
      let d : value (digit_char (n % 16)) ≡ n % 16 = one_back (n % 16) (omega arith) in
      fold_push (λ v c. v * 16 + value c) 0 (hexes k (n / 16)) (digit_char (n % 16)) ∙ omega (arith, i, d)

-- eight of them write one number of 32 bits
read_back : (n : ℕ) → n < 2 ^ 32 → fold (λ v c. v * 16 + digit_value c) 0 (hexes 8 n) ≡ n
read_back n l = back digit_value (λ d h. digit_value-digit_char d (omega arith)) 8 n l

hex_unique : (a b : ℕ) → a < 2 ^ 32 → b < 2 ^ 32 → hexes 8 a ≡ hexes 8 b → a ≡ b
hex_unique a b la lb e = sym (read_back a la) ∙ ap (fold (λ v c. v * 16 + digit_value c) 0) e ∙ read_back b lb

pub one : (t : List ℕ) (m n : Mark) → Spells m t → Spells n t → m ≡ n
one t (File n p l h) (File n' p' l' h') (e, lo, hi, lt, top, wide) (e', lo', hi', lt', top', wide') =
    let a = spaced_unique n n' _ _ (tail (sym e ∙ e')) (omega arith) (omega arith) (space _) (space _) in
    let b = spaced_unique p p' _ _ a.1 (omega arith) (omega arith) (space _) (space _) in
    let g = spaced_unique l l' _ _ b.1 (omega arith) (omega arith) (space (hexes 8 h)) (space (hexes 8 h')) in
    let x = hex_unique h h' wide wide' (tail g.1) in
    let en = a.0 in
    let ep = b.0 in
    let el = g.0 in
    cc
one t (File n p l h) (Directory n' p') s u = absurd (omega (arith, head (sym s.0 ∙ u.0)))
one t (File n p l h) (Absent n') s u = absurd (omega (arith, head (sym s.0 ∙ u.0)))
one t (File n p l h) (Sync n') s u = absurd (omega (arith, head (sym s.0 ∙ u.0)))
one t (File n p l h) Comment s (inl u) = absurd (omega (arith, head (sym s.0 ∙ u.1)))
one t (File n p l h) Comment s (inr u) = absurd (omega (arith, head (sym s.0 ∙ u)))
one t (Directory n p) (File n' p' l' h') s u = absurd (omega (arith, head (sym s.0 ∙ u.0)))
one t (Directory n p) (Directory n' p') (e, lo, hi, lt) (e', lo', hi', lt') =
    let a = spaced_unique n n' _ _ (tail (sym e ∙ e')) (omega arith) (omega arith) (space _) (space _) in
    let b = spaced_unique p p' [] [] a.1 (omega arith) (omega arith) none none in
    let en = a.0 in
    let ep = b.0 in
    cc
one t (Directory n p) (Absent n') s u = absurd (omega (arith, head (sym s.0 ∙ u.0)))
one t (Directory n p) (Sync n') s u = absurd (omega (arith, head (sym s.0 ∙ u.0)))
one t (Directory n p) Comment s (inl u) = absurd (omega (arith, head (sym s.0 ∙ u.1)))
one t (Directory n p) Comment s (inr u) = absurd (omega (arith, ap (λ (x : List ℕ). get_or x 1 0) (sym s.0 ∙ u)))
one t (Absent n) (File n' p' l' h') s u = absurd (omega (arith, head (sym s.0 ∙ u.0)))
one t (Absent n) (Directory n' p') s u = absurd (omega (arith, head (sym s.0 ∙ u.0)))
one t (Absent n) (Absent n') (e, lo, hi) (e', lo', hi') =
    ap Absent (spaced_unique n n' [] [] (tail (sym e ∙ e')) (omega arith) (omega arith) none none).0
one t (Absent n) (Sync n') s u = absurd (omega (arith, head (sym s.0 ∙ u.0)))
one t (Absent n) Comment s (inl u) = absurd (omega (arith, head (sym s.0 ∙ u.1)))
one t (Absent n) Comment s (inr u) = absurd (omega (arith, head (sym s.0 ∙ u)))
one t (Sync n) (File n' p' l' h') s u = absurd (omega (arith, head (sym s.0 ∙ u.0)))
one t (Sync n) (Directory n' p') s u = absurd (omega (arith, head (sym s.0 ∙ u.0)))
one t (Sync n) (Absent n') s u = absurd (omega (arith, head (sym s.0 ∙ u.0)))
one t (Sync n) (Sync n') (e, lo, hi) (e', lo', hi') =
    ap Sync (spaced_unique n n' [] [] (tail (sym e ∙ e')) (omega arith) (omega arith) none none).0
one t (Sync n) Comment s (inl u) = absurd (omega (arith, head (sym s.0 ∙ u.1)))
one t (Sync n) Comment s (inr u) = absurd (omega (arith, head (sym s.0 ∙ u)))
one t Comment (File n' p' l' h') (inl s) u = absurd (omega (arith, head (sym s.1 ∙ u.0)))
one t Comment (Directory n' p') (inl s) u = absurd (omega (arith, head (sym s.1 ∙ u.0)))
one t Comment (Absent n') (inl s) u = absurd (omega (arith, head (sym s.1 ∙ u.0)))
one t Comment (Sync n') (inl s) u = absurd (omega (arith, head (sym s.1 ∙ u.0)))
one t Comment Comment (inl s) (inl u) = refl
one t Comment Comment (inl s) (inr u) = refl
one t Comment (File n' p' l' h') (inr s) u = absurd (omega (arith, head (sym (s) ∙ u.0)))
one t Comment (Directory n' p') (inr s) u = absurd (omega (arith, ap (λ (x : List ℕ). get_or x 1 0) (sym (s) ∙ u.0)))
one t Comment (Absent n') (inr s) u = absurd (omega (arith, head (sym (s) ∙ u.0)))
one t Comment (Sync n') (inr s) u = absurd (omega (arith, head (sym (s) ∙ u.0)))
one t Comment Comment (inr s) (inl u) = refl
one t Comment Comment (inr s) (inr u) = refl
