-- The mark that is found is the one that spells the text.
use Rattle.std.proofs.Common.{◌≡◌, ℕ, zero, suc, ◌+◌, ◌-◌, ◌/◌, ◌%◌, ◌^◌, ◌<◌, true, cond, ◌&&◌, ltb, leb, List, [], ◌∷◌, ◌++◌, length, drop, Some, None, codes, decimal, Option, sym, refl, ap, ◌∙◌, subst, inl, inr, append_assoc, arith}
use Rattle.std.specs.Char.{digit_char}
use Rattle.std.specs.Str.{bytes_eq}
use Rattle.std.proofs.lemmas.Slice.Eq.{bytes_eq-Decides}
use Rattle.std.proofs.lemmas.List.{length-append, drop_at}
use Rattle.std.proofs.lemmas.Bool.{cases_lt, cases_eq, cases_Bool, and_parts, and_from, or_cases, or_left, or_right, leb-true, ltb-true, eqb-true, le-leb, lt-ltb, le-ltb, false≢true}
use Rattle.tree.specs.Hex.{hexes}
use Rattle.mark.specs.declared.mark.Mark.{Mark}
use Rattle.mark.specs.declared.mark.Mark.TheVariants.{File, Directory, Absent, Sync, Comment}
use Rattle.mark.specs.Marks.{Spells, Finds, spaced}
use Rattle.mark.specs.Found.{is_note, spells, whether, either, among, digit_value, hex_value, last_print, mark_of, TheMark}
use Rattle.mark.proofs.Unique.{back, one}

-- THE TEST decides what a mark spells.
note_is : (t : List ℕ) → is_note t ≡ true → (rest : List ℕ) × (t ≡ 35 ∷ rest)
note_is [] e = absurd (false≢true e)
note_is (b ∷ bs) e = (bs, ap (λ x. x ∷ bs) (eqb-true b 35 e))

pub spells_true : (m : Mark) (t : List ℕ) → spells m t ≡ true → Spells m t
spells_true (File n p l h) t e =
    let a = and_parts (bytes_eq t (102 ∷ spaced n (spaced p (spaced l (32 ∷ hexes 8 h))))) (leb 1 n && (leb n 15 && (ltb p n && (leb l 512 && ltb h (2 ^ 32))))) e in
    let b = and_parts (leb 1 n) (leb n 15 && (ltb p n && (leb l 512 && ltb h (2 ^ 32)))) a.1 in
    let c = and_parts (leb n 15) (ltb p n && (leb l 512 && ltb h (2 ^ 32))) b.1 in
    let d = and_parts (ltb p n) (leb l 512 && ltb h (2 ^ 32)) c.1 in
    let f = and_parts (leb l 512) (ltb h (2 ^ 32)) d.1 in
    ((bytes_eq-Decides t _).0 a.0, leb-true 1 n b.0, leb-true n 15 c.0, ltb-true p n d.0, leb-true l 512 f.0, ltb-true h (2 ^ 32) f.1)
spells_true (Directory n p) t e =
    let a = and_parts (bytes_eq t (100 ∷ spaced n (spaced p []))) (leb 1 n && (leb n 15 && ltb p n)) e in
    let b = and_parts (leb 1 n) (leb n 15 && ltb p n) a.1 in
    let c = and_parts (leb n 15) (ltb p n) b.1 in
    ((bytes_eq-Decides t _).0 a.0, leb-true 1 n b.0, leb-true n 15 c.0, ltb-true p n c.1)
spells_true (Absent n) t e =
    let a = and_parts (bytes_eq t (120 ∷ spaced n [])) (leb 1 n && leb n 15) e in
    let b = and_parts (leb 1 n) (leb n 15) a.1 in
    ((bytes_eq-Decides t _).0 a.0, leb-true 1 n b.0, leb-true n 15 b.1)
spells_true (Sync n) t e =
    let a = and_parts (bytes_eq t (115 ∷ spaced n [])) (leb 1 n && leb n 15) e in
    let b = and_parts (leb 1 n) (leb n 15) a.1 in
    ((bytes_eq-Decides t _).0 a.0, leb-true 1 n b.0, leb-true n 15 b.1)
spells_true Comment t e = elim (or_cases (is_note t) (bytes_eq t (codes "dm-log-writes-end")) e) [
  | inl n ↦ inl (note_is t n)
  | inr s ↦ inr ((bytes_eq-Decides t (codes "dm-log-writes-end")).0 s)
]

pub true_spells : (m : Mark) (t : List ℕ) → Spells m t → spells m t ≡ true
true_spells (File n p l h) t s =
    and_from (bytes_eq t (102 ∷ spaced n (spaced p (spaced l (32 ∷ hexes 8 h))))) (leb 1 n && (leb n 15 && (ltb p n && (leb l 512 && ltb h (2 ^ 32))))) ((bytes_eq-Decides t _).1 s.0)
    (and_from (leb 1 n) (leb n 15 && (ltb p n && (leb l 512 && ltb h (2 ^ 32)))) (le-leb 1 n s.1)
    (and_from (leb n 15) (ltb p n && (leb l 512 && ltb h (2 ^ 32))) (le-leb n 15 s.2)
    (and_from (ltb p n) (leb l 512 && ltb h (2 ^ 32)) (lt-ltb p n s.3)
    (and_from (leb l 512) (ltb h (2 ^ 32)) (le-leb l 512 s.4) (lt-ltb h (2 ^ 32) s.5)))))
true_spells (Directory n p) t s =
    and_from (bytes_eq t (100 ∷ spaced n (spaced p []))) (leb 1 n && (leb n 15 && ltb p n)) ((bytes_eq-Decides t _).1 s.0)
    (and_from (leb 1 n) (leb n 15 && ltb p n) (le-leb 1 n s.1) (and_from (leb n 15) (ltb p n) (le-leb n 15 s.2) (lt-ltb p n s.3)))
true_spells (Absent n) t s =
    and_from (bytes_eq t (120 ∷ spaced n [])) (leb 1 n && leb n 15) ((bytes_eq-Decides t _).1 s.0) (and_from (leb 1 n) (leb n 15) (le-leb 1 n s.1) (le-leb n 15 s.2))
true_spells (Sync n) t s =
    and_from (bytes_eq t (115 ∷ spaced n [])) (leb 1 n && leb n 15) ((bytes_eq-Decides t _).1 s.0) (and_from (leb 1 n) (leb n 15) (le-leb 1 n s.1) (le-leb n 15 s.2))
true_spells Comment t (inl s) = or_left (is_note t) (bytes_eq t (codes "dm-log-writes-end")) (ap is_note s.1)
true_spells Comment t (inr s) = or_right (is_note t) (bytes_eq t (codes "dm-log-writes-end")) ((bytes_eq-Decides t (codes "dm-log-writes-end")).1 s)

-- WHAT IS FOUND spells the text, and something is found where a mark does.
Right : List ℕ → Option Mark → Type 0
Right t o = (m : Mark) → o ≡ Some m → Spells m t

-- something is there
There : Option Mark → Type 0
There o = (m : Mark) × (o ≡ Some m)

whether_right : (t : List ℕ) (m : Mark) → Right t (whether t m)
unfolding Right
whether_right t m k e = elim (cases_Bool (spells m t)) [
  | inl s ↦ let q : m ≡ k = let w = ap (λ b. cond b (Some m) None) s in cc in subst (λ x. Spells x t) q (spells_true m t s)
  | inr s ↦ let w = ap (λ b. cond b (Some m) None) s in cc
]

whether_there : (t : List ℕ) (m : Mark) → Spells m t → There (whether t m)
unfolding There
whether_there t m s = (m, ap (λ b. cond b (Some m) None) (true_spells m t s))

either_right : (t : List ℕ) (o p : Option Mark) → Right t o → Right t p → Right t (either o p)
unfolding Right
either_right t (Some m) p a b = a
either_right t None p a b = b

either_left : (o p : Option Mark) → There o → There (either o p)
unfolding There
either_left (Some m) p h = (m, refl)
either_left None p h = let e = h.1 in cc

either_other : (o p : Option Mark) → There p → There (either o p)
unfolding There
either_other (Some m) p h = (m, refl)
either_other None p h = h

among_right : (t : List ℕ) (n : ℕ) (f : ℕ → Option Mark) → ((k : ℕ) → Right t (f k)) → Right t (among n f)
unfolding among Right
among_right t zero f h m e = cc
among_right t (suc n) f h m e = either_right t (among n f) (f n) (among_right t n f h) (h n) m e

among_there : (n k : ℕ) (f : ℕ → Option Mark) → k < n → There (f k) → There (among n f)
unfolding among
among_there zero k f l h = absurd (omega arith)
among_there (suc n) k f l h = elim (cases_eq k n) [
  | inl e ↦ either_other (among n f) (f n) (subst (λ j. There (f j)) e h)
  | inr ne ↦ either_left (among n f) (f n) (among_there n k f (omega arith) h)
]

-- HEXADECIMAL DIGITS read back.
-- one digit, of the digit_value of Found; the library says it of its own, which is another function
digit_back : (d : ℕ) → d < 16 → digit_value (digit_char d) ≡ d
digit_back d h = elim (cases_lt d 10) [
  | inl l ↦ ap (λ b. digit_value (cond b (48 + d) (87 + d))) (lt-ltb d 10 l) ∙ ap (λ b. cond b (48 + d - 48) (48 + d - 87)) (lt-ltb (48 + d) 58 (omega arith)) ∙ omega arith
  | inr g ↦ ap (λ b. digit_value (cond b (48 + d) (87 + d))) (le-ltb d 10 g) ∙ ap (λ b. cond b (87 + d - 48) (87 + d - 87)) (le-ltb (87 + d) 58 (omega arith)) ∙ omega arith
]

length_hexes : (k n : ℕ) → length (hexes k n) ≡ k
length_hexes zero n = refl
length_hexes (suc k) n = length-append (hexes k (n / 16)) (digit_char (n % 16) ∷ []) ∙ ap (λ m. m + 1) (length_hexes k (n / 16)) ∙ omega arith

-- a text that ends in the eight digits of h
pub print_back : (front : List ℕ) (h : ℕ) → h < 2 ^ 32 → last_print (front ++ hexes 8 h) ≡ h
print_back front h l =
    let n : length (front ++ hexes 8 h) - 8 ≡ length front = let e = length-append front (hexes 8 h) in let f = length_hexes 8 h in omega arith in
    ap (λ i. hex_value (drop i (front ++ hexes 8 h))) n ∙ ap hex_value (drop_at front (hexes 8 h) (length front) refl) ∙ back digit_value digit_back 8 h l

-- the text of a file's mark is such a text
file_front : List ℕ → List ℕ → List ℕ → List ℕ
file_front a b c = 102 ∷ (32 ∷ (a ++ (32 ∷ (b ++ (32 ∷ (c ++ (32 ∷ [])))))))

file_ends : (a b c z : List ℕ) → 102 ∷ (32 ∷ (a ++ (32 ∷ (b ++ (32 ∷ (c ++ (32 ∷ z))))))) ≡ file_front a b c ++ z
unfolding file_front
file_ends a b c z =
    ap (λ y. 102 ∷ (32 ∷ y)) (sym (append_assoc a (32 ∷ (b ++ (32 ∷ (c ++ (32 ∷ []))))) z
    ∙ ap (λ y. a ++ (32 ∷ y)) (append_assoc b (32 ∷ (c ++ (32 ∷ []))) z
    ∙ ap (λ y. b ++ (32 ∷ y)) (append_assoc c (32 ∷ []) z))))

-- ALL TOGETHER.
module _ (t : List ℕ) where
  abbrev file_at : ℕ → ℕ → ℕ → Option Mark
  file_at n p l = whether t (File n p l (last_print t))

  abbrev directory_at : ℕ → ℕ → Option Mark
  directory_at n p = whether t (Directory n p)

  abbrev comment : Option Mark
  comment = whether t Comment

  abbrev files : Option Mark
  files = among 16 (λ n. among n (λ p. among 513 (file_at n p)))

  abbrev directories : Option Mark
  directories = among 16 (λ n. among n (directory_at n))

  abbrev absents : Option Mark
  absents = among 16 (λ n. whether t (Absent n))

  abbrev syncs : Option Mark
  syncs = among 16 (λ n. whether t (Sync n))

  right : Right t (mark_of t)
  unfolding mark_of
  right = either_right t _ _ (whether_right t Comment)
      (either_right t _ _ (among_right t 16 _ (λ n. among_right t n _ (λ p. among_right t 513 _ (λ l. whether_right t (File n p l (last_print t))))))
      (either_right t _ _ (among_right t 16 _ (λ n. among_right t n _ (λ p. whether_right t (Directory n p))))
      (either_right t _ _ (among_right t 16 _ (λ n. whether_right t (Absent n))) (among_right t 16 _ (λ n. whether_right t (Sync n))))))

  there : (m : Mark) → Spells m t → There (mark_of t)
  unfolding mark_of
  there Comment s = either_left comment (either files (either directories (either absents syncs))) (whether_there t Comment s)
  there (File n p l h) s =
      let e : last_print t ≡ h = ap last_print (s.0 ∙ file_ends (decimal n) (decimal p) (decimal l) (hexes 8 h)) ∙ print_back (file_front (decimal n) (decimal p) (decimal l)) h s.5 in
      let k = s.2 in
      let q = s.4 in
      let w : There (file_at n p l) = subst (λ x. There (whether t (File n p l x))) (sym e) (whether_there t (File n p l h) s) in
      either_other comment (either files (either directories (either absents syncs)))
      (either_left files (either directories (either absents syncs))
      (among_there 16 n (λ i. among i (λ j. among 513 (file_at i j))) (omega arith) (among_there n p (λ j. among 513 (file_at n j)) s.3 (among_there 513 l (file_at n p) (omega arith) w))))
  there (Directory n p) s =
      let k = s.2 in
      either_other comment (either files (either directories (either absents syncs)))
      (either_other files (either directories (either absents syncs))
      (either_left directories (either absents syncs)
      (among_there 16 n (λ i. among i (directory_at i)) (omega arith) (among_there n p (directory_at n) s.3 (whether_there t (Directory n p) s)))))
  there (Absent n) s =
      let k = s.2 in
      either_other comment (either files (either directories (either absents syncs)))
      (either_other files (either directories (either absents syncs))
      (either_other directories (either absents syncs)
      (either_left absents syncs (among_there 16 n (λ i. whether t (Absent i)) (omega arith) (whether_there t (Absent n) s)))))
  there (Sync n) s =
      let k = s.2 in
      either_other comment (either files (either directories (either absents syncs)))
      (either_other files (either directories (either absents syncs))
      (either_other directories (either absents syncs)
      (either_other absents syncs (among_there 16 n (λ i. whether t (Sync i)) (omega arith) (whether_there t (Sync n) s)))))

pub the_mark : TheMark
unfolding Right There
the_mark t m = (right t m, λ s. let f = there t m s in f.1 ∙ ap Some (one t f.0 m (right t f.0 f.1) s))

-- what spells a text, or that nothing does, is the mark found
pub is_found : (t : List ℕ) (o : Option Mark) → Finds t o → o ≡ mark_of t
is_found t (Some m) s = sym ((the_mark t m).1 s)
is_found t None never = go (mark_of t) refl
  where
    go : (o : Option Mark) → mark_of t ≡ o → None ≡ mark_of t
    go None e = sym e
    go (Some m) e = absurd (never m ((the_mark t m).0 e))
