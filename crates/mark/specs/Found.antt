-- The mark that a text spells, found by trying them all.
use Rattle.std.specs.Prelude.{◌≡◌, ℕ, zero, suc, ◌+◌, ◌-◌, ◌*◌, ◌^◌, Bool, false, cond, ◌&&◌, ◌||◌, ◌↔◌, List, [], ◌∷◌, length, drop, Some, None, codes, fold, Option, ◌==◌, nat_le, nat_lt}
use Rattle.std.specs.Str.{bytes_eq}
use Rattle.tree.specs.Hex.{hexes}
use Rattle.mark.specs.declared.mark.Mark.{Mark}
use Rattle.mark.specs.declared.mark.Mark.TheVariants.{File, Directory, Absent, Sync, Comment}
use Rattle.mark.specs.Marks.{Spells, spaced}

-- a text begins with #
abbrev pub is_note : List ℕ → Bool
is_note [] = false
is_note (b ∷ bs) = b == 35

-- whether a mark spells a text, as a test
abbrev pub spells : Mark → List ℕ → Bool
spells (File n p l h) t = bytes_eq t (102 ∷ spaced n (spaced p (spaced l (32 ∷ hexes 8 h)))) && (nat_le 1 n && (nat_le n 15 && (nat_lt p n && (nat_le l 512 && nat_lt h (2 ^ 32)))))
spells (Directory n p) t = bytes_eq t (100 ∷ spaced n (spaced p [])) && (nat_le 1 n && (nat_le n 15 && nat_lt p n))
spells (Absent n) t = bytes_eq t (120 ∷ spaced n []) && (nat_le 1 n && nat_le n 15)
spells (Sync n) t = bytes_eq t (115 ∷ spaced n []) && (nat_le 1 n && nat_le n 15)
spells Comment t = is_note t || bytes_eq t (codes "dm-log-writes-end")

-- the mark, if it spells the text
abbrev pub whether : List ℕ → Mark → Option Mark
whether t m = cond (spells m t) (Some m) None

-- the first of two that is there
abbrev pub either : Option Mark → Option Mark → Option Mark
either (Some m) other = Some m
either None other = other

-- what f gives at some number below n
unfoldable pub among : (n : ℕ) → (ℕ → Option Mark) → Option Mark
among zero f = None
among (suc n) f = either (among n f) (f n)

-- the number that hexadecimal digits write
abbrev pub digit_value : ℕ → ℕ
digit_value c = cond (nat_lt c 58) (c - 48) (c - 87)

abbrev pub hex_value : List ℕ → ℕ
hex_value digits = fold (λ v c. v * 16 + digit_value c) 0 digits

-- the print at the end of a text
abbrev pub last_print : List ℕ → ℕ
last_print t = hex_value (drop (length t - 8) t)

-- THE MARK of a text: a comment, or one of those with nodes below 16, parents below their nodes, and lengths below 513
unfoldable pub mark_of : List ℕ → Option Mark
mark_of t =
    either (whether t Comment)
    (either (among 16 (λ n. among n (λ p. among 513 (λ l. whether t (File n p l (last_print t))))))
    (either (among 16 (λ n. among n (λ p. whether t (Directory n p))))
    (either (among 16 (λ n. whether t (Absent n))) (among 16 (λ n. whether t (Sync n))))))

-- it is the one that spells the text
abbrev pub TheMark : Type 0
TheMark = (t : List ℕ) (m : Mark) → (mark_of t ≡ Some m) ↔ Spells m t
