-- The print of a row of bytes.
use Rattle.std.specs.Prelude.{◌≡◌, ℕ, ◌+◌, ◌*◌, ◌/◌, ◌%◌, ◌^◌, ◌<◌, List, [], ◌∷◌, ◌++◌, length, take, fold, slice_index, refl}
use Rattle.std.proofs.Common.{lit<}
use Rattle.std.proofs.lemmas.Nat.{mod_below}
use Rattle.std.proofs.lemmas.List.Sums.{fold_push, fold_more}

-- 32 bits, rotated left by 5
abbrev pub rotated : ℕ → ℕ
rotated p = p * 2 ^ 5 % 2 ^ 32 + p / 2 ^ 27

-- the print after one byte more
abbrev pub stamped : ℕ → ℕ → ℕ
stamped p b = (rotated p + b) % 2 ^ 32

-- THE PRINT: from 0, byte by byte. Other crates see only this name and its laws below.
unfoldable pub print_of : List ℕ → ℕ
print_of bytes = fold stamped 0 bytes

pub print_none : print_of [] ≡ 0
unfolding print_of
print_none = refl

pub print_push : (xs : List ℕ) (x : ℕ) → print_of (xs ++ x ∷ []) ≡ stamped (print_of xs) x
unfolding print_of
print_push xs x = fold_push stamped 0 xs x

pub print_more : (xs : List ℕ) (i : ℕ) → i < length xs → print_of (take (i + 1) xs) ≡ stamped (print_of (take i xs)) (slice_index xs i)
unfolding print_of
print_more xs i h = fold_more stamped 0 xs i 0 h

stamped_below : (p : ℕ) (xs : List ℕ) → p < 2 ^ 32 → fold stamped p xs < 2 ^ 32
stamped_below p [] h = h
stamped_below p (x ∷ xs) h = stamped_below (stamped p x) xs (mod_below (rotated p + x) (2 ^ 32) (lit< tt))

pub print_below : (xs : List ℕ) → print_of xs < 2 ^ 32
unfolding print_of
print_below xs = stamped_below 0 xs (lit< tt)

-- a worked example: bytes 1 and 2
abbrev pub Example : Type 0
Example = print_of (1 ∷ 2 ∷ []) ≡ 34
