-- How marks are written.
use Rattle.std.specs.Prelude.{◌≡◌, ℕ, ◌^◌, ◌<◌, ◌≤◌, ◌⊎◌, List, [], ◌∷◌, ◌++◌, Some, None, Ok, Err, codes, decimal, Option, Result}
use Rattle.tree.specs.Hex.{hexes}
use Rattle.mark.specs.declared.numbers.Number.{Number}
use Rattle.mark.specs.declared.reader.NodeAndParent.{NodeAndParent}
use Rattle.mark.specs.declared.mark.Mark.{Mark}
use Rattle.mark.specs.declared.mark.Mark.TheVariants.{File, Directory, Absent, Sync, Comment}
use Rattle.mark.specs.declared.refusal.Refusal.{Refusal}
use Rattle.mark.specs.Numbers.{NoDigit}

-- a space, the number v in decimal, and then `rest`
abbrev pub spaced : ℕ → List ℕ → List ℕ
spaced v rest = 32 ∷ decimal v ++ rest

-- WHAT A MARK SPELLS. A letter, f 102, d 100, x 120 or s 115, and its numbers with a space before each;
-- a print of 32 bits is eight hexadecimal digits. A comment is # (35) and anything after it, or the kernel's closing text.
abbrev pub Spells : Mark → List ℕ → Type 0
Spells (File n p l h) t = (t ≡ 102 ∷ spaced n (spaced p (spaced l (32 ∷ hexes 8 h)))) × (1 ≤ n) × (n ≤ 15) × (p < n) × (l ≤ 512) × (h < 2 ^ 32)
Spells (Directory n p) t = (t ≡ 100 ∷ spaced n (spaced p [])) × (1 ≤ n) × (n ≤ 15) × (p < n)
Spells (Absent n) t = (t ≡ 120 ∷ spaced n []) × (1 ≤ n) × (n ≤ 15)
Spells (Sync n) t = (t ≡ 115 ∷ spaced n []) × (1 ≤ n) × (n ≤ 15)
Spells Comment t = ((rest : List ℕ) × (t ≡ 35 ∷ rest)) ⊎ (t ≡ codes "dm-log-writes-end")

-- what the reader answers: a mark that spells t, or a refusal where none does
abbrev pub ReadAs : List ℕ → Result Mark Refusal → Type 0
ReadAs t (Ok m) = Spells m t
ReadAs t (Err e) = (m : Mark) → Spells m t → ⊥

-- and no other mark than the answer spells t
abbrev pub Only : List ℕ → Result Mark Refusal → Type 0
Only t r = (m : Mark) → Spells m t → r ≡ Ok m

-- a text spells at most one mark
abbrev pub AtMostOne : Type 0
AtMostOne = (t : List ℕ) (m n : Mark) → Spells m t → Spells n t → m ≡ n

-- the same for the parts of the reader
abbrev pub Finds : List ℕ → Option Mark → Type 0
Finds t (Some m) = Spells m t
Finds t None = (m : Mark) → Spells m t → ⊥

-- t is a space, the number v below 1000, and then `rest`
abbrev pub Next : ℕ → List ℕ → List ℕ → Type 0
Next v rest t = (t ≡ spaced v rest) × (v < 1000) × NoDigit rest

-- the one number that stands at the front of t after a space
abbrev pub Spaced : List ℕ → Option Number → Type 0
Spaced t None = (v : ℕ) (rest : List ℕ) → Next v rest t → ⊥
Spaced t (Some x) = Next x.value x.rest.now t × ((v : ℕ) (rest : List ℕ) → Next v rest t → (x.value ≡ v) × (x.rest.now ≡ rest))

-- t is a space and the number of a node, and nothing more
abbrev pub Lone : List ℕ → Option ℕ → Type 0
Lone t None = (n : ℕ) → t ≡ spaced n [] → 1 ≤ n → n ≤ 15 → ⊥
Lone t (Some n) = (t ≡ spaced n []) × (1 ≤ n) × (n ≤ 15)

-- t is a space and the number n of a node, a space and the number p of its parent, and then `rest`
abbrev pub NextTwo : (n p : ℕ) → List ℕ → List ℕ → Type 0
NextTwo n p rest t = (t ≡ spaced n (spaced p rest)) × (1 ≤ n) × (n ≤ 15) × (p < n) × NoDigit rest

-- the one node and parent that stand at the front of t
abbrev pub SpacedTwo : List ℕ → Option NodeAndParent → Type 0
SpacedTwo t None = (n p : ℕ) (rest : List ℕ) → NextTwo n p rest t → ⊥
SpacedTwo t (Some x) = NextTwo x.node x.parent x.rest.now t × ((n p : ℕ) (rest : List ℕ) → NextTwo n p rest t → (x.node ≡ n) × (x.parent ≡ p) × (x.rest.now ≡ rest))
