-- How the calls of a script are written.
use Rattle.std.specs.Prelude.{◌≡◌, ℕ, ◌-◌, ◌^◌, ◌<◌, ◌⊎◌, min, List, ◌∷◌, ◌++◌, length, All, Option, Some, None, codes, ⊤}
use Rattle.std.specs.Int.{IsInRange}
use Rattle.std.specs.Str.Parse.{digits_value}
use Rattle.script.specs.declared.spoken.Spoken.{Spoken}
use Rattle.script.specs.declared.spoken.Spoken.TheVariants.{Load, Advance, Judge, Forgo, Look, Report}

-- A NUMBER is one or more of the digits 0 to 9 (48 to 57). One past 64 bits counts as the greatest of 64 bits: no sector and
-- no buffer's length is that large, so both are declined alike.
abbrev pub Number : ℕ → List ℕ → Type 0
Number v t = (0 < length t) × All (IsInRange 48 57) t × (v ≡ min (digits_value 10 t) (2 ^ 64 - 1))

-- WHAT A CALL SPELLS: a word, and after look one space and the sector. A buffer's length follows after one space; without
-- it the buffer has 512 bytes.
abbrev pub Spells : Spoken → List ℕ → Type 0
Spells Load t = t ≡ codes "load"
Spells Advance t = t ≡ codes "advance"
Spells Judge t = t ≡ codes "judge"
Spells Forgo t = t ≡ codes "forgo"
Spells (Look sector size) t = (s : List ℕ) × Number sector s × (((t ≡ codes "look " ++ s) × (size ≡ 512)) ⊎ ((n : List ℕ) × (t ≡ codes "look " ++ (s ++ 32 ∷ n)) × Number size n))
Spells Report t = t ≡ codes "report"

-- a call that spells t, or that none does
abbrev pub Finds : List ℕ → Option Spoken → Type 0
Finds t None = (c : Spoken) → Spells c t → ⊥
Finds t (Some c) = Spells c t

-- only a look has more than its word
abbrev pub IsLook : Spoken → Type 0
IsLook (Look sector size) = ⊤
IsLook Load = ⊥
IsLook Advance = ⊥
IsLook Judge = ⊥
IsLook Forgo = ⊥
IsLook Report = ⊥
