-- The lines of a script.
use Rattle.std.specs.Prelude.{◌≡◌, ℕ, ◌+◌, ◌⊎◌, ◌≢◌, List, [], ◌∷◌, ◌++◌, length, All, ◌==◌, if◌then◌else◌}
use Rattle.std.specs.List.{AllZip, onto_first}
use Rattle.script.specs.declared.refusal.Refusal.{Refusal}
use Rattle.script.specs.declared.refusal.Refusal.TheVariants.{NoCall, Memory}
use Rattle.script.specs.declared.spoken.Spoken.{Spoken}
use Rattle.script.specs.Spelling.{Spells}

-- the first such byte of t stands between front and rest
abbrev pub Cut : ℕ → List ℕ → (front rest : List ℕ) → Type 0
Cut byte t front rest = (t ≡ front ++ byte ∷ rest) × All (λ b. b ≢ byte) front

-- the first line of t is the whole, or is ended by a newline (10)
abbrev pub First : List ℕ → (line rest : List ℕ) → Type 0
First t line rest = Cut 10 t line rest ⊎ ((t ≡ line) × (rest ≡ []) × All (λ b. b ≢ 10) t)

-- THE LINES of a text. A newline ends a line; the last line may be without.
abbrev pub lines : List ℕ → List (List ℕ)
lines [] = []
lines (b ∷ bs) = if b == 10 then [] ∷ lines bs else onto_first b (lines bs)

-- the lines before the one of this number, counted from 1, spell calls, and that one spells none
abbrev pub StopsAt : ℕ → List (List ℕ) → Type 0
StopsAt number ls = (cs : List Spoken) × (before : List (List ℕ)) × (bad : List ℕ) × (after : List (List ℕ))
    × (ls ≡ before ++ bad ∷ after) × AllZip Spells cs before × (number ≡ length before + 1) × ((c : Spoken) → Spells c bad → ⊥)

-- why a text with these lines is not read; memory is wanted for calls alone, so then the first line spells one
abbrev pub Stopped : Refusal → List (List ℕ) → Type 0
Stopped (NoCall line) ls = StopsAt line ls
Stopped Memory ls = (c : Spoken) × (first : List ℕ) × (after : List (List ℕ)) × (ls ≡ first ∷ after) × Spells c first
