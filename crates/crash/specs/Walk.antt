-- What the history of a sector holds, entry by entry, oldest first.
use Rattle.std.specs.Prelude.{ℕ, zero, suc, ◌-◌, cond, List, [], ◌∷◌, ◌++◌, length, drop}
use Rattle.crash.specs.Effects.{Effect}
use Rattle.crash.specs.Rules.{Recording, effect_at}
use Rattle.crash.specs.States.{is_writer}

abbrev pub put : {X : Type 0} → List X → X → List X
put held x = held ++ x ∷ []

-- the newest alone is kept
abbrev pub settle : {X : Type 0} → List X → List X
settle held = drop (length held - 1) held

-- What an entry leaves of the history of sector s; x is what it writes there.
-- A flush settles. Then a write with FUA settles, puts and settles, and any other write puts.
abbrev pub turn : {X : Type 0} → Effect → ℕ → X → List X → List X
turn e s x held =
    let held' = cond e.flush (settle held) held in
    cond (is_writer e s) (cond e.fua (settle (put (settle held') x)) (put held' x)) held'

-- the history of sector s after entry p, each value by a function of its number
unfoldable pub walk : {X : Type 0} → Recording → ℕ → (ℕ → X) → ℕ → List X
walk d s value zero = value 0 ∷ []
walk d s value (suc p) = turn (effect_at d (suc p)) s (value (suc p)) (walk d s value p)
