-- What an entry leaves of the history of a key.
use Rattle.std.specs.Prelude.{◌≡◌, ℕ, ◌+◌, ◌<◌, Bool, cond, Option, Some, None, List, [], ◌∷◌}
use Rattle.crash.specs.Walk.{put, settle}
use Rattle.candidates.specs.declared.turns.Turn.{Turn}

-- a value is put; with FUA the history is settled before and after
abbrev pub written_by : {X : Type 0} → Bool → X → List X → List X
written_by fua x held = cond fua (settle (put (settle held) x)) (put held x)

-- a value may be put
abbrev pub added : {X : Type 0} → Option X → Bool → List X → List X
added None fua held = held
added (Some x) fua held = written_by fua x held

-- the history is settled first
abbrev pub turned : {X : Type 0} → Turn X → List X → List X
turned t held = added t.puts t.fua (cond t.settles (settle held) held)

-- The lists of the points follow each other by the turns that the entries up to p may have, from the first value alone.
pub record Follows {X : Type 0} (gives : ℕ → Turn X → Type 0) (start : X) (p : ℕ) (at : ℕ → List X) : Type 0 where
  pub first : at 0 ≡ start ∷ []
  pub next : (k : ℕ) (t : Turn X) → k < p → gives (k + 1) t → at (k + 1) ≡ turned t (at k)
