-- The candidates and the states, computed.
use Rattle.std.specs.Prelude.{ℕ, zero, suc, ◌+◌, Bool, false, not, ◌&&◌, ◌||◌, List, [], ◌∷◌, map, length, filter, ◌==◌, nat_le, nat_lt}
use Rattle.std.specs.List.{range_with_len, flat_map}
use Rattle.image.specs.Sectors.{Sector, Image}
use Rattle.crash.specs.Effects.{Effect}
use Rattle.crash.specs.Rules.{Recording, effect_at, written}
use Rattle.crash.specs.Lists.{distinct, firsts, choices}

-- some number below n passes
abbrev pub some_below : (ℕ → Bool) → ℕ → Bool
some_below test zero = false
some_below test (suc n) = test n || some_below test n

-- The rules' propositions as tests.
abbrev pub is_writer : Effect → ℕ → Bool
is_writer e s = nat_le e.first s && nat_lt s (e.first + length e.contents)

unfoldable pub is_durable : Recording → ℕ → ℕ → Bool
is_durable d p k = (nat_le k p && (effect_at d k).fua) || some_below (λ m. nat_lt k m && (effect_at d m).flush) (p + 1)

abbrev pub is_struck_out : Recording → ℕ → ℕ → ℕ → Bool
is_struck_out d p s j = some_below (λ k. nat_lt j k && (is_writer (effect_at d k) s && is_durable d p k)) (p + 1)

abbrev pub is_number : Recording → ℕ → ℕ → ℕ → Bool
is_number d p s j = j == 0 || (nat_le 1 j && (nat_le j p && is_writer (effect_at d j) s))

abbrev pub is_standing : Recording → ℕ → ℕ → ℕ → Bool
is_standing d p s j = is_number d p s j && not (is_struck_out d p s j)

-- GATHERING: the numbers of sector s that stand at p, in order.
unfoldable pub numbers : Recording → ℕ → ℕ → List ℕ
numbers d p s = filter (is_standing d p s) (range_with_len 0 (p + 1))

-- LEAVING OUT: candidates stand in order of their numbers; one whose bytes equal an earlier candidate is left out.
unfoldable pub candidates : Recording → ℕ → ℕ → List Sector
candidates d p s = distinct (map (written d s) (numbers d p s))

-- the numbers of these candidates
unfoldable pub candidate_numbers : Recording → ℕ → ℕ → List ℕ
candidate_numbers d p s = firsts (written d s) (numbers d p s)

-- the candidates of every sector, sector 0 first
unfoldable pub columns : Recording → ℕ → List (List Sector)
columns d p = map (candidates d p) (range_with_len 0 (length d.base))

-- the states permitted at p, in lexicographic order of candidate places, sector 0 first and slowest
unfoldable pub states : Recording → ℕ → List Image
states d p = choices (columns d p)

-- a state of the list: its rank counts from 0 within its point
pub record State : Type 0 where
  pub point : ℕ
  pub rank : ℕ
  pub image : Image

abbrev pub ranked : ℕ → ℕ → List Image → List State
ranked p r [] = []
ranked p r (x ∷ xs) = record { point = p; rank = r; image = x } ∷ ranked p (r + 1) xs

-- THE POINTS of the list: 0 to n. Other files know this name and its laws (ListIsTheStates in Laws).
unfoldable pub points : Recording → List ℕ
points d = range_with_len 0 (length d.effects + 1)

-- the points, each with its states
unfoldable pub list : Recording → List State
list d = flat_map (λ p. ranked p 0 (states d p)) (points d)
