-- Small recordings, on nine sectors of 512 bytes. A, B, the base's content and zeros are four different contents.
use Rattle.std.specs.Prelude.{◌≡◌, ℕ, true, false, List, [], ◌∷◌, map, length, replicate, slice_index_or}
use Rattle.image.specs.Sectors.{Sector, Image}
use Rattle.recording.specs.Items.{Item, write, discard, flush}
use Rattle.tree.specs.Prints.{print_of}
use Rattle.crash.specs.Effects.{effect_of, zeros}
use Rattle.crash.specs.Rules.{Recording}
use Rattle.crash.specs.States.{states, list}

-- a sector full of one byte
abbrev pub full : ℕ → Sector
full n = replicate 512 n

abbrev pub old : Sector
old = full 3

-- A is full of 1, and B of 2
abbrev pub a : Sector
a = full 1

abbrev pub b : Sector
b = full 2

-- a write of one sector: without flags, with flush, with FUA
abbrev pub plain : ℕ → Sector → Item
plain s x = write s false false false x

abbrev pub flushed : ℕ → Sector → Item
flushed s x = write s true false false x

abbrev pub forced : ℕ → Sector → Item
forced s x = write s false true false x

-- a discard of n sectors, and a flush without sectors
abbrev pub zeroed : ℕ → ℕ → Item
zeroed s n = discard s n false false

abbrev pub bare_flush : Item
bare_flush = flush 0 false false false

abbrev pub over : List Item → Recording
over items = record { base = replicate 9 old; effects = map effect_of items }

-- how many states there are at a point
abbrev pub count : List Item → ℕ → ℕ
count items p = length (states (over items) p)

-- the base with other contents of sectors 5 and 6
abbrev pub holding : Sector → Sector → Image
holding x y = old ∷ old ∷ old ∷ old ∷ old ∷ x ∷ y ∷ old ∷ old ∷ []

-- For each small recording how many states there are, and which, in order of rank.
pub record Examples : Type 0 where
  pub two_to_one : count (plain 5 a ∷ plain 5 b ∷ []) 2 ≡ 3
  pub two_to_one_are : states (over (plain 5 a ∷ plain 5 b ∷ [])) 2 ≡ (holding old old ∷ holding a old ∷ holding b old ∷ [])
  pub one_to_each : count (plain 5 a ∷ plain 6 b ∷ []) 2 ≡ 4
  pub one_to_each_are : states (over (plain 5 a ∷ plain 6 b ∷ [])) 2 ≡ (holding old old ∷ holding old b ∷ holding a old ∷ holding a b ∷ [])
  -- 5 is old and 6 is new
  pub rank_one : slice_index_or (states (over (plain 5 a ∷ plain 6 b ∷ [])) 2) 1 [] ≡ holding old b
  -- 5 is new, 6 is old or new
  pub flush_with_data : count (plain 5 a ∷ flushed 6 b ∷ []) 2 ≡ 2
  pub flush_with_data_are : states (over (plain 5 a ∷ flushed 6 b ∷ [])) 2 ≡ (holding a old ∷ holding a b ∷ [])
  -- 5 is old or new, 6 is new
  pub fua_elsewhere : count (plain 5 a ∷ forced 6 b ∷ []) 2 ≡ 2
  pub fua_elsewhere_are : states (over (plain 5 a ∷ forced 6 b ∷ [])) 2 ≡ (holding old b ∷ holding a b ∷ [])
  pub fua_over : count (plain 5 a ∷ forced 5 b ∷ []) 2 ≡ 1
  pub fua_over_is : states (over (plain 5 a ∷ forced 5 b ∷ [])) 2 ≡ (holding b old ∷ [])
  pub same_as_base : count (plain 5 old ∷ []) 1 ≡ 1
  pub same_as_base_is : states (over (plain 5 old ∷ [])) 1 ≡ (holding old old ∷ [])
  pub there_and_back : count (plain 5 a ∷ plain 5 b ∷ plain 5 a ∷ []) 3 ≡ 3
  pub there_and_back_are : states (over (plain 5 a ∷ plain 5 b ∷ plain 5 a ∷ [])) 3 ≡ (holding old old ∷ holding a old ∷ holding b old ∷ [])
  pub no_entries : length (list (over [])) ≡ 1
  pub no_entries_is : list (over []) ≡ (record { point = 0; rank = 0; image = holding old old } ∷ [])
  -- equal contents are left out of the candidates, and not of what is struck out
  pub back_to_base : states (over (plain 5 a ∷ plain 5 old ∷ bare_flush ∷ [])) 3 ≡ (replicate 9 old ∷ [])
  pub discarded : count (plain 5 a ∷ zeroed 5 1 ∷ []) 2 ≡ 3
  pub discarded_are : states (over (plain 5 a ∷ zeroed 5 1 ∷ [])) 2 ≡ (holding old old ∷ holding a old ∷ holding zeros old ∷ [])
  pub whole_list : length (list (over (plain 5 a ∷ plain 5 b ∷ []))) ≡ 6
  pub print : print_of (1 ∷ 2 ∷ []) ≡ 34
