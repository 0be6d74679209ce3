-- Which entries load takes over a base, with a file system: the conditions, in the rules' words.
use Rattle.std.specs.Prelude.{◌≡◌, ℕ, ◌+◌, ◌/◌, ◌<◌, ◌≤◌, true, List, [], ◌∷◌, length, is_some}
use Rattle.std.specs.List.{AllByRecursion}
use Rattle.image.specs.Sectors.{Image}
use Rattle.tree.specs.declared.node.Node.{Node}
use Rattle.mark.specs.Found.{mark_of}
use Rattle.recording.specs.Items.{Item, write, discard, flush, mark, data_of}
use Rattle.recording.specs.Layout.{Within}
use Rattle.filesystem.specs.Outcomes.{Outcome, a_tree}
use Rattle.crash.specs.States.{numbers, states}
use Rattle.meaning.specs.Meanings.{writes_of, values_of}

-- if it is a mark, its text spells one
abbrev pub Spelled : Item → Type 0
Spelled (write sector fl fua meta content) = Unit {0}
Spelled (discard sector sectors fl meta) = Unit {0}
Spelled (flush sector fua dis meta) = Unit {0}
Spelled (mark text) = is_some (mark_of text) ≡ true

-- the sectors that it touches lie inside an image of `count` sectors
abbrev pub Inside : (count : ℕ) → Item → Type 0
Inside count (write sector fl fua meta content) = sector + length content / 512 ≤ count
Inside count (discard sector sectors fl meta) = sector + sectors ≤ count
Inside count (flush sector fua dis meta) = Unit {0}
Inside count (mark text) = Unit {0}

-- how many sectors of data the entries have
abbrev pub data_sectors : List Item → ℕ
data_sectors [] = 0
data_sectors (e ∷ es) = length (data_of e) / 512 + data_sectors es

-- each sector and each node has at most 8 candidates at p, equal ones counted, and p has at most 1048576 states
pub record PointFits (base : Image) (tree : List Node) (items : List Item) (p : ℕ) : Type 0 where
  pub sectors : (s : ℕ) → s < length base → length (numbers (writes_of base items) p s) ≤ 8
  pub nodes : (n : ℕ) → n < 16 → length (values_of tree items p n) ≤ 8
  pub few : length (states (writes_of base items) p) ≤ 1048576

-- THE ENTRIES ARE TAKEN: the base has at least as many sectors as the file system asks for and recovers to the tree; the
-- entries are within the rules of recordings, each mark is spelled, nothing outside the image is touched, and they have at
-- most 96 sectors of data; and every crash point is within the limits.
pub record Loadable (least : ℕ) (outcome : Image → Outcome) (base : Image) (tree : List Node) (items : List Item) : Type 0 where
  pub large : least ≤ length base
  pub recovers : outcome base ≡ a_tree tree
  pub within : Within items
  pub spelled : AllByRecursion Spelled items
  pub inside : AllByRecursion (Inside (length base)) items
  pub few : data_sectors items ≤ 96
  pub points : (p : ℕ) → p ≤ length items → PointFits base tree items p
