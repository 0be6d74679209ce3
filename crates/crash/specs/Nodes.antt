-- Which values a node may have at a point, and which trees are admitted there.
-- Each entry has a mark; where it is none, the mark is a comment.
use Rattle.std.specs.Prelude.{◌≡◌, ℕ, zero, suc, ◌<◌, ◌≤◌, Bool, true, false, cond, ◌⊎◌, List, [], ◌∷◌, ◌==◌, slice_index_or}
use Rattle.tree.specs.declared.node.Node.{Node}
use Rattle.tree.specs.declared.node.Node.TheVariants.{Absent, Directory, File}
use Rattle.mark.specs.declared.mark.Mark.{Mark}
use Rattle.mark.specs.declared.mark.Mark.TheVariants.{File as file, Directory as directory, Absent as absent, Sync as sync, Comment as comment}
use Rattle.recording.specs.Items.{Item, write, discard, flush, mark}
use Rattle.mark.specs.Marks.{Spells}
use Rattle.crash.specs.Lists.{◌∈◌}
use Rattle.crash.specs.Walk.{put, settle}

-- the mark of an entry
abbrev pub Marked : Item → Mark → Type 0
Marked (write sector fl force meta content) m = m ≡ comment
Marked (discard sector sectors fl meta) m = m ≡ comment
Marked (flush sector force dis meta) m = m ≡ comment
Marked (mark text) m = Spells m text

-- the mark puts a value on node n: a file, a directory, or that it is absent
abbrev pub is_put : Mark → ℕ → Bool
is_put (file k parent size print) n = k == n
is_put (directory k parent) n = k == n
is_put (absent k) n = k == n
is_put (sync k) n = false
is_put comment n = false

-- the sync of node n has returned
abbrev pub is_sync : Mark → ℕ → Bool
is_sync (file k parent size print) n = false
is_sync (directory k parent) n = false
is_sync (absent k) n = false
is_sync (sync k) n = k == n
is_sync comment n = false

-- the value that a mark puts
abbrev pub value_of : Mark → Node
value_of (file k parent size print) = File parent size print
value_of (directory k parent) = Directory parent
value_of (absent k) = Absent
value_of (sync k) = Absent
value_of comment = Absent

-- the mark of entry k
abbrev pub mark_at : List Mark → ℕ → Mark
mark_at marks zero = comment
mark_at marks (suc i) = slice_index_or marks i comment

-- what a mark leaves of the history of node n: a sync settles it, and f, d and x put a value
abbrev pub node_turn : Mark → ℕ → List Node → List Node
node_turn m n held = cond (is_sync m n) (settle held) (cond (is_put m n) (put held (value_of m)) held)

-- The candidates of node n at p: its history starts with its value in the tree recovered from the base, and goes on by the
-- marks among entries 1 to p.
unfoldable pub node_values : (start : Node) → List Mark → (n p : ℕ) → List Node
node_values start marks n zero = start ∷ []
node_values start marks n (suc p) = node_turn (mark_at marks (suc p)) n (node_values start marks n p)

-- the value of node n is one of its candidates at p
abbrev pub NodeAdmitted : (start : Node) → List Mark → (n p : ℕ) → Node → Type 0
NodeAdmitted start marks n p value = value ∈ node_values start marks n p

-- A tree is admitted at p if every node's value is one of its candidates; `base` is the tree recovered from the base.
abbrev pub Admitted : (base : List Node) → List Mark → (p : ℕ) → (tree : List Node) → Type 0
Admitted base marks p tree = (n : ℕ) → n < 16 → NodeAdmitted (slice_index_or base n Absent) marks n p (slice_index_or tree n Absent)

-- The same without a history. The values of node n are numbered: 0 in the base, and j that of the mark of entry j.
abbrev pub HasValue : List Mark → (n p j : ℕ) → Type 0
HasValue marks n p j = (j ≡ 0) ⊎ ((1 ≤ j) × (j ≤ p) × (is_put (mark_at marks j) n ≡ true))

-- a sync of the node has returned after entry k
abbrev pub Synced : List Mark → (n p k : ℕ) → Type 0
Synced marks n p k = (m : ℕ) × (k < m) × (m ≤ p) × (is_sync (mark_at marks m) n ≡ true)

-- value j is struck out if a later one k > j was put and has been synced
abbrev pub Overtaken : List Mark → (n p j : ℕ) → Type 0
Overtaken marks n p j = (k : ℕ) × (j < k) × (is_put (mark_at marks k) n ≡ true) × Synced marks n p k

abbrev pub ValueStands : List Mark → (n p j : ℕ) → Type 0
ValueStands marks n p j = HasValue marks n p j × (Overtaken marks n p j → ⊥)

-- value j
abbrev pub numbered : (start : Node) → List Mark → ℕ → Node
numbered start marks zero = start
numbered start marks (suc i) = value_of (mark_at marks (suc i))
