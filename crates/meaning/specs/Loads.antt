-- What load makes of a recording's bytes: the first condition that holds, in the ruled order, else the meaning.
use Rattle.std.specs.Prelude.{ℕ, zero, suc, ◌+◌, Bool, cond, not, ◌&&◌, ◌||◌, ltb, List, [], ◌∷◌, length, drop, is_some, Some, None, Ok, Err, Option, Result, nat_lt}
use Rattle.std.specs.List.{range_with_len}
use Rattle.image.specs.Sectors.{Image}
use Rattle.tree.specs.declared.node.Node.{Node}
use Rattle.mark.specs.Found.{mark_of}
use Rattle.recording.specs.declared.refusal.Refusal.{Refusal}
use Rattle.recording.specs.Refusals.{code_of}
use Rattle.recording.specs.Items.{Item, flags_of}
use Rattle.recording.specs.Heads.{count_in}
use Rattle.recording.specs.Entries.{sector_in, sectors_in, bits_in, text_in, sector_cut, malformed, data_in, data_cut, item_in, rest_of}
use Rattle.recording.specs.Reading.{open_fault}
use Rattle.filesystem.specs.Outcomes.{Outcome, a_tree, a_fault}
use Rattle.crash.specs.States.{some_below, numbers, states}
use Rattle.law.specs.Subject.{Loading, takes, declines}
use Rattle.meaning.specs.Meanings.{writes_of, values_of, meaning_of}

-- AN ENTRY, at the front of x. It is a mark whose text no mark spells.
abbrev pub unmarked : List ℕ → Bool
unmarked x = (flags_of (bits_in x)).mark && not (is_some (mark_of (text_in x)))

-- it touches a sector outside an image of `count` sectors
abbrev pub outside_in : List ℕ → (count : ℕ) → Bool
outside_in x count = nat_lt 0 (sectors_in x) && nat_lt count (sector_in x + sectors_in x)

-- the entries behind one that is taken
abbrev pub onwards : Item → Result (List Item) (ℕ × ℕ) → Result (List Item) (ℕ × ℕ)
onwards e (Ok es) = Ok (e ∷ es)
onwards e (Err refusal) = Err refusal

-- so many entries from the front of x; the first is entry k, and those before it have `used` sectors of data
unfoldable pub entries_from : (left k used count : ℕ) → List ℕ → Result (List Item) (ℕ × ℕ)
entries_from zero k used count x = cond (nat_lt 0 (length x)) (Err (12, 0)) (Ok [])
entries_from (suc n) k used count x =
    cond (sector_cut x) (Err (7, k))
    (cond (malformed x) (Err (8, k))
    (cond (unmarked x) (Err (10, k))
    (cond (outside_in x count) (Err (9, k))
    (cond (nat_lt 96 (used + data_in x)) (Err (11, k))
    (cond (data_cut x) (Err (7, k))
    (onwards (item_in x) (entries_from n (k + 1) (used + data_in x) count (rest_of x))))))))

-- A POINT. A sector or a node has more than 8 candidates, before equal ones are left out.
abbrev pub crowded : (base : Image) → (tree : List Node) → List Item → (p : ℕ) → Bool
crowded base nodes items p =
    some_below (λ s. ltb 8 (length (numbers (writes_of base items) p s))) (length base)
    || some_below (λ n. ltb 8 (length (values_of nodes items p n))) 16

-- why a point is declined
abbrev pub point_fault : (base : Image) → (tree : List Node) → List Item → (p : ℕ) → Option (ℕ × ℕ)
point_fault base nodes items p =
    cond (crowded base nodes items p) (Some (13, p))
    (cond (nat_lt 1048576 (length (states (writes_of base items) p))) (Some (14, p)) None)

-- the first reason, if there is one, else the second
abbrev pub or_else : Option (ℕ × ℕ) → Option (ℕ × ℕ) → Option (ℕ × ℕ)
or_else (Some r) other = Some r
or_else None other = other

-- why the first of these points that is declined is
abbrev pub first_fault : (ℕ → Option (ℕ × ℕ)) → List ℕ → Option (ℕ × ℕ)
first_fault fault [] = None
first_fault fault (p ∷ ps) = or_else (fault p) (first_fault fault ps)

-- THE WHOLE, step by step.
abbrev pub by_points : Option (ℕ × ℕ) → Loading → Loading
by_points (Some r) loading = declines r.0 r.1
by_points None loading = loading

abbrev pub by_entries : (Image → Outcome) → (base : Image) → (tree : List Node) → Result (List Item) (ℕ × ℕ) → Loading
by_entries outcome base nodes (Err r) = declines r.0 r.1
by_entries outcome base nodes (Ok items) = by_points (first_fault (point_fault base nodes items) (range_with_len 0 (length items + 1))) (takes (meaning_of outcome base nodes items))

abbrev pub by_head : (Image → Outcome) → (base : Image) → (tree : List Node) → List ℕ → Option Refusal → Loading
by_head outcome base nodes bytes (Some f) = declines (code_of f).0 (code_of f).1
by_head outcome base nodes bytes None = by_entries outcome base nodes (entries_from (count_in bytes) 1 0 (length base) (drop 512 bytes))

abbrev pub by_base : (Image → Outcome) → (base : Image) → List ℕ → Outcome → Loading
by_base outcome base bytes (a_fault fault) = declines 4 0
by_base outcome base bytes (a_tree nodes) = by_head outcome base nodes bytes (open_fault bytes)

-- WHAT LOAD MAKES of the bytes of a recording, over a base, with a file system of which the least count and the outcome
-- are known: 3, 4, 5 and 6; then entry by entry; then point by point; else it is taken with its meaning.
unfoldable pub load_of : (least : ℕ) → (Image → Outcome) → (base : Image) → List ℕ → Loading
load_of least outcome base bytes = cond (nat_lt (length base) least) (declines 3 0) (by_base outcome base bytes (outcome base))
