-- A load that declines behind the head's rules declines by a number above 6.
use Rattle.std.proofs.Common.{◌≡◌, ℕ, zero, suc, ◌+◌, ◌<◌, Bool, true, false, cond, ltb, List, [], ◌∷◌, length, drop, Some, None, Ok, Err, Option, Result, sym, refl, ap, ◌∙◌, subst, arith}
use Rattle.std.specs.List.{range_with_len}
use Rattle.image.specs.Sectors.{Image}
use Rattle.tree.specs.declared.node.Node.{Node}
use Rattle.recording.specs.Items.{Item}
use Rattle.recording.specs.Heads.{count_in}
use Rattle.recording.specs.Entries.{sector_cut, malformed, data_in, data_cut, item_in, rest_of}
use Rattle.recording.specs.Reading.{open_fault}
use Rattle.filesystem.specs.Outcomes.{Outcome, a_tree}
use Rattle.law.specs.Subject.{Recording, Loading, takes, declines}
use Rattle.law.specs.Rules.{Late}
use Rattle.meaning.specs.Meanings.{meaning_of}
use Rattle.meaning.specs.Loads.{unmarked, outside_in, onwards, entries_from, point_fault, first_fault, by_points, by_entries, by_head, by_base, load_of}
use Rattle.meaning.proofs.Pointing.{late_points}

-- no refusal, or one above 6
abbrev pub Above : Result (List Item) (ℕ × ℕ) → Type 0
Above (Ok es) = Unit {0}
Above (Err r) = 6 < r.0

either : (b : Bool) (n k : ℕ) (o : Result (List Item) (ℕ × ℕ)) → 6 < n → Above o → Above (cond b (Err (n, k)) o)
either true n k o l a = l
either false n k o l a = a

behind : (e : Item) (o : Result (List Item) (ℕ × ℕ)) → Above o → Above (onwards e o)
behind e (Ok es) a = tt
behind e (Err r) a = a

pub above : (n k used count : ℕ) (x : List ℕ) → Above (entries_from n k used count x)
unfolding entries_from
above zero k used count x = either (ltb 0 (length x)) 12 0 (Ok []) (omega arith) tt
above (suc n) k used count x =
    let a6 = onwards (item_in x) (entries_from n (k + 1) (used + data_in x) count (rest_of x)) in
    let a5 = cond (data_cut x) (Err (7, k)) a6 in
    let a4 = cond (ltb 96 (used + data_in x)) (Err (11, k)) a5 in
    let a3 = cond (outside_in x count) (Err (9, k)) a4 in
    let a2 = cond (unmarked x) (Err (10, k)) a3 in
    let a1 = cond (malformed x) (Err (8, k)) a2 in
    let i = above n (k + 1) (used + data_in x) count (rest_of x) in
    either (sector_cut x) 7 k a1 (omega arith)
    (either (malformed x) 8 k a2 (omega arith)
    (either (unmarked x) 10 k a3 (omega arith)
    (either (outside_in x count) 9 k a4 (omega arith)
    (either (ltb 96 (used + data_in x)) 11 k a5 (omega arith)
    (either (data_cut x) 7 k a6 (omega arith) (behind (item_in x) (entries_from n (k + 1) (used + data_in x) count (rest_of x)) i))))))

module _ (outcome : Image → Outcome) (base : Image) (nodes : List Node) where
  late_points_of : (o : Option (ℕ × ℕ)) (R : Recording) → ((r : ℕ × ℕ) → o ≡ Some r → 6 < r.0) → Late (by_points o (takes R))
  late_points_of None R h = tt
  late_points_of (Some r) R h = h r refl

  late_entries : (o : Result (List Item) (ℕ × ℕ)) → Above o → Late (by_entries outcome base nodes o)
  late_entries (Err r) a = a
  late_entries (Ok items) a =
      late_points_of (first_fault (point_fault base nodes items) (range_with_len 0 (length items + 1))) (meaning_of outcome base nodes items)
      (late_points base nodes items (range_with_len 0 (length items + 1)))

  -- where the base is large enough and recovers to a tree, and the head is taken
  pub late : (least : ℕ) (bytes : List ℕ) → ltb (length base) least ≡ false → outcome base ≡ a_tree nodes → open_fault bytes ≡ None → Late (load_of least outcome base bytes)
  unfolding load_of
  late least bytes l t o =
      let P : Loading → Type 0 = λ x. Late x in
      let e : load_of least outcome base bytes ≡ by_entries outcome base nodes (entries_from (count_in bytes) 1 0 (length base) (drop 512 bytes)) =
      ap (λ b. cond b (declines 3 0) (by_base outcome base bytes (outcome base))) l
      ∙ ap (by_base outcome base bytes) t
      ∙ ap (by_head outcome base nodes bytes) o in
      subst P (sym e) (late_entries (entries_from (count_in bytes) 1 0 (length base) (drop 512 bytes)) (above (count_in bytes) 1 0 (length base) (drop 512 bytes)))
