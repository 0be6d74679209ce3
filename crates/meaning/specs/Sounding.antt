-- What load takes hangs together: its states are the permitted images, and its judgements say what they stand for.
use Rattle.std.specs.Prelude.{◌≡◌, ℕ, ◌+◌, false, cond, List, [], length, drop, Some, None, Ok, Err, Option, Result, ◌≢◌, nat_lt, slice_index_or}
use Rattle.std.proofs.Math.Path.{refl}
use Rattle.std.proofs.Common.{sym, ap, subst, ◌∙◌}
use Rattle.std.proofs.Math.Logic.{inl, inr}
use Rattle.std.specs.List.{range_with_len}
use Rattle.std.proofs.lemmas.Bool.{cases_Bool}
use Rattle.image.specs.Sectors.{Image}
use Rattle.tree.specs.declared.node.Node.{Node}
use Rattle.recording.specs.declared.refusal.Refusal.{Refusal}
use Rattle.recording.specs.Refusals.{code_of}
use Rattle.recording.specs.Items.{Item}
use Rattle.recording.specs.Heads.{count_in}
use Rattle.recording.specs.Reading.{open_fault}
use Rattle.filesystem.specs.Outcomes.{Outcome, a_tree, a_fault}
use Rattle.crash.specs.Rules as C
use Rattle.crash.specs.States.{candidates, states}
use Rattle.crash.proofs.Stating.{in_states, states_in, states_some}
use Rattle.crash.proofs.Numbering.{in_candidates, candidates_in}
use Rattle.law.specs.Subject.{Recording, Permitted, Sound, takes, declines}
use Rattle.meaning.specs.Meanings.{writes_of, meaning_of}
use Rattle.meaning.specs.Loads.{entries_from, by_points, by_entries, by_head, by_base, load_of, first_fault, point_fault}
use Rattle.meaning.specs.Judging.{has_in, in_has, judges}

module _ (outcome : Image → Outcome) (base : Image) (nodes : List Node) (items : List Item) where
  abbrev d : C.Recording
  d = writes_of base items

  abbrev R : Recording
  R = meaning_of outcome base nodes items

  -- the law's word for a permitted image is the rules'
  pub permitted_rules : (p : ℕ) (image : Image) → Permitted base R p image → C.Permitted d p image
  permitted_rules p image h = (h.0, λ s l. in_candidates d p s (slice_index_or image s []) (in_has (candidates d p s) (slice_index_or image s []) (h.1 s l)))

  pub rules_permitted : (p : ℕ) (image : Image) → C.Permitted d p image → Permitted base R p image
  rules_permitted p image h = (h.0, λ s l. has_in (candidates d p s) (slice_index_or image s []) (candidates_in d p s (slice_index_or image s []) (h.1 s l)))

  pub meaning_sound : Sound base outcome R
  meaning_sound = record {
    exact = λ p l image. (
      (λ h. rules_permitted p image (in_states d p image (in_has (states d p) image h))),
      (λ h. has_in (states d p) image (states_in d p image (permitted_rules p image h))),
    );
    some = λ p l. states_some d p;
    judges = λ p l image. judges R p (outcome image);
  }

-- what is taken is the meaning of some entries, over the tree that the base recovers to, and nothing is found against them
pub record Takes (least : ℕ) (outcome : Image → Outcome) (base : Image) (bytes : List ℕ) (R : Recording) : Type 0 where
  pub nodes : List Node
  pub items : List Item
  pub large : nat_lt (length base) least ≡ false
  pub tree : outcome base ≡ a_tree nodes
  pub head : open_fault bytes ≡ None
  pub read : entries_from (count_in bytes) 1 0 (length base) (drop 512 bytes) ≡ Ok items
  pub points : first_fault (point_fault base nodes items) (range_with_len 0 (length items + 1)) ≡ None
  pub meaning : R ≡ meaning_of outcome base nodes items

never : (n p : ℕ) (R : Recording) → declines n p ≢ takes R
never n p R e = cc

module _ (least : ℕ) (outcome : Image → Outcome) (base : Image) (bytes : List ℕ) (R : Recording) (large : nat_lt (length base) least ≡ false) where
  from_points : (o : Option (ℕ × ℕ)) (S : Recording) → by_points o (takes S) ≡ takes R → (o ≡ None) × (R ≡ S)
  from_points (Some r) S e = absurd (never r.0 r.1 R e)
  from_points None S e = (refl, cc)

  from_entries : (nodes : List Node) → outcome base ≡ a_tree nodes → open_fault bytes ≡ None → (o : Result (List Item) (ℕ × ℕ))
      → entries_from (count_in bytes) 1 0 (length base) (drop 512 bytes) ≡ o → by_entries outcome base nodes o ≡ takes R → Takes least outcome base bytes R
  from_entries nodes t h (Err r) q e = absurd (never r.0 r.1 R e)
  from_entries nodes t h (Ok items) q e =
      let p = from_points (first_fault (point_fault base nodes items) (range_with_len 0 (length items + 1))) (meaning_of outcome base nodes items) e in
      record { nodes = nodes; items = items; large = large; tree = t; head = h; read = q; points = p.0; meaning = p.1 }

  from_head : (nodes : List Node) → outcome base ≡ a_tree nodes → (o : Option Refusal) → open_fault bytes ≡ o → by_head outcome base nodes bytes o ≡ takes R → Takes least outcome base bytes R
  from_head nodes t (Some f) h e = absurd (never (code_of f).0 (code_of f).1 R e)
  from_head nodes t None h e = from_entries nodes t h (entries_from (count_in bytes) 1 0 (length base) (drop 512 bytes)) refl e

  from_base : (o : Outcome) → outcome base ≡ o → by_base outcome base bytes o ≡ takes R → Takes least outcome base bytes R
  from_base (a_fault f) t e = absurd (never 4 0 R e)
  from_base (a_tree nodes) t e = from_head nodes t (open_fault bytes) refl e

module _ (outcome : Image → Outcome) (base : Image) (bytes : List ℕ) (R : Recording) (least : ℕ) where
  pub taken_means : load_of least outcome base bytes ≡ takes R → Takes least outcome base bytes R
  unfolding load_of
  taken_means e = elim (cases_Bool (nat_lt (length base) least)) [
    | inl t ↦ absurd (never 3 0 R (sym (ap (λ b. cond b (declines 3 0) (by_base outcome base bytes (outcome base))) t) ∙ e))
    | inr f ↦ from_base least outcome base bytes R f (outcome base) refl (sym (ap (λ b. cond b (declines 3 0) (by_base outcome base bytes (outcome base))) f) ∙ e)
  ]

  pub load_sound : load_of least outcome base bytes ≡ takes R → Sound base outcome R
  load_sound e =
      let t = taken_means e in
      let P : Recording → Type 0 = λ S. Sound base outcome S in
      subst P (sym t.meaning) (meaning_sound outcome base t.nodes t.items)
