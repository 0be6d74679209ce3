-- What is read and what is checked, joined.
use Rattle.std.proofs.Common.{◌≡◌, ℕ, ◌≤◌, List, map, length, drop, Some, None, Ok, Err, Option, Result, sym, ap, ◌∙◌, subst}
use Rattle.std.proofs.lemmas.List.{length-map}
use Rattle.image.specs.Sectors.{Image}
use Rattle.tree.specs.declared.node.Node.{Node}
use Rattle.mark.specs.declared.mark.Mark.{Mark}
use Rattle.recording.specs.declared.refusal.Refusal as R
use Rattle.recording.specs.Refusals as RC
use Rattle.recording.specs.Items.{Item}
use Rattle.recording.specs.Heads.{count_in}
use Rattle.recording.specs.Reading.{open_fault}
use Rattle.filesystem.specs.Outcomes.{Outcome}
use Rattle.crash.specs.Effects.{Effect, effect_of}
use Rattle.crash.specs.States.{candidates, states}
use Rattle.law.specs.Subject.{takes, declines}
use Rattle.trace.specs.declared.steps.Trace.{Trace}
use Rattle.trace.specs.Meaning.{effects_of, marks_of, recording_of, Whole}
use Rattle.meaning.specs.Judgements.{judgement}
use Rattle.meaning.specs.Meanings.{mark_in, writes_of, values_of, meaning_by, meaning_of}
use Rattle.meaning.specs.Loads.{by_points, by_entries, by_head}
use Rattle.loading.specs.declared.refusal.Refusal as L
use Rattle.loading.specs.declared.refusal.Refusal.TheVariants.{Recording, NoMark, Outside, TooMuchData, Memory}
use Rattle.loading.specs.Loading.{of_head, of_entries, entries_of, Loaded, Means}
use Rattle.candidates.specs.declared.refusal.Refusal as K
use Rattle.points.specs.Counting.{Checked}
use Rattle.taking.specs.declared.refusal.Refusal.TheVariants.{Reading, Points}
use Rattle.taking.specs.Taking.{Taken}
use Rattle.taking.proofs.Pointing.{reason, points_fault}
use Rattle.taking.proofs.Fitting.{few_told, entries_told, whole_entries}

-- DECLINED BY THE HEAD OR AN ENTRY.
module _ (outcome : Image → Outcome) (base : Image) (nodes : List Node) (bytes : List ℕ) (c : ℕ × ℕ) where
  by_entries_lem : (o : Result (List Item) (ℕ × ℕ)) → of_entries o ≡ Some c → by_entries outcome base nodes o ≡ declines c.0 c.1
  by_entries_lem (Ok items) e = cc
  by_entries_lem (Err r) e = let q : r ≡ c = cc in ap (λ x. declines x.0 x.1) q

  by_head_lem : (o : Option R.Refusal) → of_head o (of_entries (entries_of bytes (length base))) ≡ Some c → by_head outcome base nodes bytes o ≡ declines c.0 c.1
  by_head_lem (Some f) e = let q : RC.code_of f ≡ c = cc in ap (λ x. declines x.0 x.1) q
  by_head_lem None e = by_entries_lem (entries_of bytes (length base)) e

pub reading_declined : (bytes : List ℕ) (base : Image) (f : L.Refusal) → Loaded bytes (length base) (Err f) → Taken bytes base (Err (Reading f))
reading_declined bytes base (Recording f) h = λ outcome nodes. by_head_lem outcome base nodes bytes (RC.code_of f) (open_fault bytes) h
reading_declined bytes base (NoMark k) h = λ outcome nodes. by_head_lem outcome base nodes bytes (10, k) (open_fault bytes) h
reading_declined bytes base (Outside k) h = λ outcome nodes. by_head_lem outcome base nodes bytes (9, k) (open_fault bytes) h
reading_declined bytes base (TooMuchData k) h = λ outcome nodes. by_head_lem outcome base nodes bytes (11, k) (open_fault bytes) h
reading_declined bytes base Memory h = h

-- READ: what is left are the points.
module _ (bytes : List ℕ) (base : Image) (t : Trace) (read : Loaded bytes (length base) (Ok t)) where
  abbrev items : List Item
  items = read.0

  means : Means t items
  means = read.3

  checked_items : (r : Result (Unit {0}) K.Refusal) → Checked (recording_of base t) (marks_of t) r → Checked (record { base = base; effects = map effect_of items }) (map mark_in items) r
  checked_items r h =
      let P : List Effect → Type 0 = λ es. Checked (record { base = base; effects = es }) (marks_of t) r in
      let Q : List Mark → Type 0 = λ ms. Checked (record { base = base; effects = map effect_of items }) ms r in
      subst Q means.marks (subst P means.effects h)

  -- what is made of the bytes, by what the check of the points answers
  by_points_lem : (outcome : Image → Outcome) (nodes : List Node) (r : Result (Unit {0}) K.Refusal) → Checked (recording_of base t) (marks_of t) r →
      by_head outcome base nodes bytes (open_fault bytes) ≡ by_points (reason r) (takes (meaning_of outcome base nodes items))
  by_points_lem outcome nodes r h =
      ap (by_head outcome base nodes bytes) read.1
      ∙ ap (by_entries outcome base nodes) read.2
      ∙ ap (λ o. by_points o (takes (meaning_of outcome base nodes items))) (points_fault base nodes items r (checked_items r h))

  pub points_declined : (f : K.Refusal) → Checked (recording_of base t) (marks_of t) (Err f) → Taken bytes base (Err (Points f))
  points_declined f h = λ outcome nodes. by_points_lem outcome nodes (Err f) h

  -- there are as many effects as entries
  by_lists : (outcome : Image → Outcome) (nodes : List Node) → meaning_of outcome base nodes items ≡ meaning_by outcome base nodes (map effect_of items) (map mark_in items)
  by_lists outcome nodes =
      let d = writes_of base items in
      ap (λ n. record {
        last = n;
        candidates = candidates d;
        values = values_of nodes items;
        states = states d;
        judgement = λ p image. judgement (values_of nodes items p) (outcome image);
      }) (sym (length-map items effect_of))

  same_meaning : (outcome : Image → Outcome) (nodes : List Node) → meaning_of outcome base nodes items ≡ meaning_by outcome base nodes (effects_of t) (marks_of t)
  same_meaning outcome nodes =
      by_lists outcome nodes
      ∙ ap (λ es. meaning_by outcome base nodes es (map mark_in items)) (sym means.effects)
      ∙ ap (meaning_by outcome base nodes (effects_of t)) (sym means.marks)

  length_effects : length (effects_of t) ≡ length items
  length_effects = ap length means.effects ∙ length-map items effect_of

  length_marks : length (marks_of t) ≡ length items
  length_marks = ap length means.marks ∙ length-map items mark_in

  few_entries : length items ≤ 256
  few_entries =
      let a = entries_told (count_in bytes) 1 0 (length base) (drop 512 bytes) items read.2 in
      let b = few_told bytes read.1 in
      subst (λ (n : ℕ). n ≤ 256) (sym a) b

  pub points_taken : (u : Unit {0}) → Checked (recording_of base t) (marks_of t) (Ok u) → Taken bytes base (Ok t)
  points_taken u h = (
    (λ outcome nodes. by_points_lem outcome nodes (Ok u) h ∙ ap takes (same_meaning outcome nodes)),
    record {
      points = h;
      few = subst (λ (n : ℕ). n ≤ 256) (sym length_effects) few_entries;
      marks = length_marks ∙ sym length_effects;
      whole = subst Whole (sym means.effects) (whole_entries items);
    },
  )
