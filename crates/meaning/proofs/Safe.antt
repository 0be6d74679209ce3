-- A recording of no entries over one sector, searched whole, is safe.
use Rattle.std.proofs.Common.{◌≡◌, ℕ, zero, suc, ◌<◌, ◌≤◌, List, [], ◌∷◌, length, replicate, Some, None, get_or, sym, refl, ap, ◌∙◌, subst, arith}
use Rattle.image.specs.Sectors.{Bytes, Image}
use Rattle.image.specs.Fetched.{blank, blank_long, blank_bytes}
use Rattle.tree.specs.declared.node.Node.{Node}
use Rattle.tree.specs.declared.node.Node.TheVariants.{Absent}
use Rattle.recording.specs.Items.{Item}
use Rattle.recording.specs.Layout.{layout}
use Rattle.filesystem.specs.Outcomes.{Outcome, a_tree}
use Rattle.crash.specs.States.{numbers, candidates, columns, states}
use Rattle.crash.specs.Nodes.{node_values}
use Rattle.filesystem.specs.Least.{first_failing}
use Rattle.law.specs.Subject.{Recording, State, Loading, takes, Subject, count, image, meaning}
use Rattle.law.specs.Rules.{of_recording, none}
use Rattle.law.specs.Steps.{View, enter, following, fresh, on_load, on_giving, on_judge, on_end, report_on}
use Rattle.meaning.specs.Meanings.{writes_of, values_of, meaning_of}
use Rattle.meaning.specs.Loads.{load_of}
use Rattle.meaning.specs.Taken.{PointFits, Loadable}
use Rattle.meaning.specs.Subjects.{subject_of, SomeRecordingIsSafe}
use Rattle.meaning.proofs.Reading.{layout_given}

abbrev ground : Image
ground = blank ∷ []

whole : (k : ℕ) → k < 1 → length (get_or ground k []) ≡ 512
whole zero l = blank_long
whole (suc k) l = absurd (omega arith)

bytes : (k : ℕ) → k < 1 → Bytes (get_or ground k [])
bytes zero l = blank_bytes
bytes (suc k) l = absurd (omega arith)

abbrev tree : List Node
tree = replicate 16 Absent

abbrev bare : Image → Outcome
bare i = a_tree tree

abbrev items : List Item
items = []

abbrev R : Recording
R = meaning_of bare ground tree items

few_numbers : (s : ℕ) → s < 1 → length (numbers (writes_of ground items) 0 s) ≤ 8
unfolding numbers
few_numbers zero l = omega arith
few_numbers (suc s) l = absurd (omega arith)

one_state : length (states (writes_of ground items) 0) ≡ 1
unfolding states columns candidates numbers
one_state = refl

one_value : (n : ℕ) → length (values_of tree items 0 n) ≡ 1
unfolding node_values
one_value n = refl

fits : (p : ℕ) → p ≤ 0 → PointFits ground tree items p
fits zero l = record { sectors = few_numbers; nodes = λ n k. let e = one_value n in omega arith; few = let e = one_state in omega arith }
fits (suc p) l = absurd (omega arith)

loadable : Loadable 1 bare ground tree items
loadable = record { large = omega arith; recovers = refl; within = (omega arith, tt); spelled = tt; inside = tt; few = omega arith; points = fits }

abbrev s : Subject
s = subject_of 1 bare ground

taken : s.loads (layout items) ≡ takes R
taken = layout_given 1 bare ground tree items loadable

abbrev M : Recording
M = meaning (s.loads (layout items))

same : M ≡ R
same = ap meaning taken

fine : (0, 0) ≡ R.judgement 0 (image R (0, 0))
unfolding first_failing node_values
fine = refl

first : enter M.last 0 ≡ Some (0, 0)
first = ap (λ (x : Recording). enter x.last 0) same

last : following M.last (count M 0) (0, 0) ≡ None
last = ap (λ (x : Recording). following x.last (count x 0) (0, 0)) same ∙ ap (λ (n : ℕ). following 0 n (0, 0)) one_state

pub safe_recording : SomeRecordingIsSafe
safe_recording =
    let v₁ : View = on_load s (layout items) (fresh s) in
    let v₂ : View = on_giving (0, 0) v₁ in
    let v₃ : View = on_judge 0 v₂ in
    let v₄ : View = on_end v₃ in
    let judged : (0, 0) ≡ M.judgement 0 (image M (0, 0)) = fine ∙ ap (λ (x : Recording). x.judgement 0 (image x (0, 0))) (sym same) in (
      ground,
      bare,
      items,
      v₄,
      report_on v₄,
      record { few = omega arith; whole = whole; bytes = bytes },
      loadable.within,
      (v₄, (v₃, (v₂, (v₁, (fresh s, refl, (ap of_recording taken, refl)), (refl, first, refl)), (refl, judged, refl)), (refl, last, refl)), (refl, refl)),
      refl,
    )
