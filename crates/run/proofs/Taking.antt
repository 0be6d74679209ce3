-- A load of an Empty run answers as the rules say.
use Rattle.std.proofs.Common.{◌≡◌, ℕ, ◌<◌, ◌≤◌, cond, List, length, Some, None, Ok, vec_items, Option, sym, refl, ap, ◌∙◌, arith}
use lib.ListN.{length-map}
use Rattle.std.proofs.lemmas.Bool.{lt-ltb, le-ltb}
use Rattle.image.specs.Sectors.{Image}
use Rattle.tree.specs.declared.node.Node.{Node}
use Rattle.tree.specs.declared.nodes.Tree.{Tree}
use Rattle.filesystem.specs.declared.fault.Fault.{Fault}
use Rattle.filesystem.specs.Outcomes.{Outcome, a_tree, a_fault}
use Rattle.trace.specs.declared.steps.Trace.{Trace}
use Rattle.trace.specs.Meaning.{effects_of}
use Rattle.law.specs.Subject.{Subject, Recording, takes, declines, meaning}
use Rattle.law.specs.History as H
use Rattle.law.specs.Rules.{refusal, of_recording}
use Rattle.law.specs.Steps.{View, Step}
use Rattle.meaning.specs.Loads.{load_of, by_base}
use Rattle.meaning.specs.Subjects.{subject_of}
use Rattle.meaning.proofs.Late.{late}
use Rattle.progress.specs.declared.condition.Condition.TheVariants.{Empty}
use Rattle.progress.specs.declared.condition.Progress.{Progress}
use Rattle.progress.specs.Moves.{loaded}
use Rattle.progress.specs.Views.{condition_of, first_of}
use Rattle.progress.specs.Bounds.{loaded_bounded}
use Rattle.taking.specs.Taking.{Taken, Declined}
use Rattle.run.specs.declared.space.Space.{Space}
use Rattle.run.specs.Events.{declining}
use Rattle.run.specs.Valid.{meaning_in, Valid, view_by}
use Rattle.run.proofs.Stepping.{stage_at}

-- a trace has an effect for each step
pub length_effects : (t : Trace) → length (vec_items t.steps) ≡ length (effects_of t)
unfolding effects_of
length_effects t = sym (simp length-map)

-- what is explored, with a recording in memory and its base's tree
abbrev pub with_recording : Space → Trace → Tree → Space
with_recording space t tree = record { trace = t; tree = tree; choice = space.choice; values = space.values }

module _ (least : ℕ) (outcome : Image → Outcome) (base state : Image) (space : Space) (p : Progress) (V : Valid outcome base state space p) (e : p.condition ≡ Empty) (bytes : List ℕ) where
  abbrev s : Subject
  s = subject_of least outcome base

  declines_step : (n place : ℕ) → load_of least outcome base bytes ≡ declines n place → Step s (view_by outcome base space p) (H.declined (H.load bytes) n place) (view_by outcome base space p)
  declines_step n place d = (ap (λ x. refusal s (condition_of x) (H.load bytes)) e ∙ ap of_recording d, refl)

  few : length base < least → load_of least outcome base bytes ≡ declines 3 0
  unfolding load_of
  few l = ap (λ b. cond b (declines 3 0) (by_base outcome base bytes (outcome base))) (lt-ltb (length base) least l)

  pub few_step : length base < least → Step s (view_by outcome base space p) (H.declined (H.load bytes) 3 0) (view_by outcome base space p)
  few_step l = declines_step 3 0 (few l)

  enough : least ≤ length base → (o : Outcome) → outcome base ≡ o → load_of least outcome base bytes ≡ by_base outcome base bytes o
  unfolding load_of
  enough l o h = ap (λ b. cond b (declines 3 0) (by_base outcome base bytes (outcome base))) (le-ltb (length base) least l) ∙ ap (by_base outcome base bytes) h

  pub fault_step : least ≤ length base → (fault : Fault) → outcome base ≡ a_fault fault → Step s (view_by outcome base space p) (H.declined (H.load bytes) 4 0) (view_by outcome base space p)
  fault_step l fault h = declines_step 4 0 (enough l (a_fault fault) h)

  pub code_step : least ≤ length base → (nodes : List Node) → outcome base ≡ a_tree nodes → (code : Option (ℕ × ℕ)) → Declined bytes base code → Step s (view_by outcome base space p) (declining (H.load bytes) code) (view_by outcome base space p)
  code_step l nodes h (Some c) d = declines_step c.0 c.1 (enough l (a_tree nodes) h ∙ d outcome nodes)
  code_step l nodes h None d = (ap condition_of e, late outcome base nodes least bytes (le-ltb (length base) least l) h d, refl)

  pub takes_step : least ≤ length base → (t : Trace) (tree : Tree) → outcome base ≡ a_tree tree.nodes → Taken bytes base (Ok t) → (n : ℕ) → n ≡ length (vec_items t.steps) →
      Valid outcome base state (with_recording space t tree) (loaded n p) × Step s (view_by outcome base space p) (H.loaded bytes) (view_by outcome base (with_recording space t tree) (loaded n p))
  takes_step l t tree h T n z =
      let start = stage_at least outcome base state space p Empty e V.stage in
      let q = start.0 in
      let few = T.1.few in
      let m : n ≡ length (effects_of t) = z ∙ length_effects t in
      let loads : load_of least outcome base bytes ≡ takes (meaning_in outcome base (with_recording space t tree)) = enough l (a_tree tree.nodes) h ∙ T.0 outcome tree.nodes in
      let F : Recording → View = λ R. record { base = base; recording = R; condition = H.Ready; standing = (p.point, p.rank); judged = p.judged; unsafe = p.unsafe_judged; forgone = p.forgone; passed = p.passed; first = first_of p.first } in (
        record { bounded = loaded_bounded p V.bounded n e (omega arith) (omega arith); noted = V.noted; stage = (q, record { fit = T.1; tree = h; last = m }) },
        (ap (λ x. refusal s (condition_of x) (H.load bytes)) e ∙ ap of_recording loads, ap F (sym (ap meaning loads))),
      )
