-- The subject of a run: a base, a file system's least count and outcome, and what load makes of recordings over them.
use Rattle.std.specs.Prelude.{◌≡◌, ℕ, ◌↔◌, List, map}
use Rattle.image.specs.Sectors.{Bytes, Image, Shaped}
use Rattle.tree.specs.declared.node.Node.{Node}
use Rattle.recording.specs.Items.{Item}
use Rattle.recording.specs.Layout.{layout, Within}
use Rattle.filesystem.specs.Outcomes.{Outcome}
use Rattle.crash.specs.Rules as C
use Rattle.crash.specs.Nodes as N
use Rattle.crash.specs.States as S
use Rattle.law.specs.Subject.{Subject, Recording, State, Permitted, Admitted, takes, image, list}
use Rattle.law.specs.History.{Report, loaded, gave, ended, found, reported, History, begun, then}
use Rattle.law.specs.Steps.{View, Reached}
use Rattle.meaning.specs.Meanings.{writes_of, marks_of, meaning_of}
use Rattle.meaning.specs.Loads.{load_of}
use Rattle.meaning.specs.Taken.{Loadable}
use Rattle.meaning.specs.Sounding.{load_sound}

abbrev pub subject_of : (least : ℕ) → (Image → Outcome) → (base : Image) → Subject
subject_of least outcome base = record {
  base = base;
  outcome = outcome;
  loads = load_of least outcome base;
  sound = λ bytes R e. load_sound outcome base bytes R least e;
}

-- a state of the rules' list, by its point and rank, with its image
abbrev pub stated : S.State → State × Image
stated x = ((x.point, x.rank), x.image)

-- a state of the law's list, with its image
abbrev pub imaged : Recording → State → State × Image
imaged R x = (x, image R x)

-- THE MEANING IS THE RULES'. Load takes exactly the layouts of entries that are loadable, and takes them with their meaning;
-- and over such a meaning, an image is permitted and a tree is admitted exactly as the rules of crash states say, and the
-- law's list is the rules', with the same images.
pub record MeaningIsTheRules : Type 0 where
  pub taken : (least : ℕ) (outcome : Image → Outcome) (base : Image) (bytes : List ℕ) (R : Recording) → Bytes bytes → load_of least outcome base bytes ≡ takes R
      → (tree : List Node) × (items : List Item) × Loadable least outcome base tree items × (bytes ≡ layout items) × (R ≡ meaning_of outcome base tree items)
  pub given : (least : ℕ) (outcome : Image → Outcome) (base : Image) (tree : List Node) (items : List Item) → Loadable least outcome base tree items
      → load_of least outcome base (layout items) ≡ takes (meaning_of outcome base tree items)
  pub permitted : (outcome : Image → Outcome) (base : Image) (nodes : List Node) (items : List Item) (p : ℕ) (image : Image) →
      Permitted base (meaning_of outcome base nodes items) p image ↔ C.Permitted (writes_of base items) p image
  pub admitted : (outcome : Image → Outcome) (base : Image) (nodes : List Node) (items : List Item) (p : ℕ) (tree : List Node) →
      Admitted (meaning_of outcome base nodes items) p tree ↔ N.Admitted nodes (marks_of items) p tree
  pub listed : (outcome : Image → Outcome) (base : Image) (nodes : List Node) (items : List Item) →
      map (imaged (meaning_of outcome base nodes items)) (list (meaning_of outcome base nodes items)) ≡ map stated (S.list (writes_of base items))

-- a run whose recording has these entries: loaded, one state given and judged with outcome 0, and ended
abbrev pub safe_run : List Item → History
safe_run items = then (then (then (then begun (loaded (layout items))) (gave (0, 0))) (found 0 0)) ended

-- SOME RECORDING IS SAFE: over a base of whole sectors, with entries within the rules, a run that gives a state is reported safe.
abbrev pub SomeRecordingIsSafe : Type 0
SomeRecordingIsSafe =
    (base : Image) × (outcome : Image → Outcome) × (items : List Item) × (v : View) × (r : Report)
    × Shaped base × Within items × Reached (subject_of 1 outcome base) (then (safe_run items) (reported r)) v × (r.verdict ≡ 2)
