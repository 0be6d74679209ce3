-- What a recording means over a base, from which a tree is recovered.
use Rattle.std.specs.Prelude.{ℕ, List, map, length, slice_index_or}
use Rattle.std.specs.Option.{unwrap_or}
use Rattle.image.specs.Sectors.{Image}
use Rattle.tree.specs.declared.node.Node.{Node}
use Rattle.tree.specs.declared.node.Node.TheVariants.{Absent}
use Rattle.mark.specs.declared.mark.Mark.{Mark}
use Rattle.mark.specs.declared.mark.Mark.TheVariants.{Comment}
use Rattle.mark.specs.Found.{mark_of}
use Rattle.recording.specs.Items.{Item, write, discard, flush, mark}
use Rattle.filesystem.specs.Outcomes.{Outcome}
use Rattle.crash.specs.Effects.{Effect, effect_of}
use Rattle.crash.specs.Rules as C
use Rattle.crash.specs.States.{candidates, states}
use Rattle.crash.specs.Nodes.{node_values}
use Rattle.law.specs.Subject.{Recording}
use Rattle.meaning.specs.Judgements.{judgement}

-- the mark of an entry; an entry that is none has no more say than a comment
abbrev pub mark_in : Item → Mark
mark_in (write sector fl force meta content) = Comment
mark_in (discard sector sectors fl meta) = Comment
mark_in (flush sector force dis meta) = Comment
mark_in (mark text) = unwrap_or (mark_of text) Comment

abbrev pub marks_of : List Item → List Mark
marks_of items = map mark_in items

-- the writes of the entries over the base
abbrev pub writes_of : Image → List Item → C.Recording
writes_of base items = record { base = base; effects = map effect_of items }

-- the values that node n may have at p, if `tree` is recovered from the base
abbrev pub values_of : (tree : List Node) → List Item → (p n : ℕ) → List Node
values_of nodes items p n = node_values (slice_index_or nodes n Absent) (marks_of items) n p

-- THE MEANING of entries: crash points 0 to n; the candidates of sectors and of nodes, the states and the judgement of each
abbrev pub meaning_of : (outcome : Image → Outcome) → (base : Image) → (tree : List Node) → List Item → Recording
meaning_of outcome base nodes items = record {
  last = length items;
  candidates = candidates (writes_of base items);
  values = values_of nodes items;
  states = states (writes_of base items);
  judgement = λ p image. judgement (values_of nodes items p) (outcome image);
}

-- the same, by the effects and the marks of the entries
abbrev pub meaning_by : (outcome : Image → Outcome) → (base : Image) → (tree : List Node) → List Effect → List Mark → Recording
meaning_by outcome base nodes effects marks = record {
  last = length effects;
  candidates = candidates (record { base = base; effects = effects });
  values = λ p n. node_values (slice_index_or nodes n Absent) marks n p;
  states = states (record { base = base; effects = effects });
  judgement = λ p image. judgement (λ n. node_values (slice_index_or nodes n Absent) marks n p) (outcome image);
}
