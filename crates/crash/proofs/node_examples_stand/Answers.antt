use Rattle.std.proofs.Common.{◌≡◌, refl, inl, inr, arith}
use Rattle.tree.specs.declared.node.Node.TheVariants.{Absent, Directory}
use Rattle.crash.specs.Nodes.{node_values}
use Rattle.crash.proofs.node_examples_stand.Goals as goal

pub returns : goal.returns
unfolding node_values
returns c =
    record {
      base = refl;
      a_file = refl;
      a_comment = refl;
      synced = refl;
      a_directory = refl;
      gone = refl;
      apart = refl;
      synced_gone = refl;
      before_its_mark = refl;
      its_mark = refl;
      its_sync = refl;
      never_named = refl;
      equal = refl;
      same = λ n l. inl refl;
      last_node = λ h. elim (h 15 (omega arith)) [ inl e ↦ (let q : Absent ≡ Directory 0 = e in cc) | inr none ↦ none ];
    }
