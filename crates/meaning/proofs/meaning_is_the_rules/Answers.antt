-- The words of the law are those of the rules.
use Rattle.std.proofs.Common.{get_or}
use Rattle.tree.specs.declared.node.Node.TheVariants.{Absent}
use Rattle.meaning.specs.Meanings.{values_of}
use Rattle.meaning.specs.Judging.{has_in, in_has}
use Rattle.meaning.specs.Sounding.{permitted_rules, rules_permitted, taken_means}
use Rattle.meaning.proofs.Reading.{layout_taken, layout_given}
use Rattle.meaning.proofs.Listing.{lists}
use Rattle.meaning.proofs.meaning_is_the_rules.Goals as goal

pub returns : goal.returns
returns c = record {
  taken = λ least outcome base bytes R bs e. layout_taken least outcome base bytes R bs (taken_means outcome base bytes R least e);
  given = layout_given;
  permitted = λ outcome base nodes items p image. (permitted_rules outcome base nodes items p image, rules_permitted outcome base nodes items p image);
  admitted = λ outcome base nodes items p tree. (
    (λ h n l. in_has (values_of nodes items p n) (get_or tree n Absent) (h n l)),
    (λ h n l. has_in (values_of nodes items p n) (get_or tree n Absent) (h n l)),
  );
  listed = lists;
}
