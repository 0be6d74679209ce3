-- The mark found is the one that spells the text.
use Rattle.std.proofs.Common.{ap, ◌∙◌}
use Rattle.std.specs.Option.{ok_or}
use Rattle.mark.specs.declared.refusal.Refusal.TheVariants.{NoMark}
use Rattle.mark.proofs.Finding.{the_mark, is_found}
use Rattle.mark.proofs.reader.read_mark.Goals as goal

pub returns-clause-only : goal.returns-clause-only
returns-clause-only c m s = c.ok_or.ensures.value ∙ ap (λ o. ok_or o NoMark) (is_found _ _ c.find.ensures ∙ (the_mark _ m).1 s)

pub returns-clause-value : goal.returns-clause-value
returns-clause-value c = c.ok_or.ensures.value ∙ ap (λ o. ok_or o NoMark) (is_found _ _ c.find.ensures)
