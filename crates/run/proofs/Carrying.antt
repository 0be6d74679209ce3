-- What is shown of the parts of a run is so of equal parts.
use Rattle.std.proofs.Common.{◌≡◌, sym, subst}
use Rattle.image.specs.declared.overlay.Overlay.{Overlay}
use Rattle.image.specs.Sectors.{Image}
use Rattle.image.specs.Shown.{shown}
use Rattle.filesystem.specs.Outcomes.{Outcome}
use Rattle.law.specs.Subject.{Subject}
use Rattle.law.specs.History.{Event}
use Rattle.law.specs.Steps.{View, Step}
use Rattle.progress.specs.declared.condition.Progress.{Progress}
use Rattle.run.specs.declared.space.Space.{Space}
use Rattle.run.specs.Valid.{Valid, view_by}

module _ {S : Type 0} (sectors : S → Image) (outcome : Image → Outcome) (space : Space) {lower lower' : Overlay S} {p p' : Progress} (a : lower' ≡ lower) (b : p' ≡ p) where
  pub carry_valid : Valid outcome (sectors lower.below) (shown sectors lower) space p → Valid outcome (sectors lower'.below) (shown sectors lower') space p'
  carry_valid h =
      let P : Overlay S → Type 0 = λ x. Valid outcome (sectors x.below) (shown sectors x) space p' in
      let Q : Progress → Type 0 = λ x. Valid outcome (sectors lower.below) (shown sectors lower) space x in
      subst P (sym a) (subst Q (sym b) h)

  pub carry_step : (s : Subject) (v : View) (e : Event) → Step s v e (view_by outcome (sectors lower.below) space p) → Step s v e (view_by outcome (sectors lower'.below) space p')
  carry_step s v e h =
      let P : Overlay S → Type 0 = λ x. Step s v e (view_by outcome (sectors x.below) space p') in
      let Q : Progress → Type 0 = λ x. Step s v e (view_by outcome (sectors lower.below) space x) in
      subst P (sym a) (subst Q (sym b) h)
