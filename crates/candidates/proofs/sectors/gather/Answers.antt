use Rattle.std.proofs.Common.{◌≡◌, ◌+◌, sym, ◌∙◌, rules}
use Rattle.crash.specs.Rules.{effect_at}
use Rattle.crash.specs.States.{numbers}
use Rattle.crash.specs.Walk.{turn}
use Rattle.trace.specs.Meaning.{recording_of}
use Rattle.candidates.specs.Turns.{turned}
use Rattle.candidates.proofs.Walking.{numbers_start, numbers_more}
use Rattle.candidates.proofs.sectors.gather.Goals as goal

pub returns : goal.returns
returns c = λ base.
    let d = recording_of base c.args.trace.now in
    let s = c.args.sector in
    c.walk.ensures (λ q. numbers d q s) (record {
      first = numbers_start base c.args.trace.now s;
      next = λ k t low post. let e : turned t (numbers d k s) ≡ turn (effect_at d (k + 1)) s (k + 1) (numbers d k s) = search rules in numbers_more base c.args.trace.now s k ∙ sym e;
    })
