-- Neither load is taken.
use Rattle.std.proofs.Common.{◌≡◌, ℕ, length, ap, ◌∙◌, subst}
use Rattle.filesystem.specs.declared.fault.Fault.TheVariants.{Other}
use Rattle.law.specs.History as H
use Rattle.law.specs.Steps.{View}
use Rattle.run.specs.Seen.{base_of, subject, view}
use Rattle.foreign.specs.Declined.{NoBase}
use Rattle.foreign.proofs.NotLoaded.{never_loads, not_loaded}
use Rattle.foreign.proofs.twice.load_twice.Goals as goal

pub returns-clause-first : goal.returns-clause-first
returns-clause-first g c =
    let sectors = g.S.ImageStore.sectors in
    let run = c.begin-run.result in
    let empty : (view run).condition ≡ H.Empty = ap (λ (v : View). v.condition) c.begin-run.ensures.led.1 in
    let N = not_loaded (subject run) (view run) (view c.load-first.new.self) c.args.recording.now (length (base_of run)) (never_loads (Other run.fs.number 0) (base_of run) c.args.recording.now) empty c.load-first.result c.load-first.ensures.goes in
    let P : ℕ → Type 0 = λ n. NoBase n c.load-first.result in
    subst P (ap (λ x. length (sectors x)) c.begin-run.ensures.store) N.0

pub returns-clause-second : goal.returns-clause-second
returns-clause-second g c =
    let sectors = g.S.ImageStore.sectors in
    let start = c.begin-run.result in
    let run = c.load-first.new.self in
    let empty : (view start).condition ≡ H.Empty = ap (λ (v : View). v.condition) c.begin-run.ensures.led.1 in
    let M = not_loaded (subject start) (view start) (view run) c.args.recording.now (length (base_of start)) (never_loads (Other start.fs.number 0) (base_of start) c.args.recording.now) empty c.load-first.result c.load-first.ensures.goes in
    let still : (view run).condition ≡ H.Empty = ap (λ (v : View). v.condition) M.1 ∙ empty in
    let N = not_loaded (subject run) (view run) (view c.load-second.new.self) c.args.recording.now (length (base_of run)) (never_loads (Other run.fs.number 0) (base_of run) c.args.recording.now) still c.load-second.result c.load-second.ensures.goes in
    let P : ℕ → Type 0 = λ n. NoBase n c.load-second.result in
    subst P (ap (λ x. length (sectors x)) (c.load-first.ensures.kept.0 ∙ c.begin-run.ensures.store)) N.0
