-- A load of an Empty run: the pile shows the base, so recovery tells what the base recovers to.
use Rattle.std.proofs.Common.{◌≡◌, ◌<◌, ◌≤◌, length, Ok, sym, refl, ap, ◌∙◌, subst, arith}
use Rattle.std.proofs.lemmas.Result.{err_from_is_err_and}
use Rattle.image.specs.declared.store.ImageStore.{Ghosts as StoreMeaning}
use Rattle.image.specs.declared.overlay.Overlay.{Overlay}
use Rattle.image.specs.Shown.{shown}
use Rattle.filesystem.specs.declared.system.FileSystem.{Ghosts as SystemMeaning}
use Rattle.filesystem.specs.Outcomes.{a_tree, a_fault}
use Rattle.law.specs.History as H
use Rattle.progress.specs.Moves.{loaded}
use Rattle.progress.specs.declared.condition.Condition.TheVariants.{Empty}
use Rattle.taking.specs.Taking as T
use Rattle.run.specs.declared.run.Run.{Run}
use Rattle.run.specs.Events.{declining}
use Rattle.run.specs.Seen.{base_of, subject, view}
use Rattle.run.proofs.Clean.{shown_clean, length_pile}
use Rattle.run.proofs.Carrying.{carry_valid, carry_step}
use Rattle.run.proofs.Stepping.{stage_at}
use Rattle.run.proofs.Taking.{few_step, fault_step, code_step, with_recording, takes_step}
use Rattle.run.proofs.run.Run.take_up.Goals as goal

-- the pile of an Empty run shows its base
pile_is : {S F : Type 0} {store : StoreMeaning S} {system : SystemMeaning F} (run : Run S F store system) → run.progress.condition ≡ Empty → shown (shown store.sectors) run.layers ≡ base_of run
pile_is {store = store} {system = system} run e =
    shown_clean (shown store.sectors) run.layers run.clean
    ∙ (stage_at 0 (system.outcome run.fs) (base_of run) (shown store.sectors run.layers.below) run.space run.progress Empty e run.valid.stage).1

pub returns-then-count-LEAST-clause-goes : goal.returns-then-count-LEAST-clause-goes
returns-then-count-LEAST-clause-goes g c =
    let run = c.args.self.now in
    let sectors = g.S.ImageStore.sectors in
    let few : length (base_of run) < g.F.FileSystem.LEAST = omega (arith, c.count.ensures.number, length_pile sectors run.layers, c.LEAST.ensures, c.if-count-LEAST.true) in
    few_step g.F.FileSystem.LEAST (g.F.FileSystem.outcome run.fs) (base_of run) (shown sectors run.layers.below) run.space run.progress run.valid c.requires c.args.recording.now few

pub returns-in_err-tree-clause-goes : goal.returns-in_err-tree-clause-goes
returns-in_err-tree-clause-goes g c =
    let run = c.args.self.now in
    let sectors = g.S.ImageStore.sectors in
    let outcome = g.F.FileSystem.outcome run.fs in
    let least = g.F.FileSystem.LEAST in
    let enough : least ≤ length (base_of run) = omega (arith, c.count.ensures.number, length_pile sectors run.layers, c.LEAST.ensures, c.if-count-LEAST.false) in
    let told : outcome (base_of run) ≡ a_fault c.in_err-tree.field-0.0 = ap outcome (sym (pile_is run c.requires)) ∙ c.in_err-tree.ensures.told in
    let q = err_from_is_err_and c.from_residual.result c.from_residual.ensures.1 in
    rw (q.1, q.2) (carry_step sectors outcome run.space c.recovered_tree.ensures.below (refl {a = run.progress}) (subject run) (view run) (H.declined (H.load c.args.recording.now) 4 0) (fault_step least outcome (base_of run) (shown sectors run.layers.below) run.space run.progress run.valid c.requires c.args.recording.now enough c.in_err-tree.field-0.0 told))

pub returns-in_err-tree-clause-fault : goal.returns-in_err-tree-clause-fault
returns-in_err-tree-clause-fault g c =
    let run = c.args.self.now in
    let outcome = g.F.FileSystem.outcome run.fs in
    let told : outcome (base_of run) ≡ a_fault c.in_err-tree.field-0.0 = ap outcome (sym (pile_is run c.requires)) ∙ c.in_err-tree.ensures.told in
    let q = err_from_is_err_and c.from_residual.result c.from_residual.ensures.1 in
    rw (q.1, q.2) told

pub returns-in_err-trace-clause-goes : goal.returns-in_err-trace-clause-goes
returns-in_err-trace-clause-goes g c =
    let run = c.args.self.now in
    let sectors = g.S.ImageStore.sectors in
    let outcome = g.F.FileSystem.outcome run.fs in
    let least = g.F.FileSystem.LEAST in
    let enough : least ≤ length (base_of run) = omega (arith, c.count.ensures.number, length_pile sectors run.layers, c.LEAST.ensures, c.if-count-LEAST.false) in
    let told : outcome (base_of run) ≡ a_tree c.in_ok-tree.tree.nodes = ap outcome (sym (pile_is run c.requires)) ∙ c.in_ok-tree.ensures.told in
    let code = T.code_of c.in_err-trace.field-0.0 in
    let P : Overlay g.row.S.Denot → Type 0 = λ x. T.Declined c.args.recording.now (sectors x.below) code in
    let refused : T.Declined c.args.recording.now (base_of run) code = subst P c.recovered_tree.ensures.below c.in_err-trace.ensures in
    let q = err_from_is_err_and c.from_residual-in_err-trace.result c.from_residual-in_err-trace.ensures.1 in
    rw (q.1, q.2) (carry_step sectors outcome run.space c.recovered_tree.ensures.below (refl {a = run.progress}) (subject run) (view run) (declining (H.load c.args.recording.now) code) (code_step least outcome (base_of run) (shown sectors run.layers.below) run.space run.progress run.valid c.requires c.args.recording.now enough c.in_ok-tree.tree.nodes told code refused))

pub invariant_of-self-2 : goal.invariant_of-self-2
invariant_of-self-2 g c =
    let run = c.args.self.now in
    let sectors = g.S.ImageStore.sectors in
    let outcome = g.F.FileSystem.outcome run.fs in
    let least = g.F.FileSystem.LEAST in
    let enough : least ≤ length (base_of run) = omega (arith, c.count.ensures.number, length_pile sectors run.layers, c.LEAST.ensures, c.if-count-LEAST.false) in
    let told : outcome (base_of run) ≡ a_tree c.in_ok-tree.tree.nodes = ap outcome (sym (pile_is run c.requires)) ∙ c.in_ok-tree.ensures.told in
    let t = c.in_ok-trace.trace in
    let P : Overlay g.row.S.Denot → Type 0 = λ x. T.Taken c.args.recording.now (sectors x.below) (Ok t) in
    let taken : T.Taken c.args.recording.now (base_of run) (Ok t) = subst P c.recovered_tree.ensures.below c.in_ok-trace.ensures in
    record {
      valid = carry_valid sectors outcome (with_recording run.space t c.in_ok-tree.tree) c.recovered_tree.ensures.below c.load.ensures (takes_step least outcome (base_of run) (shown sectors run.layers.below) run.space run.progress run.valid c.requires c.args.recording.now enough t c.in_ok-tree.tree told taken c.len.result c.len.ensures).0;
      clean = c.recovered_tree.ensures.none;
    }

pub returns-clause-goes : goal.returns-clause-goes
returns-clause-goes g c =
    let run = c.args.self.now in
    let sectors = g.S.ImageStore.sectors in
    let outcome = g.F.FileSystem.outcome run.fs in
    let least = g.F.FileSystem.LEAST in
    let enough : least ≤ length (base_of run) = omega (arith, c.count.ensures.number, length_pile sectors run.layers, c.LEAST.ensures, c.if-count-LEAST.false) in
    let told : outcome (base_of run) ≡ a_tree c.in_ok-tree.tree.nodes = ap outcome (sym (pile_is run c.requires)) ∙ c.in_ok-tree.ensures.told in
    let t = c.in_ok-trace.trace in
    let P : Overlay g.row.S.Denot → Type 0 = λ x. T.Taken c.args.recording.now (sectors x.below) (Ok t) in
    let taken : T.Taken c.args.recording.now (base_of run) (Ok t) = subst P c.recovered_tree.ensures.below c.in_ok-trace.ensures in
    carry_step sectors outcome (with_recording run.space t c.in_ok-tree.tree) c.recovered_tree.ensures.below c.load.ensures (subject run) (view run) (H.loaded c.args.recording.now) (takes_step least outcome (base_of run) (shown sectors run.layers.below) run.space run.progress run.valid c.requires c.args.recording.now enough t c.in_ok-tree.tree told taken c.len.result c.len.ensures).1
