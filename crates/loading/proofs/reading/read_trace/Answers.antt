-- From entry to entry the trace means what was read.
use Rattle.std.proofs.Common.{[], ◌∷◌, ◌++◌, Ok, Option, subst, arith}
use Rattle.mark.specs.declared.mark.Mark.{Mark}
use Rattle.recording.specs.declared.entry.Entry.{Entry}
use Rattle.recording.specs.Reading.{item_seen}
use Rattle.loading.specs.Loading.{NextRead}
use Rattle.loading.proofs.Gathering.{started, went}
use Rattle.loading.proofs.reading.read_trace.Goals as goal

pub loop-trace-init : goal.loop-trace-init
loop-trace-init g c = ([], started c.args.bytes.now _ c.in_ok-reader.reader c.new-trace.result c.in_ok-reader.ensures c.new-trace.ensures.steps c.new-trace.ensures.sectors)

pub push_entry-requires : goal.push_entry-requires
push_entry-requires g c =
    let r = c.loop-trace.reader in
    let q = c.next_entry.new.reader in
    let P : Option (Entry × Mark) → Type 0 = λ o. NextRead c.count-count.result r q c.loop-trace.used c.next_entry.new.used (Ok o) in
    let o = subst P c.in-Some.is c.in_ok-entry.ensures in
    let few = o.5 in
    let most = c.count-count.ensures.few in
    let kept = c.loop-trace.invariant.1.kept in
    let used = c.loop-trace.invariant.1.few in
    record { few = omega arith; less = omega arith }

pub loop-trace-preserved : goal.loop-trace-preserved
loop-trace-preserved g c =
    let i = c.loop-trace.invariant in
    let r = c.loop-trace.reader in
    let q = c.next_entry.new.reader in
    let n = c.loop-trace.used in
    let m = c.next_entry.new.used in
    let count = c.count-count.result in
    let P : Option (Entry × Mark) → Type 0 = λ o. NextRead count r q n m (Ok o) in
    let o = subst P c.in-Some.is c.in_ok-entry.ensures in
    (i.0 ++ item_seen c.in-Some.entry ∷ [], went c.args.bytes.now count r q n m c.loop-trace.trace c.push_entry.new.trace i.0 c.in-Some.entry c.in-Some.mark i.1 o c.in_ok-push_entry.ensures.steps c.in_ok-push_entry.ensures.sectors)
