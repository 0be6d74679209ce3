use Rattle.std.proofs.Common.{Option, Result, subst, rules}
use Rattle.recording.specs.declared.entry.Entry.{Entry}
use Rattle.recording.specs.declared.refusal.Refusal.{Refusal}
use Rattle.recording.specs.Reading.{Stepping}
use Rattle.patch.proofs.Entering.{yields, goes}
use Rattle.patch.proofs.entries.EntriesIterator.next.Goals as goal

pub returns-clause-steps : goal.returns-clause-steps
returns-clause-steps c =
    let P : Result (Option Entry) Refusal → Type 0 = λ o. Stepping c.args.self.now.reader c.next.new.self o in
    yields c.args.self.now.reader c.next.new.self c.unwrap.result c.args.self.now.sound (subst P c.unwrap.ensures c.next.ensures.step)

pub returns-clause-goes : goal.returns-clause-goes
returns-clause-goes c =
    let P : Result (Option Entry) Refusal → Type 0 = λ o. Stepping c.args.self.now.reader c.next.new.self o in
    let s = subst P c.unwrap.ensures c.next.ensures.step in
    record { on = λ _. goes c.args.self.now.reader c.next.new.self c.unwrap.result s _ (λ h. (tt, tt, h)); keeps = search rules; rests = λ _. search rules }
