-- A step of the reader is the entry at the front of what is left, and the place behind it.
use Rattle.std.proofs.Common.{◌+◌, ◌*◌, ◌<◌, Bool, Ok, subst, refl, ap, ◌∙◌, arith}
use Rattle.recording.specs.Entries.{data_in, item_in}
use Rattle.recording.specs.Reading.{Ending}
use Rattle.recording.proofs.Made.{placed}
use Rattle.recording.proofs.Steps.{reader_fault_lem}
use Rattle.recording.proofs.entry.Reader.next.Goals as goal

pub returns-clause-step : goal.returns-clause-step
returns-clause-step c =
    let r = c.args.self.now in
    let e = c.in_ok-found.ensures.found in
    let h : 0 < r.left = let P : Bool → Type 0 = λ b. Ending r (Ok b) in subst P c.if-branch.false c.in_ok-is_at_end.ensures in
    let i = e.1 ∙ ap item_in c.rest-ahead.ensures in (
      h,
      reader_fault_lem r _ _ _ (λ z. omega arith) c.next_number.ensures c.rest-ahead.ensures e.0,
      i,
      placed r.bytes.now r.place c.in_ok-found.found.entry i e.2,
      record { bytes = refl; place = ap (λ n. r.place + n) (e.3 ∙ ap (λ x. 512 + 512 * data_in x) c.rest-ahead.ensures); total = refl; left = refl },
    )
