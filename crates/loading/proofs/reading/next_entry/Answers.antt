-- One entry read is one step of what is left.
use Rattle.std.proofs.Common.{◌≡◌, ◌+◌, ◌-◌, length, Ok, Option, sym, ap, ◌∙◌, subst, arith}
use Rattle.std.proofs.lemmas.Result.{err_from_is_err_and}
use Rattle.recording.specs.declared.entry.Entry.{Entry}
use Rattle.recording.specs.declared.entry.Header.{Header}
use Rattle.recording.specs.Items.{sectors_of, data_of}
use Rattle.recording.specs.Entries.{data_in}
use Rattle.recording.specs.Reading.{ahead, next_number, item_seen, Heading, Stepping}
use Rattle.recording.proofs.Made.{data_sectors}
use Rattle.meaning.specs.Meanings.{mark_in}
use Rattle.meaning.specs.Loads.{onwards}
use Rattle.loading.specs.Loading.{remaining}
use Rattle.loading.proofs.Entering.{read_end, header_declined, ask_declined, ask_accepted, next_declined, entry_read, mark_read, given, asked_same, data_few, sectors_few}
use Rattle.loading.proofs.reading.next_entry.Goals as goal

pub returns-in_err-header : goal.returns-in_err-header
returns-in_err-header c =
    let p = err_from_is_err_and c.from_residual.result c.from_residual.ensures.1 in
    rw (p.1, p.2) (header_declined c.args.reader.now c.args.used.now c.args.count _ c.in_err-header.ensures)

pub returns-in_default : goal.returns-in_default
returns-in_default c =
    let r = c.args.reader.now in
    let P : Option Header → Type 0 = λ o. Heading r (Ok o) in
    let e = subst P c.in_default.is c.in_ok-header.ensures in
    read_end r c.args.used.now c.args.count e.0 e.1

pub returns-in_err-mark : goal.returns-in_err-mark
returns-in_err-mark c =
    let r = c.args.reader.now in
    let P : Option Header → Type 0 = λ o. Heading r (Ok o) in
    let h = subst P c.in-Some.is c.in_ok-header.ensures in
    let k : (c.total.result - c.left.result) + 1 ≡ next_number r = omega (arith, c.total.ensures, c.left.ensures) in
    let p = err_from_is_err_and c.from_residual-in_err-mark.result c.from_residual-in_err-mark.ensures.1 in
    rw (p.1, p.2) (ask_declined r c.in-Some.header ((c.total.result - c.left.result) + 1) c.args.used.now c.args.count _ h.0 h.1 h.2 k c.in_err-mark.ensures)

pub returns-in_err-next : goal.returns-in_err-next
returns-in_err-next c =
    let r = c.args.reader.now in
    let P : Option Header → Type 0 = λ o. Heading r (Ok o) in
    let h = subst P c.in-Some.is c.in_ok-header.ensures in
    let k : (c.total.result - c.left.result) + 1 ≡ next_number r = omega (arith, c.total.ensures, c.left.ensures) in
    let a = asked_same r c.in-Some.header ((c.total.result - c.left.result) + 1) c.args.used.now c.args.count c.in_ok-mark.mark h.2 k c.in_ok-mark.ensures in
    let p = err_from_is_err_and c.from_residual-in_err-next.result c.from_residual-in_err-next.ensures.1 in
    rw (p.1, p.2) (next_declined r c.args.used.now c.args.count c.in_ok-mark.mark _ h.0 h.1 a c.in_err-next.ensures.step.0)

pub unwrap-entry-requires : goal.unwrap-entry-requires
unwrap-entry-requires c =
    let r = c.args.reader.now in
    let P : Option Header → Type 0 = λ o. Heading r (Ok o) in
    let h = subst P c.in-Some.is c.in_ok-header.ensures in
    given r c.next.new.self c.in_ok-next.field-0 h.0 c.in_ok-next.ensures.step

pub overflow_add-used : goal.overflow_add-used
overflow_add-used c =
    let r = c.args.reader.now in
    let P : Option Header → Type 0 = λ o. Heading r (Ok o) in
    let h = subst P c.in-Some.is c.in_ok-header.ensures in
    let a = ask_accepted (ahead r) c.in-Some.header ((c.total.result - c.left.result) + 1) c.args.used.now c.args.count c.in_ok-mark.mark h.2 c.in_ok-mark.ensures in
    let d = data_sectors c.in-Some.header (ahead r) h.2 in
    let f = a.few in
    let e = c.data_sectors.ensures in
    omega arith

pub returns : goal.returns
returns c =
    let r = c.args.reader.now in
    let s = c.next.new.self in
    let x = ahead r in
    let e = item_seen c.unwrap-entry.result in
    let m = c.in_ok-mark.mark in
    let n = c.args.used.now in
    let count = c.args.count in
    let P : Option Header → Type 0 = λ o. Heading r (Ok o) in
    let Q : Option Entry → Type 0 = λ o. Stepping r s (Ok o) in
    let h = subst P c.in-Some.is c.in_ok-header.ensures in
    let t = subst Q c.unwrap-entry.ensures c.in_ok-next.ensures.step in
    let k : (c.total.result - c.left.result) + 1 ≡ next_number r = omega (arith, c.total.ensures, c.left.ensures) in
    let a = asked_same r c.in-Some.header ((c.total.result - c.left.result) + 1) n count m h.2 k c.in_ok-mark.ensures in
    let acc = ask_accepted x c.in-Some.header ((c.total.result - c.left.result) + 1) n count m h.2 c.in_ok-mark.ensures in
    let d : n + c.data_sectors.result ≡ n + data_in x = ap (λ i. n + i) (c.data_sectors.ensures ∙ data_sectors c.in-Some.header x h.2) in
    let left = t.4.left in
    let some = h.0 in
    let few = acc.few in (
      entry_read r s n count m h.0 h.1 a t.1 t.4
          ∙ ap (λ i. onwards i (remaining s (n + data_in x) count)) (sym t.2)
          ∙ ap (λ i. onwards e (remaining s i count)) (sym d),
      mark_read x n count m acc ∙ ap mark_in (sym t.2),
      omega arith,
      omega arith,
      omega (arith, ap (λ i. length (data_of i)) t.2, data_few x),
      omega (arith, ap sectors_of t.2, sectors_few x n count m acc),
    )
