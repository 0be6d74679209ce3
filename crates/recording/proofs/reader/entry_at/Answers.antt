-- The entry is that of its header and its data.
use Rattle.std.proofs.Common.{◌≡◌, ◌+◌, ◌-◌, ◌*◌, ◌<◌, ◌≤◌, length, take, drop, ap, ◌∙◌, arith}
use Rattle.std.proofs.lemmas.Result.{err_from_is_err_and}
use Rattle.image.specs.Sectors.{Bytes}
use Rattle.recording.specs.Entries.{data_in}
use Rattle.recording.proofs.Made.{made_in, data_sectors, whole_sector, behind, not_behind, entry_taken, entry_cut}
use Rattle.recording.proofs.Deciding.{from_sector, none_laid, given_laid}
use Rattle.recording.proofs.reader.entry_at.Goals as goal

pub returns-in_err-header-clause-laid : goal.returns-in_err-header-clause-laid
returns-in_err-header-clause-laid c =
    let x = c.args.rest.now in
    let k = c.args.number in
    let p = err_from_is_err_and c.from_residual.result c.from_residual.ensures.1 in
    rw p.1 (none_laid k x _ (from_sector k x _ c.in_err-header.ensures))

pub returns-then-sectors-whole-clause-laid : goal.returns-then-sectors-whole-clause-laid
returns-then-sectors-whole-clause-laid c =
    let x = c.args.rest.now in
    let k = c.args.number in
    let e = c.in_ok-header.ensures in
    let n = c.data_sectors-sectors.result in
    let d : n ≡ data_in x = c.data_sectors-sectors.ensures ∙ data_sectors c.in_ok-header.header x e.1 in
    let b : length x < 512 + 512 * n = not_behind n (length x) c.if-sectors-whole.true in
    none_laid k x _ (entry_cut k x e.0 (omega arith))

pub returns : goal.returns
returns c =
    let x = c.args.rest.now in
    let k = c.args.number in
    let h = c.in_ok-header.header in
    let e = c.in_ok-header.ensures in
    let n = c.data_sectors-sectors.result in
    let d : n ≡ data_in x = c.data_sectors-sectors.ensures ∙ data_sectors h x e.1 in
    let w : 512 ≤ length x = whole_sector k x e.0 in
    let b : 512 + 512 * n ≤ length x = behind n (length x) w c.if-sectors-whole.false in
    let b' : 512 + 512 * data_in x ≤ length x = omega arith in
    let m : (512 + n * 512) - 512 ≡ 512 + 512 * data_in x - 512 = omega arith in
    let s : 512 + n * 512 ≡ 512 + 512 * data_in x = omega arith in
    let i = c.entry_of-entry.ensures.item ∙ made_in h x _ e.1 (ap (λ i. take i (drop 512 x)) m) in
    let bs : Bytes x = λ j. omega (arith, c.type_inv.rest j) in
    record {
      found = (entry_taken k x e.0 b', i, c.entry_of-entry.ensures.place, s, omega arith);
      laid = given_laid k x bs e.0 b' _ (512 + n * 512) i s;
    }
