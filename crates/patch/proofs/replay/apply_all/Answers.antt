-- What is left to apply comes to the whole.
use Rattle.std.proofs.Common.{◌≡◌, ◌∷◌, length, sym, ap, ◌∙◌, rules}
use Rattle.recording.specs.Items.{sector_of, sectors_of}
use Rattle.recording.specs.Writes.{nth}
use Rattle.recording.specs.Reading.{item_seen}
use Rattle.recording.specs.Recorded.{remaining, items_of}
use Rattle.patch.specs.Replayed.{first_outside, applied_all}
use Rattle.patch.specs.Patched.{applied}
use Rattle.patch.proofs.Patching.{length_patched}
use Rattle.patch.proofs.Placing.{none_outside}
use Rattle.patch.proofs.replay.apply_all.Goals as goal

pub loop-entry-preserved : goal.loop-entry-preserved
loop-entry-preserved g c =
    let e = item_seen c.in-Some.entry in
    let es = items_of (remaining c.loop-entry.entry-iterator.reader) in
    let rest = items_of (remaining c.next.new.self.reader) in
    let image = g.S.ImageStore.sectors c.loop-entry.store in
    let after = g.S.ImageStore.sectors c.apply_entry.new.store in
    let i = c.loop-entry.invariant in
    let t : es ≡ e ∷ rest = search rules in
    let a : after ≡ applied e image = search rules in
    let n : length after ≡ length image = ap length a ∙ length_patched (sector_of e) (nth e) image (sectors_of e) in
    let o = none_outside (length image) e rest (ap (first_outside (length image)) (sym t) ∙ i.0) in (
      ap (λ m. first_outside m rest) n ∙ o.1,
      ap (applied_all rest) a ∙ ap (λ xs. applied_all xs image) (sym t) ∙ i.1,
      g.S.ImageStore.onward c.args.store.now c.loop-entry.store c.apply_entry.new.store i.2 c.apply_entry.ensures.kept,
    )
