-- After i turns the first i of the entry's sectors are new.
use Rattle.std.proofs.Common.{◌≡◌, ◌+◌, ◌<◌, length, set, sym, ap, ◌∙◌, arith}
use Rattle.image.specs.Access.{access_ok}
use Rattle.recording.specs.Items.{sector_of}
use Rattle.recording.specs.Writes.{nth}
use Rattle.recording.specs.Reading.{item_seen}
use Rattle.patch.specs.Patched.{patched}
use Rattle.patch.proofs.Patching.{length_patched, patched_none, patched_more, lies_inside}
use Rattle.patch.proofs.apply.apply_entry.Goals as goal

pub loop-i-init : goal.loop-i-init
loop-i-init g c =
    let e = item_seen c.args.item.now in
    let image = g.S.ImageStore.sectors c.args.store.now in
    (sym (patched_none (sector_of e) (nth e) image), g.S.ImageStore.stays c.args.store.now)

pub unwrap-requires : goal.unwrap-requires
unwrap-requires g c =
    let e = item_seen c.args.item.now in
    let x = c.extent-extent.result in
    let image = g.S.ImageStore.sectors c.args.store.now in
    let n : length (g.S.ImageStore.sectors c.loop-i.store) ≡ length image = ap length c.loop-i.invariant.0 ∙ length_patched (sector_of e) (nth e) image c.loop-i.i in
    let w = lies_inside x.first x.sectors _ c.loop-i.i (omega arith) c.if-is_outside.ensures in
    let inside : x.first + c.loop-i.i < length (g.S.ImageStore.sectors c.loop-i.store) = omega (arith, w) in
    grind (arith, access_ok)

pub loop-i-preserved : goal.loop-i-preserved
loop-i-preserved g c =
    let e = item_seen c.args.item.now in
    let x = c.extent-extent.result in
    let image = g.S.ImageStore.sectors c.args.store.now in
    let i = c.loop-i.i in
    let w = lies_inside x.first x.sectors _ i (omega arith) c.if-is_outside.ensures in
    let h : sector_of e + i < length image = omega (arith, w) in
    let s : g.S.ImageStore.sectors c.write.new.self ≡ set (g.S.ImageStore.sectors c.loop-i.store) (x.first + i) (nth e i) = grind arith in (
      s ∙ ap (λ y. set y (x.first + i) (nth e i)) c.loop-i.invariant.0
          ∙ ap (λ n. set (patched (sector_of e) i (nth e) image) (n + i) (nth e i)) c.extent-extent.ensures.first
          ∙ patched_more (sector_of e) (nth e) image i h,
      g.S.ImageStore.onward c.args.store.now c.loop-i.store c.write.new.self c.loop-i.invariant.1 c.write.ensures.kept,
    )
