use Rattle.std.proofs.Common.{◌≡◌, ℕ, Bool, not, min, [], length, slice_index_or, sym, ap, ◌∙◌, refl, arith, rules, tests}
use Rattle.std.specs.List.{range_with_len}
use Rattle.std.specs.Str.{bytes_eq}
use Rattle.std.proofs.lemmas.List.Sums.{length-filter}
use Rattle.std.proofs.lemmas.Iterator.{YieldsList-from_range}
use Rattle.std.proofs.lemmas.Iterator.Consumers.{YieldsList-from_filter, YieldsList-at, count_from_yields_List}
use Rattle.image.specs.Layers.{how_many}
use Rattle.image.specs.Fetched.{sector_of, sector_is}
use Rattle.patch.specs.Patched.{differs}
use Rattle.patch.proofs.Comparing.{counted_same}
use Rattle.patch.proofs.compare.changed_sectors.Goals as goal

pub returns : goal.returns
returns g c =
    let a = g.A.ImageStore.sectors c.args.a.now in
    let b = g.B.ImageStore.sectors c.args.b.now in
    let n = c.min-count.result in
    let common : n ≡ min (length a) (length b) = grind arith in
    let test : ℕ → Bool = λ k. not (bytes_eq (sector_of a k) (sector_of b k)) in
    count_from_yields_List c.filter.result _ c.count-3.ensures.ran
    (YieldsList-from_filter _ test (YieldsList-at c.filter.ensures.source (YieldsList-from_range 0 n n refl (omega arith))) c.filter.ensures.closure (λ x r q k. search (rules, tests)))
    ∙ length-filter test (range_with_len 0 n)
    ∙ counted_same test (differs a b) 0 n (λ k l h.
    let p = sector_is a k (omega arith) in
    let q = sector_is b k (omega arith) in
    sym (ap (λ s. not (bytes_eq s (slice_index_or b k []))) p ∙ ap (λ s. not (bytes_eq (sector_of a k) s)) q))
    ∙ ap (how_many (differs a b)) common
