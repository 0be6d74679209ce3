use Rattle.std.proofs.Common.{◌≡◌, ◌≤◌, ◌/◌, replicate, length, get_or, sym, ap, ◌∙◌, rules}
use Rattle.std.proofs.lemmas.List.{get_or_past}
use Rattle.std.specs.Simd.{first_chunks}
use Rattle.recording.specs.Reading.{item_seen}
use Rattle.patch.proofs.Patching.{nth_of_chunks}
use Rattle.patch.proofs.apply.new_sector.Goals as goal

pub returns-in-Some : goal.returns-in-Some
returns-in-Some c =
    let read : c.in-Some.sector.now ≡ get_or c.as_chunks.result.0.now c.args.i (replicate 512 0) = search rules in
    read ∙ ap (λ xs. get_or xs c.args.i (replicate 512 0)) (c.as_chunks.ensures.front ∙ ap (λ d. first_chunks 512 (length d / 512) d) c.data.ensures)
    ∙ nth_of_chunks (item_seen c.args.item.now) c.args.i c.requires

pub returns-in-None : goal.returns-in-None
returns-in-None c =
    let past : length c.as_chunks.result.0.now ≤ c.args.i = search rules in
    sym (get_or_past c.as_chunks.result.0.now c.args.i (replicate 512 0) past)
    ∙ ap (λ xs. get_or xs c.args.i (replicate 512 0)) (c.as_chunks.ensures.front ∙ ap (λ d. first_chunks 512 (length d / 512) d) c.data.ensures)
    ∙ nth_of_chunks (item_seen c.args.item.now) c.args.i c.requires
