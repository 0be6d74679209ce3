use Rattle.std.proofs.Common.{◌≡◌, ◌+◌, Bool, refl, ap, ◌∙◌, rules, tests}
use Rattle.std.specs.Option.{option_map}
use Rattle.std.proofs.lemmas.Iterator.Consumers.{YieldsList-from_first}
use Rattle.std.proofs.lemmas.Iterator.Search.{position_from_yields_List}
use Rattle.recording.specs.Items.{Item}
use Rattle.recording.specs.Writes.{outside}
use Rattle.recording.specs.Reading.{item_seen}
use Rattle.recording.specs.Recorded.{remaining, items_of}
use Rattle.patch.proofs.replay.first_outside.Goals as goal

pub returns : goal.returns
returns c =
    let test : Item → Bool = λ e. outside e c.args.count in
    let es = items_of (remaining c.args.entries.reader) in
    let p = position_from_yields_List test c.position.new.self _ c.position.result c.position.ensures.ran (YieldsList-from_first item_seen (λ s. items_of (remaining s.reader)) es refl) (λ x b q k. search (rules, tests)) in
    let e : c.map.result ≡ option_map (λ i. i + 1) c.position.result = search rules in
    e ∙ ap (option_map (λ i. i + 1)) p
