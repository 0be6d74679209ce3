-- Another word than these asks for no text.
use Rattle.std.proofs.Common.{string_bytes, map, option_map, ap, ◌∙◌, sym, ◌≢◌, subst, codes, [], ◌∷◌}
use Rattle.console.specs.Words.{asked_text}
use Rattle.console.proofs.Asking.{asks_none, only_word}
use Rattle.console.proofs.usage.Usage.text_asked.Goals as goal

pub returns-in_default-as_str-clause-text : goal.returns-in_default-as_str-clause-text
returns-in_default-as_str-clause-text c =
    let help = c.args.self.now.help.now in
    let version = option_map (λ text. text.now) c.args.self.now.version in
    let e = only_word c.args.words.now c.word-item.result c.in-len1.len_at_least c.in-len1.len_below c.word-item.is in
    sym (ap (asked_text help version) (e ∙ ap (λ w. w ∷ []) (sym c.as_str.ensures.value))
    ∙ asks_none help version c.as_str.result.now c.in_default-as_str.not-text c.in_default-as_str.not-text-2)
