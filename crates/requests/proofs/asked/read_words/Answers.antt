use Rattle.std.proofs.Common.{◌∙◌, refl, sym, ap, option_copied, option_and_then, map, string_bytes}
use Rattle.requests.specs.Asked.{command_named, requested_of}
use Rattle.requests.proofs.Commands.{by_first, no_words}
use Rattle.requests.proofs.asked.read_words.Goals as goal

pub returns-in_default-clause-request : goal.returns-in_default-clause-request
returns-in_default-clause-request g c =
    let asked = g.A.Asked in
    let none = no_words asked.named (command_named asked.named) refl (λ word words. refl) c.args.words.now (sym c.first.ensures.value ∙ ap option_copied c.in_default.is) in
    sym (ap (option_and_then (λ name. requested_of asked.command asked.seen_in name (map string_bytes c.args.words.now))) none)

pub returns-in-None-clause-request : goal.returns-in-None-clause-request
returns-in-None-clause-request g c =
    let asked = g.A.Asked in
    let head = by_first asked.named (command_named asked.named) refl (λ word words. refl) c.args.words.now c.in-Some.first.now (sym c.first.ensures.value ∙ ap option_copied c.in-Some.is) in
    let none = head ∙ (sym (ap asked.named c.as_str.ensures.value) ∙ (sym c.name_of.ensures ∙ c.in-None.is)) in
    sym (ap (option_and_then (λ name. requested_of asked.command asked.seen_in name (map string_bytes c.args.words.now))) none)
