use Rattle.std.proofs.Common.{Some, sym, ap, ◌∙◌, option_map}
use Rattle.plan_endings.proofs.published.Stopped.{weaker}
use Rattle.search_top.specs.Seen.{seen}
use Rattle.search_top.specs.Causes.{asked}
use Rattle.search_top.specs.declared.ended.Ended.TheVariants.{Plain}
use Rattle.search_top.proofs.decide.decide.Goals as goal

pub returns-in-Some-clause-cause : goal.returns-in-Some-clause-cause
returns-in-Some-clause-cause g c =
    let is = sym c.in_ok-read_words.ensures.request ∙ ap (option_map seen) c.in-Some.is in
    weaker Plain _ _ (λ end h. asked (seen c.in-Some.request) is h) c.decide_request.result c.decide_request.ensures.cause

pub returns-in-Some-clause-untaken : goal.returns-in-Some-clause-untaken
returns-in-Some-clause-untaken g c apart =
    let is = sym c.in_ok-read_words.ensures.request ∙ ap (option_map seen) c.in-Some.is in
    c.decide_request.ensures.untaken (λ domain problem certificate proof e. apart domain problem certificate proof (is ∙ ap Some e))
