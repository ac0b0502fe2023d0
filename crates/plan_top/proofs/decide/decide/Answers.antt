use Rattle.std.proofs.Common.{sym, refl, map, string_bytes}
use Rattle.plan_tasks.proofs.published.Hearing.{handed_none}
use Rattle.plan_top.specs.Causes.{no_request}
use Rattle.requests.specs.Seen.{seen}
use Rattle.plan_top.proofs.Told.{one_unless}
use Rattle.plan_top.proofs.decide.decide.Goals as goal

pub returns-clause-cause : goal.returns-clause-cause
returns-clause-cause g c took handed = c.decide_request.ensures.cause took handed (map string_bytes c.args.words.now) (sym (rw c.in-Some.is at c.in_ok-request.ensures.request))

pub returns-in_default-clause-cause : goal.returns-in_default-clause-cause
returns-in_default-clause-cause g c took handed = no_request (sym (rw c.in_default.is at c.in_ok-request.ensures.request)) (handed_none (g.S.Shelf.heard c.args.shelf.now) took handed) refl

pub decide_request-requires-clause-sized : goal.decide_request-requires-clause-sized
decide_request-requires-clause-sized g c κs within = rw c.in-Some.is at c.in_ok-request.ensures.sized

pub returns-clause-idle : goal.returns-clause-idle
returns-clause-idle g c no_batch =
    let asked = sym (rw c.in-Some.is at c.in_ok-request.ensures.request) in
    c.decide_request.ensures.idle (one_unless (map string_bytes c.args.words.now) (seen c.in-Some.request) no_batch asked)
