use Rattle.std.proofs.Common.{◌≡◌, subst}
use Rattle.cdcl_core.specs.own.Search.{SearchView, asked_first}
use Rattle.cdcl_core.proofs.Watching.{watched_going, first_watched}
use Rattle.cdcl_core.proofs.search.Search.asked.Goals as goal

pub returns-clause-event : goal.returns-clause-event
returns-clause-event c =
    let t = c.self.inside in
    let m = watched_going c.self.invariant c.self.view_is c.requires.sane c.requires.going in
    let e = first_watched t.clauses t.propagator.entries t.standing t.propagator c.next.result m c.next.ensures.first in
    subst (λ (v : SearchView). c.next.result ≡ asked_first v.state) c.self.view_is e
