use Rattle.std.proofs.Common.{◌≡◌, Some, sym, ◌∙◌}
use Rattle.plan_endings.proofs.written.finish.Goals as goal

pub written-requires-clause-not_six : goal.written-requires-clause-not_six
written-requires-clause-not_six g c = (c.requires c.in-Some.end (sym c.in-Some.ensures)).0

pub written-requires-clause-not_eight : goal.written-requires-clause-not_eight
written-requires-clause-not_eight g c = (c.requires c.in-Some.end (sym c.in-Some.ensures)).1

pub returns-clause-due : goal.returns-clause-due
returns-clause-due g c not_six not_eight =
    let due = c.written.ensures.due not_six not_eight in
    (c.in-Some.end, due.0, sym c.in-Some.ensures, due.1)

pub returns-clause-front : goal.returns-clause-front
returns-clause-front g c not_eight =
    let front = c.written.ensures.front not_eight in
    (c.in-Some.end, sym c.in-Some.ensures, front.0, front.1)

pub returns-clause-there : goal.returns-clause-there
returns-clause-there g c end is there =
    let both : Some c.in-Some.end ≡ Some end = c.in-Some.ensures ∙ is in
    let same : c.in-Some.end ≡ end = cc in
    c.written.ensures.there (rw same there)
