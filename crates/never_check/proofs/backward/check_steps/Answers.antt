use Rattle.never_check.specs.declared.rules.Rules.{Rules}
use Rattle.never_check.proofs.Grown.{none_at, some_at}
use Rattle.never_check.proofs.Stepping.{begun_steps, pair_told}
use Rattle.never_check.proofs.backward.check_steps.Goals as goal

pub returns-in_default : goal.returns-in_default
returns-in_default c =
    let whole : Rules = record { known = c.args.plain.now.known; clauses = c.args.given.now.clauses; uses = c.deref.result } in
    begun_steps c.args.given.now.task.now whole (none_at _ _ c.in_default.is c.in_ok-after.ensures)

pub check_actions-requires-clause-base : goal.check_actions-requires-clause-base
check_actions-requires-clause-base c = some_at _ _ _ c.in-Some.after c.in-Some.is c.in_ok-after.ensures

pub returns : goal.returns
returns c =
    let whole : Rules = record { known = c.args.plain.now.known; clauses = c.args.given.now.clauses; uses = c.deref.result } in
    pair_told c.args.given.now.task.now whole c.in_ok-found.found c.in_ok-found.ensures
