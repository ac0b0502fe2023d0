use Rattle.std.proofs.Common.{◌∙◌, [], ap, subst, refl}
use Rattle.gt_core.specs.Clauses.{KnownClauses}
use Rattle.gt_core.specs.Literal.{is_in}
use Rattle.gt_core.specs.Task.{initial_state}
use Rattle.gt_core.proofs.published.Basics.{apart}
use Rattle.never_defs.specs.Propagation.{IsRefuted}
use Rattle.never_check.specs.Exclusions.{IsExclusion}
use Rattle.never_check.proofs.Grown.{none_at, some_at}
use Rattle.never_check.proofs.Least.{begun_refutes, plain_refuted}
use Rattle.never_check.proofs.excluded.excluded_goal.Goals as goal

pub unreachable-requires : goal.unreachable-requires
unreachable-requires c =
    let rules = c.rules-rules.result in
    let plain = c.rules-rules.ensures in
    let refuted = plain_refuted rules plain.none [] (begun_refutes rules (is_in []) (none_at _ _ c.in_default.is c.in_ok-trail.ensures)) in
    c.laws.ensures.refuted c.args.known.now.clauses [] (is_in []) (initial_state c.args.task.now) c.requires.initial tt (λ l i. absurd (apart _ i refl))
    (subst (λ (k : KnownClauses). IsRefuted k.clauses [] (is_in [])) plain.known refuted)

pub excluded_by-requires-clause-facts : goal.excluded_by-requires-clause-facts
excluded_by-requires-clause-facts c = ap (λ (k : KnownClauses). k.facts) c.rules-rules.ensures.known ∙ c.requires.facts

pub excluded_by-requires-clause-base : goal.excluded_by-requires-clause-base
excluded_by-requires-clause-base c = some_at _ _ _ c.in-Some.trail c.in-Some.is c.in_ok-trail.ensures

pub returns : goal.returns
returns c = subst (λ (k : KnownClauses). IsExclusion c.args.task.now k.clauses c.in_ok-by.by) c.rules-rules.ensures.known c.in_ok-by.ensures
