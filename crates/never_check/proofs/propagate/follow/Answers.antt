use Rattle.std.proofs.Common.{[]}
use Rattle.gt_core.specs.Interference.{has_clause}
use Rattle.implied_literals.specs.Known.{IsFull}
use Rattle.never_check.specs.Follow.{ObeysAll}
use Rattle.never_check.proofs.Grown.{when_true, when_false, either_way, contradiction_by}
use Rattle.never_check.proofs.Following.{follow_clash, follow_grown, follow_all}
use Rattle.never_check.proofs.propagate.follow.Goals as goal

pub returns-clause-told : goal.returns-clause-told
returns-clause-told c =
    let known = c.args.rules.now.known.now.clauses in
    let clauses = c.args.rules.now.clauses.now in
    let old = c.args.trail.now.literals in
    let mid = c.follow_known.new.trail.literals in
    let new = c.follow_clauses.new.trail.literals in
    let told = when_false c.in_ok-follow_known.field-0 _ c.if-branch.false c.in_ok-follow_known.ensures.told in
    either_way c.in_ok-clashes.clashes
    (follow_clash known clauses old mid c.args.place c.at-lit.result c.requires.place c.at-lit.ensures.is c.requires.followed told)
    (λ g. (
      follow_grown known clauses old mid c.args.place c.at-lit.result c.requires.place c.at-lit.ensures.is c.requires.followed told new g.0,
      follow_all known clauses old mid c.args.place c.at-lit.result c.requires.place c.at-lit.ensures.is c.requires.followed told new g.0.front g.1,
    ))
    c.in_ok-clashes.ensures.told

pub returns-then-branch-clause-told : goal.returns-then-branch-clause-told
returns-then-branch-clause-told c =
    let known = c.args.rules.now.known.now.clauses in
    let clauses = c.args.rules.now.clauses.now in
    contradiction_by (ObeysAll known clauses) (IsFull (has_clause known) []) c.args.trail.now.literals (λ set all has. all.0) (when_true c.in_ok-follow_known.field-0 _ c.if-branch.true c.in_ok-follow_known.ensures.told)
