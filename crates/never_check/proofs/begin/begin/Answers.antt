use Rattle.std.proofs.Common.{subst, List, ℕ, []}
use Rattle.never_check.specs.Follow.{IsGrown, IsContradiction}
use Rattle.never_check.specs.Rules.{ObeysRules}
use Rattle.never_check.proofs.Grown.{when_true, when_false, either_way, contradiction_by, contradiction_then, grown_then}
use Rattle.never_check.proofs.Beginning.{HasSingle, begun_second, begun_followed, begun_grown}
use Rattle.never_check.proofs.begin.begin.Goals as goal

pub returns-then-branch-clause-told : goal.returns-then-branch-clause-told
returns-then-branch-clause-told c =
    let rules = c.args.rules.now in
    subst (λ (ls : List ℕ). IsContradiction (ObeysRules rules) ls) c.requires.empty
    (contradiction_by (ObeysRules rules) (HasSingle rules.known.now.clauses) c.args.trail.now.literals (λ set all has. all.0.single) (when_true c.in_ok-add_single.field-0 _ c.if-branch.true c.in_ok-add_single.ensures.told))

pub returns-then-branch-2-clause-told : goal.returns-then-branch-2-clause-told
returns-then-branch-2-clause-told c =
    let rules = c.args.rules.now in
    let first = c.add_single.new.trail.literals in
    let s = when_false c.in_ok-add_single.field-0 _ c.if-branch.false c.in_ok-add_single.ensures.told in
    begun_second rules.known.now c.requires.rules.known rules.clauses.now first first (subst (λ (ls : List ℕ). IsGrown (HasSingle rules.known.now.clauses) ls first) c.requires.empty s.0, s.1)
    (when_true c.in_ok-look_all.field-0 _ c.if-branch-2.true c.in_ok-look_all.ensures.told)

pub propagate-requires-clause-followed : goal.propagate-requires-clause-followed
propagate-requires-clause-followed c =
    let rules = c.args.rules.now in
    let first = c.add_single.new.trail.literals in
    let s = when_false c.in_ok-add_single.field-0 _ c.if-branch.false c.in_ok-add_single.ensures.told in
    begun_followed rules.known.now c.requires.rules.known rules.clauses.now first c.look_all.new.trail.literals (subst (λ (ls : List ℕ). IsGrown (HasSingle rules.known.now.clauses) ls first) c.requires.empty s.0, s.1)
    (when_false c.in_ok-look_all.field-0 _ c.if-branch-2.false c.in_ok-look_all.ensures.told)

pub returns-clause-told : goal.returns-clause-told
returns-clause-told c =
    let rules = c.args.rules.now in
    let first = c.add_single.new.trail.literals in
    let second = c.look_all.new.trail.literals in
    let s = when_false c.in_ok-add_single.field-0 _ c.if-branch.false c.in_ok-add_single.ensures.told in
    let grown =
    begun_grown rules.known.now c.requires.rules.known rules.clauses.now first second (subst (λ (ls : List ℕ). IsGrown (HasSingle rules.known.now.clauses) ls first) c.requires.empty s.0, s.1)
    (when_false c.in_ok-look_all.field-0 _ c.if-branch-2.false c.in_ok-look_all.ensures.told)
    in
    either_way c.in_ok-clashes.clashes (contradiction_then (ObeysRules rules) [] second grown) (λ g. (grown_then (ObeysRules rules) [] second c.propagate.new.trail.literals grown g.0, g.1)) c.in_ok-clashes.ensures.told
