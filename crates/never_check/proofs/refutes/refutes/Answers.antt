use Rattle.std.proofs.Common.{ℕ, take, sym, subst}
use Rattle.never_check.specs.Rules.{AreFollowed}
use Rattle.never_check.proofs.Grown.{when_false, either_way}
use Rattle.never_check.proofs.Settling.{followed_later}
use Rattle.never_check.proofs.Forwarding.{given_clash, given_grown}
use Rattle.never_check.proofs.refutes.refutes.Goals as goal

pub propagate-requires-clause-followed : goal.propagate-requires-clause-followed
propagate-requires-clause-followed c =
    let rules = c.args.rules.now in
    let a = when_false c.in_ok-assume.field-0 _ c.if-branch.false c.in_ok-assume.ensures.told in
    subst (λ (n : ℕ). AreFollowed rules (take n c.assume.new.trail.literals) c.assume.new.trail.literals) (sym c.len-from.ensures.is) (followed_later rules.known.now.clauses rules.clauses.now c.args.trail.now.literals c.assume.new.trail.literals c.requires.followed a.0.front)

pub returns-clause-told : goal.returns-clause-told
returns-clause-told c =
    let rules = c.args.rules.now in
    let a = when_false c.in_ok-assume.field-0 _ c.if-branch.false c.in_ok-assume.ensures.told in
    either_way c.in_ok-refuted.refuted (given_clash rules c.args.lits.now c.args.trail.now.literals c.assume.new.trail.literals a) (given_grown rules c.args.lits.now c.args.trail.now.literals c.assume.new.trail.literals a c.propagate.new.trail.literals) c.in_ok-refuted.ensures.told
