use Rattle.std.proofs.Common.{arith, ◌∙◌, ◌≡◌, ℕ, length, take, sym, subst}
use Rattle.never_check.specs.Rules.{AreFollowed}
use Rattle.never_check.proofs.Grown.{when_true, when_false, front_long}
use Rattle.never_check.proofs.Settling.{rules_clash, rules_grown, more_clash, more_grown, followed_later, settled}
use Rattle.never_check.proofs.settle.settle.Goals as goal

pub returns-then-branch-clause-told : goal.returns-then-branch-clause-told
returns-then-branch-clause-told c =
    let rules = c.args.rules.now in
    rules_clash rules.known.now.clauses rules.clauses.now c.args.more.now c.args.trail.now.literals c.settle.trail.literals c.settle.trail.literals c.settle.invariant.grown
    (when_true c.in_ok-propagate.field-0 _ c.if-branch.true c.in_ok-propagate.ensures.told)

pub returns-then-branch-2-clause-told : goal.returns-then-branch-2-clause-told
returns-then-branch-2-clause-told c =
    let rules = c.args.rules.now in
    let old = c.args.trail.now.literals in
    let mid = c.propagate.new.trail.literals in
    let p = when_false c.in_ok-propagate.field-0 _ c.if-branch.false c.in_ok-propagate.ensures.told in
    more_clash rules.known.now.clauses rules.clauses.now c.args.more.now old mid mid
    (rules_grown rules.known.now.clauses rules.clauses.now c.args.more.now old c.settle.trail.literals mid c.settle.invariant.grown p.0)
    (when_true c.in_ok-look_all.field-0 _ c.if-branch-2.true c.in_ok-look_all.ensures.told)

pub returns-then-len-start-clause-told : goal.returns-then-len-start-clause-told
returns-then-len-start-clause-told c =
    let rules = c.args.rules.now in
    let known = rules.known.now.clauses in
    let old = c.args.trail.now.literals in
    let mid = c.propagate.new.trail.literals in
    let new = c.look_all.new.trail.literals in
    let p = when_false c.in_ok-propagate.field-0 _ c.if-branch.false c.in_ok-propagate.ensures.told in
    let m = when_false c.in_ok-look_all.field-0 _ c.if-branch-2.false c.in_ok-look_all.ensures.told in
    let long : length new ≡ length mid = sym c.len.ensures.is ∙ c.if-len-start.true ∙ c.len-start.ensures.is in
    let s = settled known rules.clauses.now c.args.more.now mid new p.1 m.0.front long m.1 in
    (more_grown known rules.clauses.now c.args.more.now old mid new (rules_grown known rules.clauses.now c.args.more.now old c.settle.trail.literals mid c.settle.invariant.grown p.0) m.0, s.0, s.1)

pub settle-preserved : goal.settle-preserved
settle-preserved c =
    let rules = c.args.rules.now in
    let known = rules.known.now.clauses in
    let old = c.args.trail.now.literals in
    let mid = c.propagate.new.trail.literals in
    let new = c.look_all.new.trail.literals in
    let p = when_false c.in_ok-propagate.field-0 _ c.if-branch.false c.in_ok-propagate.ensures.told in
    let m = when_false c.in_ok-look_all.field-0 _ c.if-branch-2.false c.in_ok-look_all.ensures.told in
    let start = c.len-start.ensures.is in
    record {
      facts = c.in_ok-look_all.ensures.facts ∙ c.in_ok-propagate.ensures.facts ∙ c.settle.invariant.facts;
      within = let long = front_long mid new m.0.front in omega (arith, long, start);
      grown = more_grown known rules.clauses.now c.args.more.now old mid new (rules_grown known rules.clauses.now c.args.more.now old c.settle.trail.literals mid c.settle.invariant.grown p.0) m.0;
      followed = subst (λ (n : ℕ). AreFollowed rules (take n new) new) (sym start) (followed_later known rules.clauses.now mid new p.1 m.0.front);
    }
