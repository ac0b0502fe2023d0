use Rattle.std.proofs.Common.{arith, ◌∙◌, ◌<◌, length}
use Rattle.never_check.proofs.Grown.{when_true, when_false, front_in}
use Rattle.never_check.proofs.Following.{clause_among, clauses_clash, clauses_grown}
use Rattle.never_check.proofs.Beginning.{looked_more}
use Rattle.never_check.proofs.begin.look_all.Goals as goal

pub returns-then-branch-clause-told : goal.returns-then-branch-clause-told
returns-then-branch-clause-told c =
    let clauses = c.args.clauses.now in
    let at = clause_among clauses _ c.at.result.now c.at.ensures in
    clauses_clash clauses c.args.trail.now.literals c.loop-number.trail.literals c.loop-number.invariant.grown c.at.result.now at.0 (when_true c.in_ok-look.field-0 _ c.if-branch.true c.in_ok-look.ensures.told)

pub loop-number-preserved : goal.loop-number-preserved
loop-number-preserved c =
    let clauses = c.args.clauses.now in
    let old = c.args.trail.now.literals in
    let mid = c.loop-number.trail.literals in
    let new = c.look.new.trail.literals in
    let at = clause_among clauses _ c.at.result.now c.at.ensures in
    let looked = when_false c.in_ok-look.field-0 _ c.if-branch.false c.in_ok-look.ensures.told in
    let t = c.loop-number-test.true in
    let l = c.len-number-end.ensures in
    let lt : c.loop-number.number < length clauses = omega (arith, t, l) in
    record {
      facts = c.in_ok-look.ensures.facts ∙ c.loop-number.invariant.facts;
      grown = clauses_grown clauses old mid c.loop-number.invariant.grown c.at.result.now at.0 new looked.0;
      told = looked_more clauses old mid new c.loop-number.number c.at.result.now lt at.1 (front_in old mid c.loop-number.invariant.grown.front) (front_in mid new looked.0.front) c.loop-number.invariant.told looked.1;
    }
