use Rattle.std.proofs.Common.{◌∙◌, refl}
use Rattle.never_check.proofs.Grown.{when_true, when_false}
use Rattle.never_check.proofs.Beginning.{assume_clash, assume_grown, assume_has}
use Rattle.never_check.proofs.begin.assume.Goals as goal

pub returns-then-branch-clause-told : goal.returns-then-branch-clause-told
returns-then-branch-clause-told c =
    assume_clash c.args.lits.now c.args.trail.now.literals c.loop-lit.trail.literals c.loop-lit.lit-index _ c.loop-lit-test.true refl c.loop-lit.invariant.grown
    (when_true c.in_ok-add.field-0 _ c.if-branch.true c.in_ok-add.ensures.told)

pub loop-lit-preserved : goal.loop-lit-preserved
loop-lit-preserved c =
    let lits = c.args.lits.now in
    let old = c.args.trail.now.literals in
    let mid = c.loop-lit.trail.literals in
    let new = c.add.new.trail.literals in
    let added = when_false c.in_ok-add.field-0 _ c.if-branch.false c.in_ok-add.ensures.told in
    record {
      facts = c.in_ok-add.ensures.facts ∙ c.loop-lit.invariant.facts;
      grown = assume_grown lits old mid c.loop-lit.lit-index _ c.loop-lit-test.true refl c.loop-lit.invariant.grown new added.0;
      has = assume_has lits old mid c.loop-lit.lit-index _ c.loop-lit-test.true refl c.loop-lit.invariant.grown new added.0.front added.1 c.loop-lit.invariant.has;
    }
