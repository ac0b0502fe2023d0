use Rattle.std.proofs.Common.{◌∙◌, ◌≡◌, sym, true}
use Rattle.gt_core.specs.Interference.{has_clause}
use Rattle.never_check.proofs.Grown.{when_true, when_false}
use Rattle.never_check.proofs.Beginning.{single_clash, single_grown, single_told}
use Rattle.never_check.proofs.begin.add_single.Goals as goal

pub returns-then-branch-clause-told : goal.returns-then-branch-clause-told
returns-then-branch-clause-told c =
    let single : has_clause c.args.known.now.clauses c.loop-lit.lit c.loop-lit.lit ≡ true = sym c.has.ensures ∙ c.if-not-has.false in
    single_clash c.args.known.now.clauses c.args.trail.now.literals c.loop-lit.trail.literals c.loop-lit.lit single c.loop-lit.invariant.grown (when_true c.in_ok-add.field-0 _ c.if-branch.true c.in_ok-add.ensures.told)

pub loop-lit-preserved : goal.loop-lit-preserved
loop-lit-preserved c =
    let known = c.args.known.now.clauses in
    let old = c.args.trail.now.literals in
    let mid = c.loop-lit.trail.literals in
    let new = c.add.new.trail.literals in
    let single : has_clause known c.loop-lit.lit c.loop-lit.lit ≡ true = sym c.has.ensures ∙ c.if-not-has.false in
    let added = when_false c.in_ok-add.field-0 _ c.if-branch.false c.in_ok-add.ensures.told in
    record {
      facts = c.in_ok-add.ensures.facts ∙ c.loop-lit.invariant.facts;
      grown = single_grown known old mid c.loop-lit.lit single c.loop-lit.invariant.grown new added.0;
      told = single_told known old mid c.loop-lit.lit single c.loop-lit.invariant.grown new added.0.front added.1 c.loop-lit.invariant.told;
    }
