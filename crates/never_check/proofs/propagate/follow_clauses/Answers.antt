use Rattle.std.proofs.Common.{arith, ◌≡◌, ◌<◌, ℕ, List, [], ap, sym, refl, ◌∙◌, length, subst, true}
use Rattle.std.specs.Prelude.{slice_index_or}
use Rattle.gt_core.specs.Literal.{opposite, is_in}
use Rattle.implied_literals.proofs.published.Steps.{opposite_below}
use Rattle.never_check.proofs.Grown.{when_true, when_false, front_in, default_same}
use Rattle.never_check.proofs.Following.{clause_among, clauses_clash, clauses_grown, told_more, told_each}
use Rattle.never_check.proofs.propagate.follow_clauses.Goals as goal

pub returns-then-branch-clause-told : goal.returns-then-branch-clause-told
returns-then-branch-clause-told c =
    let clauses = c.args.rules.now.clauses.now in
    let at = clause_among clauses _ c.at-clause.result.now c.at-clause.ensures in
    clauses_clash clauses c.args.trail.now.literals c.loop-number.trail.literals c.loop-number.invariant.grown c.at-clause.result.now at.0 (when_true c.in_ok-look.field-0 _ c.if-branch.true c.in_ok-look.ensures.told)

pub loop-number-preserved : goal.loop-number-preserved
loop-number-preserved c =
    let clauses = c.args.rules.now.clauses.now in
    let old = c.args.trail.now.literals in
    let mid = c.loop-number.trail.literals in
    let new = c.look.new.trail.literals in
    let at = clause_among clauses _ c.at-clause.result.now c.at-clause.ensures in
    let looked = when_false c.in_ok-look.field-0 _ c.if-branch.false c.in_ok-look.ensures.told in
    record {
      facts = c.in_ok-look.ensures.facts ∙ c.loop-number.invariant.facts;
      grown = clauses_grown clauses old mid c.loop-number.invariant.grown c.at-clause.result.now at.0 new looked.0;
      told = told_more clauses old mid new c.as_slice-numbers.result.now c.loop-number.number-index _ c.at-clause.result.now refl at.1 (front_in old mid c.loop-number.invariant.grown.front) (front_in mid new looked.0.front) c.loop-number.invariant.told looked.1;
    }

pub returns-clause-told : goal.returns-clause-told
returns-clause-told c =
    let rules = c.args.rules.now in
    let numbers = c.as_slice-numbers.result.now in
    let ends = c.loop-number-test.false in
    let within : c.opposite.result < length rules.uses.now = let o = opposite_below c.args.lit c.args.trail.now.facts c.requires.lit in let s = c.opposite.ensures in let long = c.requires.rules.uses.long in let f = c.requires.facts in omega (arith, o, s, long, f) in
    let same : numbers ≡ slice_index_or rules.uses.now (opposite c.args.lit) [] = c.as_slice-numbers.ensures ∙ default_same rules.uses.now c.opposite.result _ [] within ∙ ap (λ (k : ℕ). slice_index_or rules.uses.now k []) c.opposite.ensures in (
      c.loop-number.invariant.grown,
      λ k lt has.
          told_each rules.clauses.now c.args.trail.now.literals c.loop-number.trail.literals numbers (λ j below. c.loop-number.invariant.told j (omega (arith, ends, below)))
          k (subst (λ (ls : List ℕ). is_in ls k ≡ true) (sym same) (c.requires.rules.uses.each k (opposite c.args.lit) lt has)),
    )
