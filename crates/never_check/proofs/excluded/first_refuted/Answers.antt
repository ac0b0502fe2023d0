use Rattle.std.proofs.Common.{arith, ◌∙◌, ◌∷◌, List, ℕ, [], length, take, sym, subst, refl}
use Rattle.std.specs.Prelude.{slice_index}
use Rattle.std.proofs.lemmas.List.{take_more, take_all}
use Rattle.never_check.specs.Verdicts.{IsLeast}
use Rattle.never_check.proofs.Grown.{front_then, when_true, when_false}
use Rattle.never_check.proofs.Least.{base_least, least_more, least_open}
use Rattle.never_check.proofs.excluded.first_refuted.Goals as goal

pub loop-place-init : goal.loop-place-init
loop-place-init c =
    let ls = c.args.trail.now.literals in
    record { facts = refl; front = take_all (length ls) ls (omega arith); least = base_least c.args.rules.now c.args.trail.now c.requires.base }

pub returns-then-branch-clause-told : goal.returns-then-branch-clause-told
returns-then-branch-clause-told c =
    let rules = c.args.rules.now in
    let lits = c.args.lits.now in
    let place = c.loop-place.place in
    let told = least_more rules (take place lits) (slice_index lits place ∷ []) c.in_ok-refutes.field-0 c.loop-place.trail c.refutes.new.trail c.loop-place.invariant.least c.in_ok-refutes.ensures.facts c.in_ok-refutes.ensures.told in
    (c.loop-place-test.true, (c.loop-place.trail, c.loop-place.invariant.least), when_true c.in_ok-refutes.field-0 _ c.if-branch.true told)

pub loop-place-preserved : goal.loop-place-preserved
loop-place-preserved c =
    let rules = c.args.rules.now in
    let lits = c.args.lits.now in
    let place = c.loop-place.place in
    let told = least_more rules (take place lits) (slice_index lits place ∷ []) c.in_ok-refutes.field-0 c.loop-place.trail c.refutes.new.trail c.loop-place.invariant.least c.in_ok-refutes.ensures.facts c.in_ok-refutes.ensures.told in
    record {
      facts = c.in_ok-refutes.ensures.facts ∙ c.loop-place.invariant.facts;
      front = front_then c.args.trail.now.literals c.loop-place.trail.literals c.refutes.new.trail.literals c.loop-place.invariant.front c.in_ok-refutes.ensures.front;
      least = subst (λ (ls : List ℕ). IsLeast rules ls c.refutes.new.trail) (sym (take_more lits place 0 c.loop-place-test.true)) (when_false c.in_ok-refutes.field-0 _ c.if-branch.false told);
    }

pub returns-clause-told : goal.returns-clause-told
returns-clause-told c =
    let lits = c.args.lits.now in
    least_open c.args.rules.now lits (c.loop-place.trail, subst (λ (ls : List ℕ). IsLeast c.args.rules.now ls c.loop-place.trail) (take_all c.loop-place.place lits c.loop-place-test.false) c.loop-place.invariant.least)
