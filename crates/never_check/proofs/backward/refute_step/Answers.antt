use Rattle.std.proofs.Common.{◌*◌, ◌∙◌, ℕ, List, map, ap, sym, subst}
use Rattle.gt_core.specs.Clauses.{KnownClauses}
use Rattle.gt_core.specs.Literal.{opposite}
use Rattle.gt_core.proofs.published.Basics.{each_at}
use Rattle.never_check.specs.Follow.{AreBelow}
use Rattle.never_check.proofs.Grown.{when_true, when_false}
use Rattle.never_check.proofs.Following.{clause_among}
use Rattle.never_check.proofs.Pairing.{turned_below}
use Rattle.never_check.proofs.Least.{least_more}
use Rattle.never_check.proofs.Stepping.{step_never, step_told}
use Rattle.never_check.proofs.backward.refute_step.Goals as goal

pub refutes-requires-clause-lits : goal.refutes-requires-clause-lits
refutes-requires-clause-lits c =
    let sides = c.args.step.now.sides.now in
    let whole = sides.whole.now in
    let at = clause_among whole.clauses.now c.args.number c.at.result.now c.at.ensures in
    let below = turned_below whole.known.now.facts c.at.result.now (each_at (AreBelow (2 * whole.known.now.facts)) whole.clauses.now c.at.result.now c.requires.assumed.step.sides.whole.over at.0) in
    let facts = c.requires.assumed.least.facts ∙ ap (λ (k : KnownClauses). k.facts) c.requires.assumed.step.sides.known in
    subst (λ (k : ℕ). AreBelow (2 * k) c.deref.result.now) (sym facts) (subst (λ (ls : List ℕ). AreBelow (2 * whole.known.now.facts) ls) (sym (c.deref.ensures.value ∙ c.in_ok-lits.ensures)) below)

pub returns-then-branch-clause-told : goal.returns-then-branch-clause-told
returns-then-branch-clause-told c =
    let plain = c.args.step.now.sides.now.plain.now in
    let whole = c.args.step.now.sides.now.whole.now in
    let at = clause_among whole.clauses.now c.args.number c.at.result.now c.at.ensures in
    let same = c.deref.ensures.value ∙ c.in_ok-lits.ensures ∙ ap (map opposite) (sym at.1) in
    let told = least_more plain c.args.step.now.act.now.precondition c.deref.result.now c.in_ok-refutes.field-0 c.args.before.now c.refutes.new.trail c.requires.assumed.least c.in_ok-refutes.ensures.facts c.in_ok-refutes.ensures.told in
    step_never plain whole c.requires.assumed.step.sides.known c.requires.assumed.step.sides.none c.args.step.now.act.now c.args.number c.deref.result.now same (when_true c.in_ok-refutes.field-0 _ c.if-branch.true told)

pub returns-clause-told : goal.returns-clause-told
returns-clause-told c =
    let plain = c.args.step.now.sides.now.plain.now in
    let whole = c.args.step.now.sides.now.whole.now in
    let at = clause_among whole.clauses.now c.args.number c.at.result.now c.at.ensures in
    let same = c.deref.ensures.value ∙ c.in_ok-lits.ensures ∙ ap (map opposite) (sym at.1) in
    let told = least_more plain c.args.step.now.act.now.precondition c.deref.result.now c.in_ok-refutes.field-0 c.args.before.now c.refutes.new.trail c.requires.assumed.least c.in_ok-refutes.ensures.facts c.in_ok-refutes.ensures.told in
    step_told plain whole c.requires.assumed.step.sides.known c.requires.assumed.step.sides.none c.args.step.now.act.now c.args.number c.deref.result.now same c.refutes.new.trail (when_false c.in_ok-refutes.field-0 _ c.if-branch.false told) c.in_ok-refuted.refuted c.in_ok-refuted.ensures.told
