use Rattle.std.proofs.Common.{◌*◌, ◌∙◌, ℕ, true, length, replicate, ap, subst}
use Rattle.propagation.specs.own.Given.{AreGiven}
use Rattle.propagation.proofs.Givens.{fit_store}
use Rattle.propagation.proofs.spare.OldTables.fitted.Goals as goal

pub renewed-requires-clause-fit : goal.renewed-requires-clause-fit
renewed-requires-clause-fit c =
    let v = c.variables-variables.ensures in
    let n = c.count-count.ensures in
    fit_store c.variables-variables.result c.args.formula.now.variables c.args.store.now.clauses c.args.formula.now.clauses v.value c.requires.same v.small n.lawful v.below

pub returns-clause-kept : goal.returns-clause-kept
returns-clause-kept c = c.in_ok-keep_all.ensures ∙ ap (λ (k : ℕ). replicate k true) c.count-count.ensures.value

pub returns-clause-given : goal.returns-clause-given
returns-clause-given c = subst (λ (k : ℕ). AreGiven (2 * k) c.args.store.now.clauses (length c.args.store.now.clauses) c.in_ok-given.given) c.variables-variables.ensures.value c.in_ok-given.ensures
