use Rattle.std.proofs.Common.{arith, ◌∙◌, ◌&&◌, ◌<◌, ap, not, subst, sym, ℕ}
use Rattle.std.proofs.lemmas.Bool.{OnTrue_at}
use Rattle.bit_sets.specs.Rows.{row_has}
use Rattle.gt_core.specs.Literal.{opposite}
use Rattle.gt_core.proofs.published.Basics.{apart, and_both}
use Rattle.implied_literals.proofs.published.Steps.{nothing_in, opposite_below}
use Rattle.implied_literals.proofs.renew.none_follows.Goals as goal

pub has_fewer-requires-clause-one : goal.has_fewer-requires-clause-one
has_fewer-requires-clause-one c m t = omega (arith, c.requires.set m t, c.requires.rules.clauses.few)

pub has_fewer-requires-clause-third : goal.has_fewer-requires-clause-third
has_fewer-requires-clause-third c m t = omega (arith, c.requires.lits m t, c.requires.rules.clauses.few)

pub add_told-requires-clause-few : goal.add_told-requires-clause-few
add_told-requires-clause-few c = omega (arith, c.requires.rules.clauses.long, c.requires.rules.clauses.few)

pub add_told-requires-clause-even : goal.add_told-requires-clause-even
add_told-requires-clause-even c = λ l lt.
    let long = c.requires.rules.clauses.long in
    subst (λ (n : ℕ). opposite l < n) (sym long) (opposite_below l c.args.rules.now.facts (subst (λ (n : ℕ). l < n) long lt))

pub add_told-requires-clause-set : goal.add_told-requires-clause-set
add_told-requires-clause-set c m t = omega (arith, c.requires.set m t, c.requires.rules.clauses.long)

pub add_partners-requires-clause-few : goal.add_partners-requires-clause-few
add_partners-requires-clause-few c = omega (arith, c.requires.rules.clauses.long, c.requires.rules.clauses.few)

pub add_partners-requires-clause-lits : goal.add_partners-requires-clause-lits
add_partners-requires-clause-lits c m t = omega (arith, c.requires.lits m t, c.requires.rules.clauses.long)

pub returns-then-has_fewer : goal.returns-then-has_fewer
returns-then-has_fewer c = λ t x y s l v.
    apart (row_has c.args.lits.now y && row_has c.add_told.new.told y) (and_both _ _ l (c.in_ok-add_told.ensures.all x y s (c.requires.rules.either (opposite x) y ∙ v)))
    (nothing_in (λ k. row_has c.args.lits.now k && row_has c.add_told.new.told k) c.least_common.result c.least_common.ensures (c.is_none.ensures ∙ ap not t) y)

pub returns : goal.returns
returns c = λ t x y s l v. OnTrue_at t c.is_apart.ensures x s (c.in_ok-add_partners.ensures y (opposite x) l v)
