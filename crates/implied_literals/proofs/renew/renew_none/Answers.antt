use Rattle.std.proofs.Common.{subst, sym, Bool, ℕ, List, ap, ◌∙◌}
use Rattle.std.specs.Prelude.{if◌then◌else◌}
use Rattle.bit_sets.specs.Rows.{row_has}
use Rattle.implied_literals.specs.Rows.{clause_in, IsClosure}
use Rattle.implied_literals.proofs.renew.renew_none.Goals as goal

pub returns-then-not-branch-clause-closure : goal.returns-then-not-branch-clause-closure
returns-then-not-branch-clause-closure c =
    let V = clause_in c.args.done.now.rules.now.clauses.now in
    subst (λ (first : ℕ → Bool). IsClosure V first (row_has c.args.none.now)) (λ i l. c.in_ok-next.ensures l i)
    (subst (λ (b : Bool). IsClosure V (row_has c.in_ok-next.next) (row_has (if b then c.renew.new.next else c.args.none.now))) c.if-not-branch.true c.in_ok-renew.ensures)

pub returns-clause-closure : goal.returns-clause-closure
returns-clause-closure c =
    let V = clause_in c.args.done.now.rules.now.clauses.now in
    subst (λ (first : ℕ → Bool). IsClosure V first (row_has c.make_same.new.self)) (λ i l. c.in_ok-next.ensures l i)
    (subst (λ (r : List ℕ). IsClosure V (row_has c.in_ok-next.next) (row_has r)) (sym c.in_ok-make_same.ensures)
    (subst (λ (b : Bool). IsClosure V (row_has c.in_ok-next.next) (row_has (if b then c.renew.new.next else c.args.none.now))) c.if-not-branch.false c.in_ok-renew.ensures))

pub returns-clause-same : goal.returns-clause-same
returns-clause-same c m f = ap (λ (r : List ℕ). row_has r m) c.in_ok-make_same.ensures ∙ c.in_ok-moved.ensures m f
