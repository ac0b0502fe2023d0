use Rattle.std.proofs.Common.{◌≡◌, ◌++◌, drop}
use Rattle.never_form.proofs.adds.add_rest.Given as goal

abbrev pub invariant-loop-number : goal.invariant-loop-number
invariant-loop-number l =
    (l.formula ≡ record l.initial.formula { clauses = l.formula.clauses })
    × (l.initial.formula.clauses ++ drop l.start l.one.clauses ≡ l.formula.clauses ++ drop l.number l.one.clauses)
