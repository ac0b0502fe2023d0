use Rattle.std.proofs.Common.{◌≡◌, ◌≤◌, ◌+◌, ◌++◌, drop, length, map}
use Rattle.never_form.specs.own.Parts.{made, moved}
use Rattle.never_form.proofs.adds.add_clauses.Given as goal

abbrev pub invariant-loop-number : goal.invariant-loop-number
invariant-loop-number l =
    (l.formula ≡ record l.initial.formula { clauses = l.formula.clauses })
    × (l.initial.formula.clauses ++ made (map (moved l.base) l.clauses) ≡ l.formula.clauses ++ made (map (moved l.base) (drop l.number l.clauses)))
    × (length l.formula.clauses ≤ length l.initial.formula.clauses + l.number)
