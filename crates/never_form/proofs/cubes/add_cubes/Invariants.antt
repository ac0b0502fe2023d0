use Rattle.std.proofs.Common.{◌≡◌, ◌≤◌, ◌+◌, ◌++◌, drop, length}
use Rattle.formula_defs.specs.Coded.{literals_in}
use Rattle.never_form.specs.own.Parts.{made, cubes}
use Rattle.never_form.proofs.cubes.add_cubes.Given as goal

abbrev pub invariant-loop-number : goal.invariant-loop-number
invariant-loop-number l =
    (l.formula ≡ record l.initial.formula { clauses = l.formula.clauses })
    × (l.initial.formula.clauses ++ made (cubes l.base l.first l.clauses) ≡ l.formula.clauses ++ made (cubes l.base (l.first + l.number) (drop l.number l.clauses)))
    × (length l.formula.clauses + literals_in (drop l.number l.clauses) ≤ length l.initial.formula.clauses + literals_in l.clauses)
