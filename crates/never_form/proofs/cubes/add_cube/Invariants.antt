use Rattle.std.proofs.Common.{◌≡◌, ◌≤◌, ◌+◌, ◌++◌, drop, length}
use Rattle.never_form.specs.own.Parts.{made, cube}
use Rattle.never_form.proofs.cubes.add_cube.Given as goal

abbrev pub invariant-loop-lit : goal.invariant-loop-lit
invariant-loop-lit l =
    (l.formula ≡ record l.initial.formula { clauses = l.formula.clauses })
    × (l.initial.formula.clauses ++ made (cube l.base l.variable l.lits) ≡ l.formula.clauses ++ made (cube l.base l.variable (drop l.lit-index l.lits)))
    × (length l.formula.clauses ≤ length l.initial.formula.clauses + l.lit-index)
