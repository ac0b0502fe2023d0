use Rattle.std.proofs.Common.{◌≡◌, ◌++◌, drop}
use Rattle.std.specs.List.{flat_map}
use Rattle.formula_defs.specs.Formula.{pair_clause}
use Rattle.formula_defs.specs.Coded.{coded}
use Rattle.formula_defs.specs.Shift.{one_time}
use Rattle.step_formula.proofs.known.one_time.Given as goal

abbrev pub invariant-loop-i : goal.invariant-loop-i
invariant-loop-i l = one_time l.pairs.clauses ≡ l.clauses ++ coded (flat_map (pair_clause (λ f. f) l.pairs.clauses) (drop l.i l.pairs.clauses))
