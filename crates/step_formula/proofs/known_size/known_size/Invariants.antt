use Rattle.std.proofs.Common.{◌≡◌, ◌+◌, ◌*◌, ◌≤◌, drop}
use Rattle.std.specs.List.{flat_map}
use Rattle.formula_defs.specs.Formula.{pair_clause}
use Rattle.formula_defs.specs.Coded.{coded, literals_in}
use Rattle.formula_defs.specs.Shift.{one_time}
use Rattle.step_formula.proofs.known_size.known_size.Given as goal

abbrev pub invariant-loop-i : goal.invariant-loop-i
invariant-loop-i l =
    (literals_in (one_time l.pairs.clauses) ≡ l.size + literals_in (coded (flat_map (pair_clause (λ f. f) l.pairs.clauses) (drop l.i l.pairs.clauses))))
    × (l.size ≤ 2 * l.i)
