use Rattle.std.proofs.Common.{◌≡◌, ◌+◌, length}
use Rattle.std.specs.List.{flat_map}
use Rattle.gt_core.specs.Literal.{range}
use Rattle.step_encoding.specs.own.Parts.{added}
use Rattle.step_encoding.proofs.Parts.{initial_part}
use Rattle.step_encoding.proofs.ends.add_initial.Given as goal

abbrev pub invariant-loop-f : goal.invariant-loop-f
invariant-loop-f l =
    (l.formula ≡ added l.initial.formula (flat_map (initial_part l.layout l.task) (range l.f)))
    × (length l.formula.clauses ≡ length l.initial.formula.clauses + l.f)
