use Rattle.std.proofs.Common.{◌≡◌, ◌≤◌, ◌+◌, drop}
use Rattle.step_encoding.specs.Limits.{most_literals}
use Rattle.never_form.specs.Formed.{needed}
use Rattle.never_form.proofs.counted.counted.Given as goal

abbrev pub invariant-loop-number : goal.invariant-loop-number
invariant-loop-number l =
    (l.count + needed (drop l.number l.clauses) ≤ l.begun + needed l.clauses)
    × (l.count ≤ most_literals → l.count + needed (drop l.number l.clauses) ≡ l.begun + needed l.clauses)
