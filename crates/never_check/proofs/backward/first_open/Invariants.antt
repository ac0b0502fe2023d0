use Rattle.std.proofs.Common.{◌≡◌, ◌++◌, map, take}
use Rattle.std.specs.List.{AllByRecursion}
use Rattle.gt_core.specs.Literal.{opposite}
use Rattle.never_check.specs.Verdicts.{AreRefuted}
use Rattle.never_check.proofs.backward.first_open.Given as goal

abbrev pub invariant-loop-number : goal.invariant-loop-number
invariant-loop-number l = record {
  kept : l.trail ≡ l.initial.trail;
  all : AllByRecursion (λ c. AreRefuted l.plain (l.given.task.now.goal ++ map opposite c)) (take l.number l.given.clauses.now);
}
