use Rattle.std.proofs.Common.{◌≡◌, take}
use Rattle.std.specs.List.{AllByRecursion}
use Rattle.never_check.specs.Verdicts.{AreCasesRefuted}
use Rattle.never_check.proofs.forward.check_uses.Given as goal

abbrev pub invariant-loop-number : goal.invariant-loop-number
invariant-loop-number l = record {
  kept : l.trail ≡ l.initial.trail;
  all : AllByRecursion (AreCasesRefuted l.trial.rules.now l.trial.act.now) (take l.number-index l.number-items);
}
