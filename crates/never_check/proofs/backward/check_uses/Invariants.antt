use Rattle.std.proofs.Common.{◌≡◌, take}
use Rattle.std.specs.List.{AllByRecursion}
use Rattle.never_check.specs.BackwardVerdicts.{IsStepRefuted}
use Rattle.never_check.proofs.backward.check_uses.Given as goal

abbrev pub invariant-loop-number : goal.invariant-loop-number
invariant-loop-number l = record {
  before : l.before ≡ l.initial.before;
  after : l.after ≡ l.initial.after;
  all : AllByRecursion (IsStepRefuted l.step.sides.now.whole.now l.step.act.now) (take l.number-index l.number-items);
}
