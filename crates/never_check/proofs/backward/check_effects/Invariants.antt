use Rattle.std.proofs.Common.{◌≡◌, ℕ, [], take, true}
use Rattle.std.specs.Prelude.{slice_index_or}
use Rattle.std.specs.List.{AllByRecursion}
use Rattle.gt_core.specs.Literal.{is_in}
use Rattle.never_check.specs.BackwardVerdicts.{IsStepRefuted}
use Rattle.never_check.proofs.backward.check_effects.Given as goal

abbrev pub invariant-loop-effect : goal.invariant-loop-effect
invariant-loop-effect l = record {
  before : l.before ≡ l.initial.before;
  after : l.after ≡ l.initial.after;
  all : AllByRecursion (λ e. (k : ℕ) → is_in (slice_index_or l.step.sides.now.whole.now.uses.now e.literal []) k ≡ true → IsStepRefuted l.step.sides.now.whole.now l.step.act.now k) (take l.effect-index l.effect-items);
}
