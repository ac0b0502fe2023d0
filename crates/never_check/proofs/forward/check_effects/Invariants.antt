use Rattle.std.proofs.Common.{◌≡◌, ℕ, [], take, true}
use Rattle.std.specs.Prelude.{slice_index_or}
use Rattle.std.specs.List.{AllByRecursion}
use Rattle.gt_core.specs.Literal.{opposite, is_in}
use Rattle.never_check.specs.Verdicts.{AreCasesRefuted}
use Rattle.never_check.proofs.forward.check_effects.Given as goal

abbrev pub invariant-loop-effect : goal.invariant-loop-effect
invariant-loop-effect l = record {
  kept : l.trail ≡ l.initial.trail;
  all : AllByRecursion (λ e. (k : ℕ) → is_in (slice_index_or l.trial.rules.now.uses.now (opposite e.literal) []) k ≡ true → AreCasesRefuted l.trial.rules.now l.trial.act.now k) (take l.effect-index l.effect-items);
}
