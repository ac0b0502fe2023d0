use Rattle.std.proofs.Common.{◌≡◌, ◌∷◌, [], take}
use Rattle.std.specs.List.{AllByRecursion}
use Rattle.never_check.specs.Verdicts.{HasLeast}
use Rattle.never_check.proofs.excluded.partner.Given as goal

abbrev pub invariant-loop-other : goal.invariant-loop-other
invariant-loop-other l = record {
  kept : l.trail ≡ l.initial.trail;
  each : AllByRecursion (λ a. HasLeast l.rules (a ∷ l.lit ∷ [])) (take l.other-index l.before);
}
