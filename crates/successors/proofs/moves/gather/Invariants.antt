use Rattle.std.proofs.Common.{◌≡◌, ℕ, ◌+◌, ◌*◌, ◌<◌, ◌||◌, Bool, drop}
use Rattle.std.specs.List.{AllByRecursion, list_any}
use Rattle.gt_core.specs.Literal.{is_in}
use Rattle.gt_core.specs.Active.{is_active}
use Rattle.successors.proofs.moves.gather.Given as goal

-- what the effects make is what those that are left make, and the facts that were gathered
abbrev pub invariant-loop-effect : goal.invariant-loop-effect
invariant-loop-effect l = record {
  deleted_within : AllByRecursion (λ f. f < l.facts) l.deletes.items;
  deleted : (s : ℕ → Bool) (f : ℕ) → list_any (is_active s (2 * f + 1)) l.effects ≡ (list_any (is_active s (2 * f + 1)) (drop l.effect-index l.effects) || is_in l.deletes.items f);
  added_within : AllByRecursion (λ f. f < l.facts) l.adds.items;
  added : (s : ℕ → Bool) (f : ℕ) → list_any (is_active s (2 * f + 0)) l.effects ≡ (list_any (is_active s (2 * f + 0)) (drop l.effect-index l.effects) || is_in l.adds.items f);
}
