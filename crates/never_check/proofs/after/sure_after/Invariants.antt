use Rattle.std.proofs.Common.{◌≡◌, ℕ, true}
use Rattle.std.specs.Prelude.{take}
use Rattle.std.specs.List.{AllByRecursion}
use Rattle.gt_core.specs.Literal.{is_in}
use Rattle.never_defs.specs.After.{holds_surely}
use Rattle.never_check.specs.Sure.{IsSure}
use Rattle.never_check.proofs.after.sure_after.Given as goal

abbrev pub invariant-loop-effect : goal.invariant-loop-effect
invariant-loop-effect l = record {
  sure : AllByRecursion (IsSure l.trail l.act) l.sure.items;
  old : (m : ℕ) → is_in l.trail.literals m ≡ true → holds_surely (is_in l.trail.literals) l.act m ≡ true → is_in l.sure.items m ≡ true;
  all : AllByRecursion (λ e. holds_surely (is_in l.trail.literals) l.act e.literal ≡ true → is_in l.sure.items e.literal ≡ true) (take l.effect-index l.effect-items);
}
