use Rattle.std.proofs.Common.{◌≡◌, ◌<◌, ℕ, true}
use Rattle.std.specs.Prelude.{slice_index}
use Rattle.std.specs.List.{AllByRecursion}
use Rattle.gt_core.specs.Literal.{is_in}
use Rattle.never_defs.specs.After.{holds_surely}
use Rattle.never_check.specs.Sure.{IsSure}
use Rattle.never_check.proofs.after.still_sure.Given as goal

abbrev pub invariant-loop-place : goal.invariant-loop-place
invariant-loop-place l = record {
  sure : AllByRecursion (IsSure l.trail l.act) l.sure.items;
  all :
      (k : ℕ) → k < l.place → holds_surely (is_in l.trail.literals) l.act (slice_index l.trail.literals k) ≡ true
      → is_in l.sure.items (slice_index l.trail.literals k) ≡ true;
}
