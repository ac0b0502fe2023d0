use Rattle.std.proofs.Common.{◌≡◌, ◌==◌, ℕ, ◌||◌, ◌&&◌, length, take, []}
use Rattle.std.specs.Prelude.{slice_index_or}
use Rattle.gt_core.specs.Literal.{is_in}
use Rattle.never_check.proofs.uses.put_all.Given as goal

abbrev pub invariant-loop-lit : goal.invariant-loop-lit
invariant-loop-lit l = record {
  long : length l.uses.items ≡ length l.initial.uses.items;
  has :
      (m k : ℕ) → is_in (slice_index_or l.uses.items m []) k
      ≡ (is_in (slice_index_or l.initial.uses.items m []) k || (is_in (take l.lit-index l.clause) m && (l.number == k)));
}
