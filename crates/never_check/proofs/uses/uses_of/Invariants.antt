use Rattle.std.proofs.Common.{◌≡◌, ℕ, ◌*◌, ◌&&◌, length, []}
use Rattle.std.specs.Prelude.{slice_index_or, nat_lt}
use Rattle.gt_core.specs.Literal.{is_in}
use Rattle.never_check.proofs.uses.uses_of.Given as goal

abbrev pub invariant-loop-number : goal.invariant-loop-number
invariant-loop-number l = record {
  long : length l.uses.items ≡ 2 * l.facts;
  has : (m k : ℕ) → is_in (slice_index_or l.uses.items m []) k ≡ (nat_lt k l.number && is_in (slice_index_or l.clauses k []) m);
}
