use Rattle.std.proofs.Common.{◌≡◌, drop}
use Rattle.pd_words.specs.Types.{with_parents}
use Rattle.pd_words.proofs.types.add_parents.Given as goal

abbrev pub invariant-loop-parent : goal.invariant-loop-parent
invariant-loop-parent l = with_parents l.names (drop l.parent-index l.parents) ≡ with_parents l.fn.names l.parents
