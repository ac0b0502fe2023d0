use Rattle.std.proofs.Common.{◌∙◌}
use Rattle.clause_base.specs.Repeats.{repeated}
use Rattle.clause_base.proofs.JoinedLemmas.{written_more}
use Rattle.clause_base.proofs.formula.write_out.Goals as goal

pub loop-number-preserved : goal.loop-number-preserved
loop-number-preserved c =
    written_more _ _ _ (repeated c.args.part.now) c.loop-number.number c.clause.result _ c.loop-number.invariant c.clause.ensures.value (c.deref.ensures.value ∙ c.in_ok-copy_into.ensures) c.in_ok-add_sorted.ensures.ok
