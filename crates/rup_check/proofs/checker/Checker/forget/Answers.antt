use Rattle.std.proofs.Common.{refl}
use Rattle.clause_base.specs.declared.log.Entry.TheVariants.{Drop}
use Rattle.rup_check.proofs.TakenLaws.{forget_after, sound_after, taken_after, true_ok}
use Rattle.rup_check.proofs.checker.Checker.forget.Goals as goal

pub invariant_of-self : goal.invariant_of-self
invariant_of-self c = (
  sound_after _ _ (Drop c.args.number) c.forget_derived.result (forget_after _ _ c.args.number c.forget_derived.result refl c.forget_derived.ensures.answer c.forget_derived.ensures.named c.forget_derived.ensures.long c.forget_derived.ensures.count c.forget_derived.ensures.same_dropped c.forget_derived.ensures.same_learned refl) c.self.invariant.0,
  c.self.invariant.1,
)

pub returns-clause-taken : goal.returns-clause-taken
returns-clause-taken c = λ log h e.
    taken_after _ _ _ (Drop c.args.number) c.forget_derived.result c.self.view_is (forget_after _ _ c.args.number c.forget_derived.result refl c.forget_derived.ensures.answer c.forget_derived.ensures.named c.forget_derived.ensures.long c.forget_derived.ensures.count c.forget_derived.ensures.same_dropped c.forget_derived.ensures.same_learned refl) log h (true_ok c.forget_derived.result e)
