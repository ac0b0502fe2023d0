use Rattle.std.proofs.Common.{◌∙◌, refl}
use Rattle.clause_base.specs.declared.log.Entry.TheVariants.{Learn}
use Rattle.rup_check.proofs.TakenLaws.{learn_after, sound_after, taken_after, true_ok, ok_true}
use Rattle.rup_check.proofs.checker.Checker.learn.Goals as goal

pub invariant_of-self-2 : goal.invariant_of-self-2
invariant_of-self-2 c = (
  sound_after _ _ (Learn c.args.clause.now c.args.hints.now) c.in_ok-taken.taken
      (learn_after _ _ c.args.clause.now c.args.hints.now c.in_ok-taken.taken refl c.in_ok-taken.ensures.answer c.in_ok-taken.ensures.dropped (λ e. c.in_ok-taken.ensures.learned (true_ok c.in_ok-taken.taken e)) (λ n. c.in_ok-taken.ensures.same (λ e. n (ok_true c.in_ok-taken.taken e))) c.refuted_with-self-inside.ensures)
      c.self.invariant.0,
  c.in_ok-taken.ensures.marks ∙ c.self.invariant.1,
)

pub returns-clause-taken : goal.returns-clause-taken
returns-clause-taken c =
    taken_after _ _ _ (Learn c.args.clause.now c.args.hints.now) c.in_ok-taken.taken c.self.view_is
    (learn_after _ _ c.args.clause.now c.args.hints.now c.in_ok-taken.taken refl c.in_ok-taken.ensures.answer c.in_ok-taken.ensures.dropped (λ e. c.in_ok-taken.ensures.learned (true_ok c.in_ok-taken.taken e)) (λ n. c.in_ok-taken.ensures.same (λ e. n (ok_true c.in_ok-taken.taken e))) c.refuted_with-self-inside.ensures)
