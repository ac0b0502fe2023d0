use Rattle.std.proofs.Common.{◌∙◌, ap}
use Rattle.rup_check.proofs.TakenLaws.{taken_none, sound_none, none_marked}
use Rattle.rup_check.proofs.checker.Checker.new.Goals as goal

pub invariant_of-result : goal.invariant_of-result
invariant_of-result c = (
  sound_none c.args.formula.now c.in_ok-kept.kept.dropped.items c.in_ok-kept.kept.learned c.count.result c.count.ensures.value c.variables.ensures.below c.in_ok-kept.ensures.dropped c.in_ok-kept.ensures.learned,
  c.in_ok-marks.ensures ∙ ap none_marked c.variables.ensures.value,
)

pub returns-clause-taken : goal.returns-clause-taken
returns-clause-taken c = taken_none c.args.formula.now c.in_ok-kept.kept.dropped.items c.in_ok-kept.kept.learned c.count.result c.in_ok-kept.ensures.dropped c.in_ok-kept.ensures.learned
