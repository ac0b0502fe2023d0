use Rattle.std.proofs.Common.{◌≡◌, drop}
use Rattle.grounding_defs.specs.Instance.{literals_of}
use Rattle.grounding_defs.specs.Found.{all_may_hold}
use Rattle.grounder.proofs.literals.all_may_hold.Given as goal

abbrev pub invariant-loop-cond : goal.invariant-loop-cond
invariant-loop-cond l =
    all_may_hold l.reached (literals_of l.objects (drop l.cond-index l.conds)) ≡ all_may_hold l.reached (literals_of l.objects l.conds)
