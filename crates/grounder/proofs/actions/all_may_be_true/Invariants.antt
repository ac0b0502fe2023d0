use Rattle.std.proofs.Common.{◌≡◌, drop}
use Rattle.std.specs.List.{list_all}
use Rattle.grounding_defs.specs.Instance.{literals_of}
use Rattle.grounding_defs.specs.Found.{may_be_true}
use Rattle.grounder.proofs.actions.all_may_be_true.Given as goal

abbrev pub invariant-loop-cond : goal.invariant-loop-cond
invariant-loop-cond l =
    list_all (may_be_true l.known.domains.now l.known.facts) (literals_of l.objects (drop l.cond-index l.conds))
    ≡ list_all (may_be_true l.known.domains.now l.known.facts) (literals_of l.objects l.conds)
