use Rattle.std.proofs.Common.{◌≡◌, drop}
use Rattle.grounding_defs.specs.Instance.{literals_of}
use Rattle.grounding_defs.specs.Simplify.{any_never}
use Rattle.grounder.proofs.literals.any_never.Given as goal

abbrev pub invariant-loop-cond : goal.invariant-loop-cond
invariant-loop-cond l =
    any_never l.known.domains.now l.known.facts (literals_of l.objects (drop l.cond-index l.conds)) ≡ any_never l.known.domains.now l.known.facts (literals_of l.objects l.conds)
