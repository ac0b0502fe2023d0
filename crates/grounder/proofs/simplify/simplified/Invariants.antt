use Rattle.std.proofs.Common.{◌≡◌, take}
use Rattle.std.specs.Prelude.{filter_map}
use Rattle.grounding_defs.specs.Instance.{literals_of}
use Rattle.grounding_defs.specs.Simplify.{number_of}
use Rattle.grounder.proofs.simplify.simplified.Given as goal

abbrev pub invariant-loop-cond : goal.invariant-loop-cond
invariant-loop-cond l = l.literals.items ≡ filter_map (number_of l.known.facts) (literals_of l.objects (take l.cond-index l.conds))
