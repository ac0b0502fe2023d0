use Rattle.std.proofs.Common.{◌≡◌, take, map}
use Rattle.pd_model.specs.Fits.{fitting}
use Rattle.grounder.proofs.bindings.domains_of.Given as goal

abbrev pub invariant-loop-kind : goal.invariant-loop-kind
invariant-loop-kind l = l.domains.items ≡ map (fitting l.lists) (take l.kind-index l.over)
