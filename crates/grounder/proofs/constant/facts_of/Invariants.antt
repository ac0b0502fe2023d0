use Rattle.std.proofs.Common.{◌≡◌}
use Rattle.std.specs.Prelude.{not}
use Rattle.std.specs.List.{filter}
use Rattle.pd_model.specs.State.{is_in}
use Rattle.grounder.proofs.constant.facts_of.Given as goal

abbrev pub invariant-loop-atom : goal.invariant-loop-atom
invariant-loop-atom l = l.facts.items ≡ filter (λ a. not (is_in a l.constant)) l.yielded
