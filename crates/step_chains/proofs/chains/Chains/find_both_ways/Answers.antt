use Rattle.std.proofs.Common.{ℕ, List, ◌<◌, length, sym, ◌∙◌, subst}
use Rattle.std.specs.List.{AllByRecursion}
use Rattle.step_chains.proofs.published.ExtendLaw.{each_of_order}
use Rattle.step_chains.proofs.chains.Chains.find_both_ways.Goals as goal

pub add_members-requires-clause-members : goal.add_members-requires-clause-members
add_members-requires-clause-members c =
    subst (λ (ks : List ℕ). AllByRecursion (λ a. a < length c.args.task.now.actions) ks) (sym (c.as_slice.ensures.value ∙ c.in_ok-actions.ensures.all))
    (each_of_order (λ a. a < length c.args.task.now.actions) c.args.order.now c.requires.members)
