use Rattle.std.proofs.Common.{◌<◌, ℕ, sym, subst}
use Rattle.std.specs.List.{AllByRecursion}
use Rattle.step_chains.proofs.chains.Chains.add_ways.Goals as goal

pub add_backward-requires-clause-actions : goal.add_backward-requires-clause-actions
add_backward-requires-clause-actions c = subst (λ (n : ℕ). AllByRecursion (λ k. k.action < n) c.args.links.now) (sym c.add.ensures.actions) c.requires.actions
