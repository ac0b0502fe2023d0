use Rattle.std.proofs.Common.{◌≡◌, ◌*◌, length, drop}
use Rattle.gt_core.specs.Published.{order_of}
use Rattle.formula_defs.specs.Variables.{chain_places}
use Rattle.step_chains.specs.Chains.{LinkedChains, Extends, HasRoom}
use Rattle.step_chains.proofs.chains.Chains.find.Given as goal

abbrev pub invariant-loop-members : goal.invariant-loop-members
invariant-loop-members l =
    (l.chains.actions ≡ length l.task.actions)
    × (length l.index ≡ 2 * l.task.facts)
    × HasRoom l.chains (4096 * length (order_of (drop l.members-index l.order)))
    × ((new : LinkedChains) → Extends l.task (chain_places l.task (drop l.members-index l.order)) l.chains new → Extends l.task (chain_places l.task l.order) l.initial.chains new)
