use Rattle.std.proofs.Common.{◌≡◌, ◌==◌, ◌/◌, List, false, length, drop}
use Rattle.std.specs.List.{list_any}
use Rattle.step_chains.specs.declared.link.Link.{Link}
use Rattle.step_chains.specs.own.Index.{Marks}
use Rattle.step_chains.proofs.index.LinkIndex.add_conditions.Given as goal

abbrev pub invariant-loop-effect : goal.invariant-loop-effect
invariant-loop-effect l =
    (length l.self ≡ length l.initial.self)
    × ((new : List (List Link)) → Marks l.a (λ m. false) (λ m. list_any (λ e. list_any (λ c. c / 2 == m / 2) e.condition) (drop l.effect-index l.effects)) l.self new → Marks l.a (λ m. false) (λ m. list_any (λ e. list_any (λ c. c / 2 == m / 2) e.condition) l.effects) l.initial.self new)
