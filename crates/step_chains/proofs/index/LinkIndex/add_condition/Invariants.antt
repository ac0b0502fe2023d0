use Rattle.std.proofs.Common.{◌≡◌, ◌==◌, ◌/◌, List, false, length, drop}
use Rattle.std.specs.List.{list_any}
use Rattle.step_chains.specs.declared.link.Link.{Link}
use Rattle.step_chains.specs.own.Index.{Marks}
use Rattle.step_chains.proofs.index.LinkIndex.add_condition.Given as goal

abbrev pub invariant-loop-lit : goal.invariant-loop-lit
invariant-loop-lit l =
    (length l.self ≡ length l.initial.self)
    × ((new : List (List Link)) → Marks l.a (λ m. false) (λ m. list_any (λ c. c / 2 == m / 2) (drop l.lit-index l.lits)) l.self new → Marks l.a (λ m. false) (λ m. list_any (λ c. c / 2 == m / 2) l.lits) l.initial.self new)
