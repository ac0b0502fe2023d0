use Rattle.std.proofs.Common.{◌≡◌, ◌==◌, List, false, length, drop}
use Rattle.std.specs.List.{list_any}
use Rattle.gt_core.specs.Literal.{opposite}
use Rattle.step_chains.specs.declared.link.Link.{Link}
use Rattle.step_chains.specs.own.Index.{Marks}
use Rattle.step_chains.proofs.index.LinkIndex.add_takers.Given as goal

abbrev pub invariant-loop-effect : goal.invariant-loop-effect
invariant-loop-effect l =
    (length l.self ≡ length l.initial.self)
    × ((new : List (List Link)) → Marks l.a (λ m. list_any (λ e. e.literal == opposite m) (drop l.effect-index l.effects)) (λ m. false) l.self new → Marks l.a (λ m. list_any (λ e. e.literal == opposite m) l.effects) (λ m. false) l.initial.self new)
