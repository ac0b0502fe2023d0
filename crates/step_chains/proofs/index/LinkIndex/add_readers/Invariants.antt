use Rattle.std.proofs.Common.{◌≡◌, List, false, length, drop}
use Rattle.gt_core.specs.Literal.{is_in}
use Rattle.step_chains.specs.declared.link.Link.{Link}
use Rattle.step_chains.specs.own.Index.{Marks}
use Rattle.step_chains.proofs.index.LinkIndex.add_readers.Given as goal

abbrev pub invariant-loop-lit : goal.invariant-loop-lit
invariant-loop-lit l =
    (length l.self ≡ length l.initial.self)
    × ((new : List (List Link)) → Marks l.a (λ m. false) (λ m. is_in (drop l.lit-index l.lits) m) l.self new → Marks l.a (λ m. false) (λ m. is_in l.lits m) l.initial.self new)
