use Rattle.std.proofs.Common.{List, [], get_or, sym, ap, ◌∙◌}
use Rattle.step_chains.specs.declared.link.Link.{Link}
use Rattle.step_chains.proofs.index.LinkIndex.next.Goals as goal

pub returns-clause-none : goal.returns-clause-none
returns-clause-none c k le lt =
    sym (ap (λ (xs : List (List Link)). get_or xs k []) c.self.view_is) ∙ c.self.invariant.0 k (c.next_touched.ensures.none k le lt)

pub returns-clause-touched : goal.returns-clause-touched
returns-clause-touched c lt none =
    c.self.invariant.1 c.next_touched.result (c.next_touched.ensures.some lt) (ap (λ (xs : List (List Link)). get_or xs c.next_touched.result []) c.self.view_is ∙ none)
