-- A task is grounded in one way.
use Rattle.std.proofs.Common.{sym, ◌∙◌}
use Rattle.grounding_defs.specs.Found.{grounded_by}
use Rattle.grounding_defs.specs.Laws.{OneResult}
use Rattle.grounding_defs.proofs.published.Orders.{atoms, calls}
use Rattle.grounding_defs.proofs.published.Sets.{unique}
use Rattle.grounding_defs.proofs.published.Members.{atom_among, among_atom, call_among, among_call}
use Rattle.grounding_defs.proofs.Whole.{made}

pub one_result : OneResult
one_result p g h is also =
    let same_facts = unique _ atoms g.facts h.facts is.facts_sorted also.facts_sorted
    (λ a t. atom_among a h.facts ((also.fact_is a).1 ((is.fact_is a).0 (among_atom a g.facts t))))
    (λ a t. atom_among a g.facts ((is.fact_is a).1 ((also.fact_is a).0 (among_atom a h.facts t)))) in
    let same_calls = unique _ calls g.calls h.calls is.calls_sorted also.calls_sorted
    (λ c t. call_among c h.calls ((also.call_is c).1 ((is.call_is c).0 (among_call c g.calls t))))
    (λ c t. call_among c g.calls ((is.call_is c).1 ((also.call_is c).0 (among_call c h.calls t)))) in
    sym (made p g is) ∙ (λ i. grounded_by p (same_facts i) (same_calls i)) ∙ made p h also
