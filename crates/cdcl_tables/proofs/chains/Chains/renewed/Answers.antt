use Rattle.std.proofs.Common.{arith, ◌∙◌, List, ℕ, get_or, length, sym, ap, subst, None}
use Rattle.std.proofs.lemmas.List.{get_or-replicate, length-replicate}
use Rattle.cdcl_tables.specs.declared.chains.Node.{Node}
use Rattle.cdcl_tables.specs.Linked.{IsLinked}
use Rattle.cdcl_tables.proofs.Linking.{linked_none}
use Rattle.cdcl_tables.proofs.chains.Chains.renewed.Goals as goal

pub returns-clause-linked : goal.returns-clause-linked
returns-clause-linked c =
    let heads = c.refill.new.items.items in
    let same = c.in_ok-refill.ensures in
    subst (λ (xs : List Node). IsLinked heads xs (λ k. None)) (sym (c.reserve.ensures.items ∙ c.clear.ensures.items))
    (linked_none heads (λ k h. ap (λ (xs : List ℕ). get_or xs k 0) same ∙ get_or-replicate c.args.codes k 4294967295 0 (omega (arith, h, ap (λ (xs : List ℕ). length xs) same, length-replicate {A = ℕ} c.args.codes 4294967295))))
