use Rattle.std.proofs.Common.{◌≡◌, ◌≤◌, ◌∙◌, ap, List, ℕ, subst, sym}
use Rattle.grounding_defs.specs.Tuples.{saturated}
use Rattle.grounder.specs.own.Bindings.{size}
use Rattle.grounder.proofs.Few.{size_of_types, few_fits}
use Rattle.grounder.proofs.bindings.bindings_of.Goals as goal
use Rattle.grounding_defs.specs.Limits.{most_tuples}

pub returns : goal.returns
returns c =
    let p = c.args.lists.now in
    let over = c.args.over.now in
    let domains = c.in_ok-domains.domains.items in
    let same : size domains ≡ _ = ap size c.in_ok-domains.ensures ∙ size_of_types p over in
    record {
      domains = c.in_ok-domains.ensures;
      count = few_fits c.size_of-count.result (size domains) (c.size_of-count.ensures ∙ ap (λ (ds : List (List ℕ)). saturated (size ds)) c.deref.ensures.value) (subst (λ (n : ℕ). n ≤ most_tuples) (sym same) c.requires);
    }
