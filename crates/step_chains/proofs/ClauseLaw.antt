use Rattle.std.proofs.Common.{◌≡◌, ◌+◌, ◌≤◌, ◌<◌, ℕ, List, [], ◌∷◌, ◌++◌, length, false, sym, ap, ◌∙◌, drop, get_or}
use Rattle.std.proofs.lemmas.List.{drop_more, drop_all, append-nil}
use Rattle.gt_core.specs.Task.{Task}
use Rattle.formula_defs.specs.Coded.{coded}
use Rattle.formula_defs.specs.Formula.{chain_clauses}
use Rattle.formula_defs.specs.Variables.{chains, chains_from}
use Rattle.step_chains.specs.own.Links.{enter_links, pass_links}
use Rattle.step_chains.specs.Chains.{LinkedChain, LinkedChains, all_clauses, AreChains}
use Rattle.step_chains.proofs.WalkLaw.{append_coded}

-- The clauses of chains, chain after chain.

module _ (act var : ℕ → ℕ) where
  pub chain_next :
      (chains items : List LinkedChain) (i : ℕ) (d k : LinkedChain) (before mid after : List (List ℕ))
      → items ≡ chains → i < length items → k ≡ get_or items i d
      → mid ≡ before ++ coded (enter_links act var false k.first k.links) → after ≡ mid ++ coded (pass_links act var false k.first k.links)
      → before ++ coded (all_clauses act var (drop i chains)) ≡ after ++ coded (all_clauses act var (drop (i + 1) chains))
  chain_next chains items i d k before mid after e lt is m a =
      let rest = all_clauses act var (drop (i + 1) chains) in
      let enters = enter_links act var false k.first k.links in
      let passes = pass_links act var false k.first k.links in
      let lt2 : i < length chains = rw e at lt in
      let here : drop i chains ≡ k ∷ drop (i + 1) chains = drop_more chains i d lt2 ∙ ap (λ (x : LinkedChain). x ∷ drop (i + 1) chains) (ap (λ (xs : List LinkedChain). get_or xs i d) (sym e) ∙ sym is) in
      ap (λ (cs : List LinkedChain). before ++ coded (all_clauses act var cs)) here
      ∙ append_coded before (enters ++ passes) rest
      ∙ ap (λ (cs : List (List ℕ)). cs ++ coded rest) (append_coded before enters passes ∙ ap (λ (cs : List (List ℕ)). cs ++ coded passes) (sym m) ∙ sym a)

  pub chains_done :
      (chains : List LinkedChain) (i : ℕ) (before after : List (List ℕ)) → length chains ≤ i
      → before ++ coded (all_clauses act var chains) ≡ after ++ coded (all_clauses act var (drop i chains)) → after ≡ before ++ coded (all_clauses act var chains)
  chains_done chains i before after le e =
      sym (append-nil after) ∙ ap (λ (cs : List LinkedChain). after ++ coded (all_clauses act var cs)) (sym (drop_all i chains le)) ∙ sym e

  pub are_clauses : (task : Task) (places : List (List ℕ × ℕ)) (f : LinkedChains) → AreChains task places f → all_clauses act var f.chains ≡ chain_clauses act var task (chains task places)
  are_clauses task places f are =
      sym (append-nil (all_clauses act var f.chains)) ∙ are.clauses act var []
      ∙ ap (λ (ps : List (List ℕ × ℕ)). chain_clauses act var task (chains_from task 0 ps)) (append-nil places)
