use Rattle.std.proofs.Common.{arith, ◌+◌, ◌<◌, ◌++◌, ◌∷◌, [], ℕ, List, false, length, ap, sym, ◌∙◌, subst, refl}
use Rattle.std.specs.List.{AllByRecursion}
use Rattle.step_chains.specs.declared.link.Link.{Link}
use Rattle.step_chains.specs.own.Links.{link_count}
use Rattle.step_chains.specs.Chains.{LinkedChains, HasRoom}
use Rattle.step_chains.proofs.published.ExtendLaw.{linked, none_found, one_found, within_more}
use Rattle.step_chains.proofs.chains.Chains.add.Goals as goal

pub returns-then-count-eq0-clause-added : goal.returns-then-count-eq0-clause-added
returns-then-count-eq0-clause-added c task members m is =
    none_found task members m c.args.self.now (ap (link_count false) (sym is) ∙ sym c.count-count.ensures.count ∙ c.if-count-eq0.true)

pub invariant_of-self-2 : goal.invariant_of-self-2
invariant_of-self-2 c =
    let old : LinkedChains = record { actions = c.self.inside.actions; chains = c.self.inside.chains.items; variables = c.self.inside.variables } in
    within_more old _ c.in_ok-links.links.items c.self.invariant
    (subst (λ (f : LinkedChains). AllByRecursion (λ k. k.action < f.actions) c.in_ok-links.links.items) (sym c.self.view_is) (subst (λ (ls : List Link). AllByRecursion (λ k. k.action < c.args.self.now.actions) ls) (sym c.in_ok-links.ensures.items) c.requires.actions))
    c.in_ok-push.ensures.items
    (ap (λ (n : ℕ). c.self.inside.variables + n) (c.count-count.ensures.count ∙ ap (link_count false) (sym c.in_ok-links.ensures.items)))
    refl
    (let n = c.count-count.ensures.count ∙ ap (link_count false) (sym c.in_ok-links.ensures.items) in let m = ap length (sym c.in_ok-links.ensures.items) in let f = c.count-count.ensures.few in omega (arith, n, m, f))
    (subst (λ (f : LinkedChains). HasRoom f (length c.in_ok-links.links.items)) (sym c.self.view_is) (subst (λ (ls : List Link). HasRoom c.args.self.now (length ls)) (sym c.in_ok-links.ensures.items) c.requires.room))

pub returns-clause-added : goal.returns-clause-added
returns-clause-added c task members m is =
    one_found task members m c.args.self.now _ c.in_ok-links.links.items (c.in_ok-links.ensures.items ∙ is)
    (c.in_ok-push.ensures.items ∙ ap (λ (f : LinkedChains). f.chains ++ linked f.variables c.in_ok-links.links.items ∷ []) c.self.view_is)
    (ap (λ (n : ℕ). c.self.inside.variables + n) (c.count-count.ensures.count ∙ ap (link_count false) (sym c.in_ok-links.ensures.items))
    ∙ ap (λ (f : LinkedChains). f.variables + link_count false c.in_ok-links.links.items) c.self.view_is)
    (ap (λ (f : LinkedChains). f.actions) c.self.view_is)
