use Rattle.std.proofs.Common.{◌≡◌, ◌==◌, ℕ, ◌<◌, List, reverse, Bool, true, false, sym, ap, ◌∙◌}
use Rattle.std.specs.List.{filter}
use Rattle.gt_core.specs.Literal.{is_in}
use Rattle.gt_core.specs.Interference.{disables}
use Rattle.gt_core.specs.AllStep.{NoneDisables}
use Rattle.gt_core.specs.Published.{order_of}
use Rattle.formula_defs.specs.Layout.{Layout, action_at, chain_at}
use Rattle.gt_core.proofs.published.Literals.{in_among}
use Rattle.gt_core.proofs.published.Pairwise.{filtered}
use Rattle.gt_core.proofs.published.EachOrder.{itself}
use Rattle.clause_base.specs.Formula.{Satisfies}
use Rattle.formula_defs.specs.Coded.{formula_of}
use Rattle.formula_defs.specs.Variables.{layout_of}
use Rattle.formula_defs.proofs.published.CodedLaw.{decoded}
use Rattle.step_laws.specs.Form.{OrderedTask, IsOrderedTask, set_at, member_at, steps_at}
use Rattle.step_laws.proofs.OrderLaw.{within}
use Rattle.step_laws.proofs.PlanLaw.{IsOrderedBy, plan_of}
use Rattle.step_laws.proofs.FormLaw.{plans_at}
use Rattle.step_laws.proofs.published.SetAt.{set_of}
use Rattle.step_laws.specs.own.AllPlan.{all_places, IsAllPlanOf}
use Rattle.step_laws.proofs.AllBackward.{pairwise_front, any_two}
use Rattle.step_laws.proofs.AllWays.{place_there, place_back, all_in_range}

-- What a satisfying assignment stands for is a plan of all-steps.

module _ (form : OrderedTask) (is : IsOrderedTask form) (n : ℕ) (v : ℕ → Bool) (s : Satisfies v (formula_of form.task form.known.clauses (all_places form) n).clauses) where
  abbrev order : List ℕ
  order = order_of form.components

  abbrev z : Layout
  z = layout_of form.task (all_places form) n

  -- the true actions are ordered forward, and backward
  forward : IsOrderedBy form.task form.known.clauses (all_places form) order z v
  forward t k runs clash cs = within v (action_at z t) (chain_at z t) form.task (all_places form) order (all_in_range form is).effect_facts cs (place_there form)

  backward : IsOrderedBy form.task form.known.clauses (all_places form) (reverse order) z v
  backward t k runs clash cs = within v (action_at z t) (chain_at z t) form.task (all_places form) (reverse order) (all_in_range form is).effect_facts cs (place_back form)

  -- no true action disables another
  none_at : (t : ℕ) → t < n → NoneDisables form.task (member_at (steps_at form (all_places form) n v) t)
  none_at t lt a b x y =
      let acts : ℕ → Bool = λ a. v (action_at z t a) in
      let R : ℕ → ℕ → Type 0 = λ a b. acts a ≡ true → acts b ≡ true → disables form.task a b ≡ false in
      let there = ((plan_of form.task form.known.clauses (all_places form) order n v forward (decoded v _ s)).leads t lt).ordered in
      let back = ((plan_of form.task form.known.clauses (all_places form) (reverse order) n v backward (decoded v _ s)).leads t lt).ordered in
      let set : set_at (steps_at form (all_places form) n v) t ≡ filter acts order = set_of (λ k. filter (λ a. v (action_at z k a)) order) n t lt in
      let i = filtered acts order a (in_among _ a (ap (λ (ks : List ℕ). is_in ks a) (sym set) ∙ x)) in
      let j = filtered acts order b (in_among _ b (ap (λ (ks : List ℕ). is_in ks b) (sym set) ∙ y)) in
      any_two R order there (pairwise_front R order back) (λ k p q. itself form.task k) a b i.0 j.0 i.1 j.1

  pub all_plans : IsAllPlanOf form n (steps_at form (all_places form) n v)
  all_plans = let p = plans_at form is (all_places form) n v forward s in record { long = p.long; plan = record { plan = p.plan; none = none_at } }
