use Rattle.std.proofs.Common.{arith, ◌≡◌, ◌==◌, ℕ, ◌*◌, ◌<◌, List, reverse, length, Bool, true, false, refl, sym, subst, inl, inr}
use Rattle.gt_core.specs.Literal.{range}
use Rattle.gt_core.specs.Published.{Pairwise, order_of}
use Rattle.gt_core.proofs.published.Basics.{Among, apart, not_true, same_test, test_same}
use Rattle.gt_core.proofs.published.Literals.{among_range}
use Rattle.gt_core.proofs.published.Pairwise.{pairwise_map, among_flat, flat_among}
use Rattle.gt_core.proofs.published.PublishedLaw.{published_apart}
use Rattle.formula_defs.proofs.published.InRange.{IsInRange}
use Rattle.step_laws.specs.Form.{OrderedTask, IsOrderedTask}
use Rattle.step_laws.proofs.published.Ranges.{in_range_at}
use Rattle.step_laws.proofs.FormLaw.{listed_below}
use Rattle.step_chains.specs.BothWays.{ways}
use Rattle.step_laws.specs.own.AllPlan.{all_places}
use Rattle.step_laws.proofs.AllBackward.{among_back, pairwise_back}

-- The places of chains that go both ways.

module _ (form : OrderedTask) where
  abbrev order : List ℕ
  order = order_of form.components

  pub place_there : (m : ℕ) → m < 2 * form.task.facts → Among {A = List ℕ × ℕ} (order, m) (all_places form)
  place_there m lt = among_flat (ways true order) (range (2 * form.task.facts)) m (order, m) (among_range (2 * form.task.facts) 0 m (omega arith) (omega arith)) (inl refl)

  pub place_back : (m : ℕ) → m < 2 * form.task.facts → Among {A = List ℕ × ℕ} (reverse order, m) (all_places form)
  place_back m lt = among_flat (ways true order) (range (2 * form.task.facts)) m (reverse order, m) (among_range (2 * form.task.facts) 0 m (omega arith) (omega arith)) (inr (inl refl))

  -- what holds of the order and of its reverse holds of the members of each place
  pub each_place : (P : List ℕ → Type 0) → P order → P (reverse order) → (p : List ℕ × ℕ) → Among p (all_places form) → P p.0
  each_place P there back p i =
      let r = flat_among (ways true order) (range (2 * form.task.facts)) p i in
      elim r.2 [
        | inl e ↦ subst (λ (q : List ℕ × ℕ). P q.0) (sym e) there
        | inr j ↦ elim j [ inl e ↦ subst (λ (q : List ℕ × ℕ). P q.0) (sym e) back | inr none ↦ absurd none ]
      ]

  module _ (is : IsOrderedTask form) where
    pub all_in_range : IsInRange form.task form.known.clauses (all_places form)
    all_in_range = in_range_at form is (all_places form) (λ p i. each_place (λ ks. (a : ℕ) → Among a ks → a < length form.task.actions) (listed_below form is) (λ a j. listed_below form is a (among_back order a j)) p i)

    pub distinct_there : Pairwise (λ a b. (a == b) ≡ false) order
    distinct_there = published_apart form.task form.known.clauses form.components is.published

    pub distinct_back : Pairwise (λ a b. (a == b) ≡ false) (reverse order)
    distinct_back =
        pairwise_back (λ a b. (a == b) ≡ false) order
        (pairwise_map (λ a b. (a == b) ≡ false) (λ a b. (b == a) ≡ false) order (λ a b f. not_true (b == a) (λ e. apart (a == b) (same_test a b (sym (test_same b a e))) f)) distinct_there)
