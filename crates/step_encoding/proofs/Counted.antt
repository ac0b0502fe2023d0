use Rattle.std.proofs.Common.{arith, ◌≡◌, ℕ, zero, suc, ◌<◌, ◌+◌, ◌*◌, ◌≤◌, List, [], ◌∷◌, ◌++◌, map, length, refl, sym, ap, ◌∙◌, subst}
use Rattle.gt_core.specs.Literal.{range}
use Rattle.gt_core.specs.Task.{Task}
use Rattle.gt_core.specs.Lawful.{conditional_in}
use Rattle.action_order.proofs.published.Lists.{range_more}
use Rattle.formula_defs.specs.Variables.{chain_variables_in}
use Rattle.formula_defs.specs.Coded.{literals_in, formula_of}
use Rattle.formula_defs.specs.Shift.{one_step, one_time}
use Rattle.formula_defs.proofs.published.InRange.{IsInRange}
use Rattle.formula_defs.proofs.published.SizeLaw.{size_law}
use Rattle.step_laws.specs.Form.{OrderedTask, IsOrderedTask}
use Rattle.step_chains.specs.Chains.{LinkedChains, AreChains}
use Rattle.step_encoding.specs.Limits.{most_literals}
use Rattle.step_encoding.specs.Numbers.{literals_of}
use Rattle.step_encoding.specs.own.Kept.{AreKept}
use Rattle.step_encoding.proofs.Whole.{layout_fits}
use Rattle.horizon_rates.specs.Limits.{last_horizon}

-- What a form keeps is what its layouts and formulas have.

-- the formula of any horizon has at least one time, and with a step it has one and two times
least : (n f g s k size : ℕ) → size ≡ f + g + n * s + (n + 1) * k → size ≤ most_literals → f + g + k ≤ most_literals
least n f g s k size e le = omega arith

smallest : (n f g s k size : ℕ) → size ≡ f + g + n * s + (n + 1) * k → size ≤ most_literals → 0 < n → f + g + s + 2 * k ≤ most_literals
smallest zero f g s k size e le lt = absurd (omega arith)
smallest (suc m) f g s k size e le lt = omega arith

-- the clauses of one step and of one time are those of a task's formula of a horizon
pub record HasParts (places : Task → List (List ℕ) → List (List ℕ × ℕ)) (now : OrderedTask) (n : ℕ) (step known : List (List ℕ)) : Type 0 where
  pub within : IsInRange now.task now.known.clauses (places now.task now.components)
  pub step_is : 0 < n → step ≡ one_step now.task (places now.task now.components)
  pub known_is : known ≡ one_time now.known.clauses

module _ (places : Task → List (List ℕ) → List (List ℕ × ℕ)) where
  abbrev at : OrderedTask → List (List ℕ × ℕ)
  at form = places form.task form.components

  abbrev formula_at : OrderedTask → ℕ → ℕ
  formula_at f n = literals_of (formula_of f.task f.known.clauses (at f) n)

  module _ (in_range : (form : OrderedTask) → IsOrderedTask form → IsInRange form.task form.known.clauses (places form.task form.components)) where
    pub numbers_fit : (form now : OrderedTask) (n actions conditional chains facts : ℕ) → form ≡ now → IsOrderedTask form → n ≤ last_horizon → literals_of (formula_of now.task now.known.clauses (at now) n) ≤ most_literals → actions ≡ length form.task.actions → conditional ≡ conditional_in form.task.actions → chains ≡ chain_variables_in form.task (at form) → facts ≡ form.task.facts → n * (actions + conditional + chains) + (n + 1) * facts ≤ 2147483647
    numbers_fit form now n actions conditional chains facts e is le small a b c d =
        rw (a, b, c, d) (layout_fits form.task form.known.clauses (at form) is.lawful (in_range form is) n le (subst (λ (f : OrderedTask). formula_at f n ≤ most_literals) (sym e) small))

    pub size_from : (form now : OrderedTask) (n facts goals k m per_step per_time : ℕ) → form ≡ now → IsOrderedTask form → facts ≡ form.task.facts → goals ≡ length form.task.goal → k ≡ n → m ≡ n → per_step ≡ literals_in (one_step form.task (at form)) → per_time ≡ literals_in (one_time form.known.clauses) → facts + goals + k * per_step + (m + 1) * per_time ≡ literals_of (formula_of now.task now.known.clauses (at now) n)
    size_from form now n facts goals k m per_step per_time e is a b c d f g =
        rw (a, b, c, d, f, g) (sym (size_law form.task form.known.clauses (at form) n (in_range form is)))
        ∙ ap (λ (f : OrderedTask). formula_at f n) e

    whole_at : (form now : OrderedTask) (n : ℕ) → form ≡ now → IsOrderedTask form → formula_at now n ≡ form.task.facts + length form.task.goal + n * literals_in (one_step form.task (at form)) + (n + 1) * literals_in (one_time form.known.clauses)
    whole_at form now n e is = ap (λ (f : OrderedTask). formula_at f n) (sym e) ∙ size_law form.task form.known.clauses (at form) n (in_range form is)

    -- the clauses that a form keeps are those of its formulas that are not too large
    step_kept : (form now : OrderedTask) (n effects per_step per_time : ℕ) (linked : LinkedChains) (step known : List (List ℕ)) → form ≡ now → AreKept places form effects linked per_step per_time step known → literals_of (formula_of now.task now.known.clauses (at now) n) ≤ most_literals → 0 < n → step ≡ one_step now.task (at now)
    step_kept form now n effects per_step per_time linked step known e is small some =
        let w = whole_at form now n e is.ordered in
        is.step_is (smallest n form.task.facts (length form.task.goal) per_step per_time _ (w ∙ rw (is.step_size, is.known_size)) small some)
        ∙ ap (λ (f : OrderedTask). one_step f.task (at f)) e

    time_kept : (form now : OrderedTask) (n effects per_step per_time : ℕ) (linked : LinkedChains) (step known : List (List ℕ)) → form ≡ now → AreKept places form effects linked per_step per_time step known → literals_of (formula_of now.task now.known.clauses (at now) n) ≤ most_literals → known ≡ one_time now.known.clauses
    time_kept form now n effects per_step per_time linked step known e is small =
        let w = whole_at form now n e is.ordered in
        is.known_is (least n form.task.facts (length form.task.goal) per_step per_time _ (w ∙ rw (is.step_size, is.known_size)) small)
        ∙ ap (λ (f : OrderedTask). one_time f.known.clauses) e

    pub has_parts : (form now : OrderedTask) (n effects per_step per_time : ℕ) (linked : LinkedChains) (step known : List (List ℕ)) → form ≡ now → AreKept places form effects linked per_step per_time step known → literals_of (formula_of now.task now.known.clauses (at now) n) ≤ most_literals → HasParts places now n step known
    has_parts form now n effects per_step per_time linked step known e is small = record {
      within = in_range now (subst IsOrderedTask e is.ordered);
      step_is = λ some. step_kept form now n effects per_step per_time linked step known e is small some;
      known_is = time_kept form now n effects per_step per_time linked step known e is small;
    }

map_more : (g : ℕ → List ℕ) (xs : List ℕ) (y : ℕ) → map g (xs ++ y ∷ []) ≡ map g xs ++ g y ∷ []
map_more g [] y = refl
map_more g (x ∷ xs) y = ap (λ (r : List (List ℕ)). g x ∷ r) (map_more g xs y)

-- one more set
pub set_more : (g : ℕ → List ℕ) (t : ℕ) (x : List ℕ) (before after : List (List ℕ)) → before ≡ map g (range t) → x ≡ g t → after ≡ before ++ x ∷ [] → after ≡ map g (range (t + 1))
set_more g t x before after h e p =
    p ∙ ap (λ (r : List (List ℕ)). r ++ x ∷ []) h
    ∙ ap (λ (y : List ℕ). map g (range t) ++ y ∷ []) e
    ∙ sym (map_more g (range t) t)
    ∙ ap (map g) (sym (range_more t))

-- how many chain variables there are
pub variables_of : (chains : LinkedChains) (task : Task) (places : List (List ℕ × ℕ)) (count : ℕ) → count ≡ chains.variables → AreChains task places chains → count ≡ chain_variables_in task places
variables_of chains task places count e are = let a = are.variables in omega (arith, e, a)
