-- Supporters are within the layout, and so are their variables in each step.
use Rattle.std.proofs.Common.{arith, ◌≡◌, ℕ, zero, suc, ◌+◌, ◌*◌, ◌/◌, ◌<◌, ◌≤◌, List, [], ◌∷◌, length, map, Bool, true, false, Option, Some, None, if◌then◌else◌, nat_le, nat_lt, refl, sym, ap, ◌∙◌, subst}
use Rattle.std.specs.Prelude.{slice_index_or}
use Rattle.std.specs.List.{AllByRecursion}
use Rattle.std.proofs.lemmas.List.{length-map}
use Rattle.std.proofs.lemmas.Bool.Decides.{nat_tests}
use Rattle.clause_base.specs.Clause.{IsRising}
use Rattle.clause_base.specs.Choice.{Known}
use Rattle.gt_core.specs.Task.{Task}
use Rattle.formula_defs.specs.Layout.{Layout, width, variables}
use Rattle.gt_core.specs.Lawful.{are_rising, is_task}
use Rattle.gt_core.specs.Literal.{range_from}
use Rattle.gt_core.proofs.published.Basics.{and_split}
use Rattle.formula_defs.proofs.published.LayoutLaw.{product_le}
use Rattle.gt_core.proofs.published.Within.{lawful, literals_within}
use Rattle.goal_choice.specs.Means.{Supporter, variable_from, start_of}
use Rattle.goal_choice.specs.Walk.{has_value, lesser, least_with}
use Rattle.goal_choice.specs.own.Members.{IsWithin, AreMeans}

-- what holds of all supporters holds of the least one
abbrev Holds : (Supporter → Type 0) → Option Supporter → Type 0
Holds P None = Unit {0}
Holds P (Some s) = P s

lesser_holds : (P : Supporter → Type 0) (s : Supporter) (o : Option Supporter) → P s → Holds P o → Holds P (lesser s o)
lesser_holds P s None h k = h
lesser_holds P s (Some r) h k = by (nat_le s.variable r.variable)
  where
    by : (b : Bool) → Holds P (if b then Some s else Some r)
    by true = h
    by false = k

least_holds : (P : Supporter → Type 0) (values : Known) (value : Option Bool) (start : ℕ) (ss : List Supporter) → AllByRecursion P ss → Holds P (least_with values value start ss)
least_holds P values value start [] a = tt
least_holds P values value start (s ∷ ss) a = by (has_value values (variable_from start s) value) (least_holds P values value start ss a.1)
  where
    by : (b : Bool) → Holds P (least_with values value start ss) → Holds P (if b then lesser s (least_with values value start ss) else least_with values value start ss)
    by true h = lesser_holds P s (least_with values value start ss) a.0 h
    by false h = h

pub least_is : (P : Supporter → Type 0) (values : Known) (value : Option Bool) (start : ℕ) (ss : List Supporter) (s : Supporter) → AllByRecursion P ss → Some s ≡ least_with values value start ss → P s
least_is P values value start ss s a e = subst (Holds P) (sym e) (least_holds P values value start ss a)

each_weaker : (P Q : Supporter → Type 0) (ss : List Supporter) → ((s : Supporter) → P s → Q s) → AllByRecursion P ss → AllByRecursion Q ss
each_weaker P Q [] h a = tt
each_weaker P Q (s ∷ ss) h a = (h s a.0, each_weaker P Q ss h a.1)

step_below : (z : Layout) (t v : ℕ) → t < z.horizon → v < z.actions + z.conditional → t * width z + v < variables z
step_below z t v lt h =
    let le : t + 1 ≤ z.horizon = omega arith in
    let m = product_le (t + 1) z.horizon (width z) le in
    omega (arith, m, h)

-- the variables of supporters in a step have values
pub in_step : (z : Layout) (n start t : ℕ) (ss : List Supporter) → start ≡ start_of z t → t < z.horizon → n ≡ variables z → AllByRecursion (IsWithin z) ss → AllByRecursion (λ s. variable_from start s < n) ss
in_step z n start t ss e lt l a = each_weaker (IsWithin z) (λ s. variable_from start s < n) ss (λ s w. let b = step_below z t s.variable lt w.variable in omega (arith, b, e, l)) a

pub needs_within : (z : Layout) (values : Known) (value : Option Bool) (start : ℕ) (ss : List Supporter) (s : Supporter) → AllByRecursion (IsWithin z) ss → Some s ≡ least_with values value start ss → AllByRecursion (λ l. l / 2 < z.facts) s.needs
needs_within z values value start ss s a e = (least_is (IsWithin z) values value start ss s a e).needs

-- the variable of the least one that is open is small
pub least_small : (z : Layout) (values : Known) (start t : ℕ) (ss : List Supporter) (s : Supporter) → start ≡ start_of z t → t < z.horizon → length values ≡ variables z → variables z ≤ 2147483647 → AllByRecursion (IsWithin z) ss → Some s ≡ least_with values None start ss → start + s.variable ≤ 2147483647
least_small z values start t ss s e lt l small a h =
    let below = least_is (λ r. variable_from start r < length values) values None start ss s (in_step z (length values) start t ss e lt l a) h in
    omega (arith, below, l, small)

rising_by : (top low : ℕ) (ls : List ℕ) → are_rising top low ls ≡ true → IsRising ls
rising_by top low [] e = tt
rising_by top low (l ∷ []) e = tt
rising_by top low (l ∷ m ∷ ls) e =
    let x = and_split (nat_le low l) _ e in
    let y = and_split (nat_lt l top) _ x.1 in
    let z = and_split (nat_le (l + 1) m) _ y.1 in
    let lt : l < m = let t : nat_le (l + 1) m ≡ true = z.0 in grind (arith, nat_tests) in
    (lt, rising_by top (l + 1) (m ∷ ls) y.1)

range_length : (k n : ℕ) → length (range_from k n) ≡ n
range_length k zero = refl
range_length k (suc n) = ap suc (range_length (k + 1) n)

-- what is gathered from a task is as it must be
pub means_are : (task : Task) (z : Layout) (goal : List ℕ) (f : ℕ → List Supporter) (lists : List (List Supporter)) → is_task task ≡ true → z.facts ≡ task.facts → goal ≡ task.goal → lists ≡ map f (range_from 0 (2 * task.facts)) → ((l : ℕ) → AllByRecursion (IsWithin z) (slice_index_or lists l [])) → AreMeans (record { layout = z; goal = goal; supporters = lists })
means_are task z goal f lists t e g h a =
    let l = lawful task t in
    let few = l.facts in
    record {
      few = omega (arith, few, e);
      rising = subst IsRising (sym g) (rising_by (2 * task.facts) 0 task.goal l.goal);
      goal = subst (λ (n : ℕ). AllByRecursion (λ k. k / 2 < n) goal) (sym e) (subst (λ (ks : List ℕ). AllByRecursion (λ k. k / 2 < task.facts) ks) (sym g) (literals_within task.facts task.goal l.goal));
      long = ap (λ (ls : List (List Supporter)). length ls) h ∙ length-map (range_from 0 (2 * task.facts)) f ∙ range_length 0 (2 * task.facts) ∙ ap (λ (n : ℕ). 2 * n) (sym e);
      each = a;
    }
