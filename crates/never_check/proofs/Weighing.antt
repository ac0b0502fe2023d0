-- Sums of weights of literals that pass a test.
use Rattle.std.proofs.Common.{arith, ◌≡◌, ◌+◌, ◌*◌, ◌<◌, ◌≤◌, ℕ, List, [], length, take, get_or, Bool, true, false, refl, ap, sym, subst, ◌∙◌}
use Rattle.std.specs.Prelude.{if◌then◌else◌, sum_by, MatchBool}
use Rattle.std.proofs.Math.Dec.{leb, ltb}
use Rattle.std.proofs.lemmas.Bool.{leb-true, leb-false, ltb-true, ltb-false}
use Rattle.std.proofs.lemmas.List.Sums.{sum_by_more, sum_by-le-sum_by, sum_by_more_le_part}
use Rattle.std.specs.List.{AllByRecursion}
use Rattle.gt_core.specs.Clauses.{KnownClauses}
use Rattle.gt_core.specs.Literal.{is_in}
use Rattle.gt_core.specs.Task.{Action, Task, initial_state}
use Rattle.gt_core.proofs.published.Basics.{apart}
use Rattle.never_defs.specs.Sets.{weight_of, weight_in}
use Rattle.never_defs.specs.After.{comes_perhaps, goes_surely}
use Rattle.never_defs.specs.Weights.{PassesWeights, GoalPassesWeights}
use Rattle.never_check.specs.Trail.{Reached}
use Rattle.never_check.specs.Rules.{ArePlain}
use Rattle.never_check.specs.Verdicts.{IsLeast, AreRefuted}
use Rattle.never_check.specs.WeightsVerdicts.{AreSummed}
use Rattle.never_check.specs.declared.rules.Rules.{Rules}
use Rattle.never_check.proofs.Least.{plain_refuted, plain_propagated, plain_least}
use Rattle.never_check.proofs.Surely.{comes_less, goes_more}

-- ---- sums

part_le : (b c : Bool) (w : ℕ) → (b ≡ true → c ≡ true) → (if b then w else 0) ≤ (if c then w else 0)
part_le true true w h = omega arith
part_le true false w h = absurd (apart _ (h refl) refl)
part_le false c w h = omega arith

-- a test that passes more literals has a larger sum
pub weight_more : (p q : ℕ → Bool) (weights : List (ℕ × ℕ)) → ((l : ℕ) → p l ≡ true → q l ≡ true) → weight_of p weights ≤ weight_of q weights
weight_more p q weights more = sum_by-le-sum_by (λ (w : ℕ × ℕ). if p w.0 then w.1 else 0) (λ (w : ℕ × ℕ). if q w.0 then w.1 else 0) weights (λ w. part_le (p w.0) (q w.0) w.1 (more w.0))

part_fits : (b : Bool) (w : ℕ) → (if b then w else 0) ≤ w
part_fits true w = omega arith
part_fits false w = omega arith

module _ (p : ℕ → Bool) (weights : List (ℕ × ℕ)) (i : ℕ) (d : ℕ × ℕ) (lt : i < length weights) where
  pub one_counts : weight_of p (take (i + 1) weights) ≡ weight_of p (take i weights) + (if p (get_or weights i d).0 then (get_or weights i d).1 else 0)
  one_counts = sum_by_more (λ (w : ℕ × ℕ). if p w.0 then w.1 else 0) weights i d lt

  -- one weight more fits, where all weights do
  pub one_fits : weight_of p (take i weights) + (if p (get_or weights i d).0 then (get_or weights i d).1 else 0) ≤ sum_by (λ (w : ℕ × ℕ). w.1) weights
  one_fits =
      let all = sum_by_more_le_part (λ (w : ℕ × ℕ). if p w.0 then w.1 else 0) (λ (w : ℕ × ℕ). w.1) weights i d lt (λ w. part_fits (p w.0) w.1) in
      let part = part_fits (p (get_or weights i d).0) (get_or weights i d).1 in
      omega (arith, all, part)

  -- the same of a sum so far and the next weight
  pub next_fits : sum_by (λ (w : ℕ × ℕ). w.1) weights ≤ 9223372036854775807 → (sum : ℕ) → sum ≡ weight_of p (take i weights) → (b : Bool) → b ≡ p (get_or weights i d).0
      → (here : ℕ) → here ≡ (if b then (get_or weights i d).1 else 0) → sum + here ≤ 9223372036854775807
  next_fits total sum is b same here part =
      let fits = one_fits in
      let here_is = part ∙ ap (λ (c : Bool). if c then (get_or weights i d).1 else 0) same in
      omega (arith, fits, total, is, here_is)

-- what a comparison of two sums tells
pub le_told : {P : Type 0} (m n : ℕ) → (m ≤ n → P) → ((m ≤ n → ⊥) → P → ⊥) → (b : Bool) → leb m n ≡ b → MatchBool b P (P → ⊥)
le_told m n holds fails true e = holds (leb-true m n e)
le_told m n holds fails false e = fails (λ le. let lt = leb-false m n e in omega (arith, le, lt))

pub lt_told : {P : Type 0} (m n : ℕ) → (m < n → P) → ((m < n → ⊥) → P → ⊥) → (b : Bool) → ltb m n ≡ b → MatchBool b P (P → ⊥)
lt_told m n holds fails true e = holds (ltb-true m n e)
lt_told m n holds fails false e = fails (λ lt. let le = ltb-false m n e in omega (arith, le, lt))

-- ---- actions and the goal

module _ (rules : Rules) (none : rules.clauses.now ≡ []) (weights : List (ℕ × ℕ)) where
  module _ (x : Action) (trail : Reached) (least : IsLeast rules x.precondition trail) where
    pub lasts : weight_of (comes_perhaps (is_in trail.literals) x) weights ≤ weight_of (goes_surely (is_in trail.literals) x) weights → PassesWeights rules.known.now.clauses weights x
    lasts le = λ set p apart_set.
        let within = plain_least rules none x.precondition trail least set p in
        let a = weight_more (comes_perhaps set x) (comes_perhaps (is_in trail.literals) x) weights (comes_less (is_in trail.literals) set within x) in
        let b = weight_more (goes_surely (is_in trail.literals) x) (goes_surely set x) weights (goes_more (is_in trail.literals) set within x) in
        omega (arith, a, b, le)

    pub rises : (weight_of (comes_perhaps (is_in trail.literals) x) weights ≤ weight_of (goes_surely (is_in trail.literals) x) weights → ⊥) → PassesWeights rules.known.now.clauses weights x → ⊥
    rises nay passes = nay (passes (is_in trail.literals) (plain_propagated rules none x.precondition trail least) least.apart)

  pub never_able : (x : Action) → AreRefuted rules x.precondition → PassesWeights rules.known.now.clauses weights x
  never_able x refuted = λ set p apart_set. absurd (plain_refuted rules none x.precondition refuted set p apart_set)

  module _ (task : Task) where
    pub greater : (trail : Reached) → IsLeast rules task.goal trail → weight_in (initial_state task) weights < weight_of (is_in trail.literals) weights → GoalPassesWeights task rules.known.now.clauses weights
    greater trail least lt = λ hope set p apart_set.
        let a = weight_more (is_in trail.literals) set weights (plain_least rules none task.goal trail least set p) in
        omega (arith, a, lt)

    pub not_greater : (trail : Reached) → IsLeast rules task.goal trail → task.hopeless ≡ false → (weight_in (initial_state task) weights < weight_of (is_in trail.literals) weights → ⊥) → GoalPassesWeights task rules.known.now.clauses weights → ⊥
    not_greater trail least hope nay passes = nay (passes hope (is_in trail.literals) (plain_propagated rules none task.goal trail least) least.apart)

    pub never_there : AreRefuted rules task.goal → GoalPassesWeights task rules.known.now.clauses weights
    never_there refuted = λ hope set p apart_set. absurd (plain_refuted rules none task.goal refuted set p apart_set)

-- weights over the facts of a task are over those of the rules
pub summed_plain : (rules : Rules) (known : KnownClauses) → ArePlain known rules → (weights : List (ℕ × ℕ)) (facts : ℕ) → known.facts ≡ facts → AllByRecursion (λ w. w.0 < 2 * facts) weights
    → sum_by (λ (w : ℕ × ℕ). w.1) weights ≤ 9223372036854775807 → AreSummed (2 * rules.known.now.facts) weights
summed_plain rules known plain weights facts same over total = record {
  over = subst (λ (k : ℕ). AllByRecursion (λ w. w.0 < 2 * k) weights) (sym (ap (λ (k : KnownClauses). k.facts) plain.known ∙ same)) over;
  total = total;
}
