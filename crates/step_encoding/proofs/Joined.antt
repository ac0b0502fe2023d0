use Rattle.std.proofs.Common.{arith, ◌≡◌, ℕ, zero, suc, ◌+◌, ◌-◌, ◌*◌, ◌/◌, ◌<◌, ◌≤◌, List, [], ◌∷◌, ◌++◌, map, length, append_assoc, Result, Ok, Err, IfOk, refl, sym, ap, ◌∙◌, subst, ◌⊎◌, inl, inr, All}
use Rattle.std.specs.List.{flat_map, range_with_len, AllByRecursion}
use Rattle.std.proofs.lemmas.List.Elements.{All-nil, All-cons}
use Rattle.gt_core.specs.Literal.{range, range_from}
use Rattle.formula_defs.specs.Layout.{Layout, width, variables}
use Rattle.clause_base.specs.Clause.{HasVariablesBelow}
use Rattle.clause_base.specs.Formula.{Cnf}
use Rattle.clause_base.specs.Repeats.{Repeats, IsRepeatable, moved_code, repeated}
use Rattle.clause_base.proofs.published.Moved.{where_is, moved_above}
use Rattle.clause_base.proofs.published.RepeatLemmas.{length_repeated}
use Rattle.step_encoding.specs.own.Parts.{added, step_part, time_part, StepsFit, TimesFit}

-- The repeated part of a layout's formula.

same_range : (a n : ℕ) → range_with_len a n ≡ range_from a n
same_range a zero = refl
same_range a (suc n) = ap (λ (xs : List ℕ). a ∷ xs) (same_range (a + 1) n)

all_from : {A : Type 0} (P Q : A → Type 0) (xs : List A) → ((x : A) → P x → Q x) → AllByRecursion P xs → All Q xs
all_from P Q [] f h = All-nil Q
all_from P Q (x ∷ xs) f h = All-cons Q x xs (f x h.0) (all_from P Q xs f h.1)

-- a literal that fits where it is moved to the last step is among those of one step
last_step : (m w fs l : ℕ) → moved_code w (m * w) ((m + 1) * w + m * fs) l / 2 < (m + 1) * w + (m + 1 + 1) * fs → l / 2 < w + 2 * fs
last_step m w fs l h = by (where_is l (2 * w))
  where
    by : (l < 2 * w) ⊎ (2 * w ≤ l) → l / 2 < w + 2 * fs
    by (inl i) = omega arith
    by (inr i) = let e = moved_above w (m * w) ((m + 1) * w + m * fs) l i in omega arith

last_time : (n w fs l : ℕ) → moved_code 0 0 (n * w + n * fs) l / 2 < n * w + (n + 1) * fs → l / 2 < fs
last_time n w fs l h = let e = moved_above 0 0 (n * w + n * fs) l (omega arith) in omega arith

-- the literals of one step are among its variables and those of the facts before and after it
pub step_below : (z : Layout) (step : List (List ℕ)) → StepsFit z step (variables z) → 0 < z.horizon → All (HasVariablesBelow (width z + 2 * z.facts)) step
step_below z step fit some =
    let m = z.horizon - 1 in
    let n : z.horizon ≡ m + 1 = omega arith in
    all_from (λ c. AllByRecursion (λ l. moved_code (width z) (m * width z) (z.horizon * width z + m * z.facts) l / 2 < variables z) c) (HasVariablesBelow (width z + 2 * z.facts)) step (λ c.
    all_from (λ l. moved_code (width z) (m * width z) (z.horizon * width z + m * z.facts) l / 2 < variables z) (λ l. l / 2 < width z + 2 * z.facts) c (λ l h.
    last_step m (width z) z.facts l (subst (λ (k : ℕ). moved_code (width z) (m * width z) (k * width z + m * z.facts) l / 2 < k * width z + (k + 1) * z.facts) n h))) (fit m (omega arith))

pub time_below : (z : Layout) (known : List (List ℕ)) → TimesFit z known (variables z) → All (HasVariablesBelow z.facts) known
time_below z known fit =
    let n = z.horizon in
    all_from (λ c. AllByRecursion (λ l. moved_code 0 0 (n * width z + n * z.facts) l / 2 < variables z) c) (HasVariablesBelow z.facts) known (λ c.
    all_from (λ l. moved_code 0 0 (n * width z + n * z.facts) l / 2 < variables z) (λ l. l / 2 < z.facts) c (λ l h. last_time n (width z) z.facts l h)) (fit n (omega arith))

-- the part of a layout, as numbers and lists
abbrev pub part_of : Layout → List (List ℕ) → List (List ℕ) → List (List ℕ)
part_of z step known = flat_map (step_part z step) (range z.horizon) ++ flat_map (time_part z known) (range (z.horizon + 1))

abbrev pub repeats_of : Layout → List (List ℕ) → List (List ℕ) → Repeats
repeats_of z step known = record { horizon = z.horizon; width = width z; facts = z.facts; step = step; time = known }

pub repeated_is : (z : Layout) (step known : List (List ℕ)) (r : Repeats) → r ≡ repeats_of z step known → repeated r ≡ part_of z step known
repeated_is z step known r e =
    ap repeated e
    ∙ ap (λ (xs : List ℕ). flat_map (step_part z step) xs ++ flat_map (time_part z known) (range_with_len 0 (z.horizon + 1))) (same_range 0 z.horizon)
    ∙ ap (λ (xs : List ℕ). flat_map (step_part z step) (range z.horizon) ++ flat_map (time_part z known) xs) (same_range 0 (z.horizon + 1))

-- with no step there are the clauses of one time
abbrev pub first_of : Layout → List (List ℕ) → Repeats
first_of z known = record { horizon = 0; width = 0; facts = z.facts; step = []; time = known }

first_time : (n w fs : ℕ) (step known : List (List ℕ)) → n ≡ 0 → flat_map (λ t. map (map (moved_code 0 0 (0 * 0 + t * fs))) known) (range_from 0 1) ≡ flat_map (λ t. map (map (moved_code w (t * w) (n * w + t * fs))) step) (range n) ++ flat_map (λ t. map (map (moved_code 0 0 (n * w + t * fs))) known) (range (n + 1))
first_time n w fs step known e =
    let z : 0 * 0 ≡ 0 * w = omega arith in
    ap (λ (b : ℕ). flat_map (λ t. map (map (moved_code 0 0 (b + t * fs))) known) (range_from 0 1)) z
    ∙ ap (λ (k : ℕ). flat_map (λ t. map (map (moved_code w (t * w) (k * w + t * fs))) step) (range k) ++ flat_map (λ t. map (map (moved_code 0 0 (k * w + t * fs))) known) (range (k + 1))) (sym e)

pub first_is : (z : Layout) (step known : List (List ℕ)) (r : Repeats) → z.horizon ≡ 0 → r ≡ first_of z known → repeated r ≡ part_of z step known
first_is z step known r n e = ap repeated e ∙ first_time z.horizon (width z) z.facts step known n

pub first_long : (z : Layout) (step known : List (List ℕ)) (r : Repeats) → z.horizon ≡ 0 → r ≡ first_of z known → length (repeated r) ≡ z.horizon * length step + (z.horizon + 1) * length known
first_long z step known r n e =
    let l = length_repeated (first_of z known) in
    let both : 0 * 0 + (0 + 1) * length known ≡ 0 * length step + (0 + 1) * length known = omega arith in
    ap (λ (x : Repeats). length (repeated x)) e ∙ l ∙ both ∙ ap (λ (k : ℕ). k * length step + (k + 1) * length known) (sym n)

-- the numbers of a layout as they are read
pub new_is : (inside now : Layout) (step known s k : List (List ℕ)) (r : Repeats) → inside ≡ now → s ≡ step → k ≡ known → r ≡ repeats_of inside s k → r ≡ repeats_of now step known
new_is inside now step known s k r v es ek e =
    e ∙ ap (λ (x : List (List ℕ)). repeats_of inside x k) es ∙ ap (λ (x : List (List ℕ)). repeats_of inside step x) ek ∙ ap (λ (z : Layout). repeats_of z step known) v

pub new_fits : (inside now : Layout) (step known s k : List (List ℕ)) → inside ≡ now → s ≡ step → k ≡ known → StepsFit now step (variables now) → TimesFit now known (variables now) → 0 < inside.horizon → now.horizon * length step + (now.horizon + 1) * length known ≤ 1073741824 → variables now ≤ 2147483647 → IsRepeatable (repeats_of inside s k)
new_fits inside now step known s k v es ek steps times some few small =
    subst IsRepeatable (sym (new_is inside now step known s k (repeats_of inside s k) v es ek refl)) (record {
      few = few;
      small = small;
      step_below = step_below now step steps (subst (λ (z : Layout). 0 < z.horizon) v some);
      time_below = time_below now known times;
    })

pub first_new : (inside now : Layout) (known s k : List (List ℕ)) (r : Repeats) → inside ≡ now → s ≡ [] → k ≡ known → r ≡ record { horizon = 0; width = 0; facts = inside.facts; step = s; time = k } → r ≡ first_of now known
first_new inside now known s k r v es ek e =
    e ∙ ap (λ (x : List (List ℕ)). let t : Repeats = record { horizon = 0; width = 0; facts = inside.facts; step = x; time = k } in t) es
    ∙ ap (λ (x : List (List ℕ)). first_of inside x) ek ∙ ap (λ (z : Layout). first_of z known) v

pub first_fits : (inside now : Layout) (step known s k : List (List ℕ)) → inside ≡ now → s ≡ [] → k ≡ known → TimesFit now known (variables now) → inside.horizon ≡ 0 → now.horizon * length step + (now.horizon + 1) * length known ≤ 1073741824 → variables now ≤ 2147483647 → IsRepeatable (record { horizon = 0; width = 0; facts = inside.facts; step = s; time = k })
first_fits inside now step known s k v es ek times none few small =
    let n : now.horizon ≡ 0 = ap (λ (z : Layout). z.horizon) (sym v) ∙ none in
    let few_none = subst (λ (m : ℕ). m * length step + (m + 1) * length known ≤ 1073741824) n few in
    let small_none = subst (λ (m : ℕ). m * width now + (m + 1) * now.facts ≤ 2147483647) n small in
    subst IsRepeatable (sym (first_new inside now known s k _ v es ek refl)) (record {
      few = omega arith;
      small = omega arith;
      step_below = All-nil (HasVariablesBelow (0 + 2 * now.facts));
      time_below = time_below now known times;
    })

-- the formula of its ends and its repeated part
pub whole_by : {E : Type 0} (r : Result Cnf E) (name top : ℕ) (f0 f1 f2 f3 : Cnf) (first hopeless goal part all : List (List ℕ)) → f0 ≡ record { name = name; variables = top; clauses = [] } → f1 ≡ added f0 first → f2 ≡ added f1 hopeless → f3 ≡ added f2 goal → part ≡ all → IfOk r (λ f. f ≡ record f3 { clauses = f3.clauses ++ part }) → IfOk r (λ f. f ≡ record { name = name; variables = top; clauses = first ++ ((hopeless ++ goal) ++ all) })
whole_by (Ok f) name top f0 f1 f2 f3 first hopeless goal part all e0 e1 e2 e3 e h =
    let ends : f3 ≡ added (added (added (record { name = name; variables = top; clauses = [] }) first) hopeless) goal = e3 ∙ ap (λ (x : Cnf). added x goal) (e2 ∙ ap (λ (x : Cnf). added x hopeless) (e1 ∙ ap (λ (x : Cnf). added x first) e0)) in
    h
    ∙ ap (λ (x : Cnf). let c : Cnf = record x { clauses = x.clauses ++ part } in c) ends
    ∙ ap (λ (x : List (List ℕ)). let c : Cnf = record { name = name; variables = top; clauses = ((first ++ hopeless) ++ goal) ++ x } in c) e
    ∙ ap (λ (x : List (List ℕ)). let c : Cnf = record { name = name; variables = top; clauses = x } in c)
    (append_assoc (first ++ hopeless) goal all ∙ append_assoc first hopeless (goal ++ all) ∙ ap (λ (x : List (List ℕ)). first ++ x) (sym (append_assoc hopeless goal all)))
whole_by (Err m) name top f0 f1 f2 f3 first hopeless goal part all e0 e1 e2 e3 e h = tt
