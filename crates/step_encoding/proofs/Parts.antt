use Rattle.std.proofs.Common.{arith, ◌≡◌, ℕ, zero, suc, ◌+◌, ◌/◌, ◌<◌, List, [], ◌∷◌, ◌++◌, map, length, Bool, true, false, refl, sym, ap, ◌∙◌, if◌then◌else◌}
use Rattle.std.specs.List.{flat_map}
use Rattle.std.proofs.lemmas.List.{length-append}
use Rattle.gt_core.specs.Literal.{range, range_from}
use Rattle.gt_core.specs.Task.{Task, initial_state}
use Rattle.formula_defs.specs.Layout.{Layout, fact_at, variables}
use Rattle.std.specs.Prelude.{slice_index_or}
use Rattle.gt_core.specs.Lawful.{is_task}
use Rattle.gt_core.proofs.published.Basics.{each_at}
use Rattle.gt_core.proofs.published.Within.{literals_within, lawful, among_at}
use Rattle.clause_base.specs.Formula.{Cnf}
use Rattle.formula_defs.specs.Clause.{Is, Not, code}
use Rattle.formula_defs.specs.Formula.{literal_over, initial_clauses, goal_clauses}
use Rattle.formula_defs.specs.Coded.{coded}
use Rattle.formula_defs.proofs.published.CodedLaw.{coded-append}
use Rattle.formula_defs.proofs.published.SizeLaw.{singles}
use Rattle.step_encoding.specs.own.Parts.{added}
use Rattle.std.proofs.lemmas.List.{append-nil}

-- Formulas to which clauses are added, and the clauses of the first and the last time.

pub joined_twice : (xs ys zs : List (List ℕ)) → (xs ++ ys) ++ zs ≡ xs ++ (ys ++ zs)
joined_twice [] ys zs = refl
joined_twice (x ∷ xs) ys zs = ap (λ (r : List (List ℕ)). x ∷ r) (joined_twice xs ys zs)

pub added_twice : (f : Cnf) (xs ys : List (List ℕ)) → added (added f xs) ys ≡ added f (xs ++ ys)
added_twice f xs ys = ap (λ (cs : List (List ℕ)). record { name = f.name; variables = f.variables; clauses = cs }) (joined_twice f.clauses xs ys)

range_more : (g : ℕ → List (List ℕ)) (first n : ℕ) → flat_map g (range_from first (n + 1)) ≡ flat_map g (range_from first n) ++ g (first + n)
range_more g first zero =
    let z : first + 0 ≡ first = omega arith in
    append-nil (g first) ∙ ap g (sym z)
range_more g first (suc n) =
    let z : (first + 1) + n ≡ first + suc n = omega arith in
    let m : suc n + 1 ≡ suc (n + 1) = omega arith in
    ap (λ (k : ℕ). flat_map g (range_from first k)) m
    ∙ ap (λ (r : List (List ℕ)). g first ++ r) (range_more g (first + 1) n)
    ∙ sym (joined_twice (g first) (flat_map g (range_from (first + 1) n)) (g ((first + 1) + n)))
    ∙ ap (λ (k : ℕ). (g first ++ flat_map g (range_from (first + 1) n)) ++ g k) z

-- one more part
pub added_more : (f : Cnf) (g : ℕ → List (List ℕ)) (i : ℕ) (x y : Cnf) → x ≡ added f (flat_map g (range i)) → y ≡ added x (g i) → y ≡ added f (flat_map g (range (i + 1)))
added_more f g i x y e h =
    let z : 0 + i ≡ i = omega arith in
    h ∙ ap (λ (w : Cnf). added w (g i)) e ∙ added_twice f (flat_map g (range i)) (g i)
    ∙ ap (λ (cs : List (List ℕ)). added f cs) (ap (λ (k : ℕ). flat_map g (range i) ++ g k) (sym z) ∙ sym (range_more g 0 i))

pub one_longer : (f g : Cnf) (c : List ℕ) → g ≡ added f (c ∷ []) → length g.clauses ≡ length f.clauses + 1
one_longer f g c e = ap (λ (x : Cnf). length x.clauses) e ∙ length-append f.clauses (c ∷ [])

-- the clause of a fact's initial value
abbrev pub initial_part : Layout → Task → ℕ → List (List ℕ)
initial_part z task f = (code (if initial_state task f then Is (fact_at z 0 f) else Not (fact_at z 0 f)) ∷ []) ∷ []

parts_by : (g : ℕ → List ℕ) (xs : List ℕ) → flat_map (λ x. g x ∷ []) xs ≡ map g xs
parts_by g [] = refl
parts_by g (x ∷ xs) = ap (λ (r : List (List ℕ)). g x ∷ r) (parts_by g xs)

pub initial_parts : (z : Layout) (task : Task) → flat_map (initial_part z task) (range task.facts) ≡ coded (initial_clauses z task)
initial_parts z task =
    parts_by (λ f. code (if initial_state task f then Is (fact_at z 0 f) else Not (fact_at z 0 f)) ∷ []) (range task.facts)
    ∙ sym (singles (λ f. if initial_state task f then Is (fact_at z 0 f) else Not (fact_at z 0 f)) (range task.facts))

hopeless_by : (b : Bool) → coded (if b then [] ∷ [] else []) ≡ (if b then [] ∷ [] else [])
hopeless_by true = refl
hopeless_by false = refl

pub goal_parts : (z : Layout) (task : Task) → coded (goal_clauses z task) ≡ (if task.hopeless then [] ∷ [] else []) ++ map (λ l. code (literal_over (fact_at z z.horizon) l) ∷ []) task.goal
goal_parts z task =
    coded-append (if task.hopeless then [] ∷ [] else []) (map (λ l. literal_over (fact_at z z.horizon) l ∷ []) task.goal)
    ∙ ap (λ (cs : List (List ℕ)). cs ++ coded (map (λ l. literal_over (fact_at z z.horizon) l ∷ []) task.goal)) (hopeless_by task.hopeless)
    ∙ ap (λ (cs : List (List ℕ)). (if task.hopeless then [] ∷ [] else []) ++ cs) (singles (λ l. literal_over (fact_at z z.horizon) l) task.goal)

-- the literals of a lawful goal are of the task's facts
pub goal_in_range : (task : Task) → is_task task ≡ true → (items : List ℕ) (k n : ℕ) → items ≡ task.goal → n ≡ task.facts → k < length items → slice_index_or items k 0 / 2 < n
goal_in_range task t items k n e f lt =
    let lt2 : k < length task.goal = rw e at lt in
    rw (e, f) (each_at (λ l. l / 2 < task.facts) task.goal (slice_index_or task.goal k 0) (literals_within task.facts task.goal (lawful task t).goal) (among_at task.goal k 0 lt2))
