-- The formula of clauses is what is made of the formula of horizon 1.
use Rattle.std.proofs.Common.{arith, ◌≡◌, ◌==◌, ◌∙◌, ℕ, ◌+◌, ◌-◌, ◌*◌, ◌/◌, ◌%◌, List, [], ◌∷◌, ◌++◌, map, drop, length, Bool, true, false, refl, sym, ap, append_assoc, if◌then◌else◌}
use Rattle.std.specs.List.{cons_option}
use Rattle.std.proofs.lemmas.List.{length-map, length-append, map-append, append-nil}
use Rattle.std.proofs.lemmas.Bool.Decides.{nat_tests}
use Rattle.std.proofs.Math.Seq.{drop-append_seam}
use Rattle.clause_base.specs.Clause.{clause_of}
use Rattle.clause_base.specs.Formula.{Cnf}
use Rattle.gt_core.specs.Literal.{opposite, range}
use Rattle.gt_core.specs.Task.{Task, initial_state}
use Rattle.formula_defs.specs.Layout.{Layout, fact_at, variables}
use Rattle.formula_defs.specs.Clause.{Literal, Is, Not, code}
use Rattle.formula_defs.specs.Variables.{layout_of}
use Rattle.formula_defs.specs.Formula.{literal_over, step_clauses, pair_clauses, initial_clauses, goal_clauses, clauses_of_horizon}
use Rattle.formula_defs.specs.Coded.{coded, formula_of}
use Rattle.formula_defs.proofs.published.CodedLaw.{coded-append}
use Rattle.formula_defs.proofs.published.SizeLaw.{singles, length-range_from}
use Rattle.step_laws.specs.Never.{cubes_of, cube_clauses, some_cube, never_formula}
use Rattle.never_form.specs.own.Parts.{made, moved, cube, cubes, some, ends, own_parts, joined}
use Rattle.never_form.proofs.Turns.{made_parts}

-- clauses in codes are made of their codes
coded_made : (cs : List (List Literal)) → coded cs ≡ made (map (map code) cs)
coded_made [] = refl
coded_made (c ∷ cs) = ap (cons_option (clause_of (map code c))) (coded_made cs)

-- a literal over facts whose variables follow one another
code_at : (fact : ℕ → ℕ) (first : ℕ) → ((f : ℕ) → fact f ≡ first + f) → (l : ℕ) → code (literal_over fact l) ≡ 2 * first + l
code_at fact first at l = by (l % 2 == 0) refl
  where
    by : (b : Bool) → (l % 2 == 0) ≡ b → code (if b then Is (fact (l / 2)) else Not (fact (l / 2))) ≡ 2 * first + l
    by true e = let h = at (l / 2) in let m : l % 2 ≡ 0 = grind (arith, nat_tests) in omega (arith, h, m)
    by false e = let h = at (l / 2) in let m : l % 2 ≡ 1 = grind (arith, nat_tests) in omega (arith, h, m)

module _ (fact : ℕ → ℕ) (first : ℕ) (at : (f : ℕ) → fact f ≡ first + f) where
  codes_at : (c : List ℕ) → map code (map (literal_over fact) c) ≡ moved (2 * first) c
  codes_at [] = refl
  codes_at (l ∷ c) = rw (code_at fact first at l, codes_at c) refl

  pub clauses_at : (cs : List (List ℕ)) → map (map code) (map (map (literal_over fact)) cs) ≡ map (moved (2 * first)) cs
  clauses_at [] = refl
  clauses_at (c ∷ cs) = rw (codes_at c, clauses_at cs) refl

  cube_at : (k : ℕ) (c : List ℕ) → map (map code) (map (λ l. Not k ∷ literal_over fact l ∷ []) c) ≡ cube (2 * first) k c
  cube_at k [] = refl
  cube_at k (l ∷ c) = rw (code_at fact first at l, cube_at k c) refl

  cubes_at : (k : ℕ) (cs : List (List ℕ)) → map (map code) (cube_clauses fact k (map (map opposite) cs)) ≡ cubes (2 * first) k cs
  cubes_at k [] = refl
  cubes_at k (c ∷ cs) =
      map-append (map code) (map (λ l. Not k ∷ literal_over fact l ∷ []) (map opposite c)) (cube_clauses fact (k + 1) (map (map opposite) cs))
      ∙ rw (cube_at k (map opposite c), cubes_at (k + 1) cs) refl

  -- the cubes of the goal and of clauses
  pub all_cubes : (k : ℕ) (goal : List ℕ) (cs : List (List ℕ)) → coded (cube_clauses fact k (cubes_of cs goal)) ≡ made (cube (2 * first) k goal) ++ made (cubes (2 * first) (k + 1) cs)
  all_cubes k goal cs =
      coded_made (cube_clauses fact k (cubes_of cs goal))
      ∙ ap made (map-append (map code) (map (λ l. Not k ∷ literal_over fact l ∷ []) goal) (cube_clauses fact (k + 1) (map (map opposite) cs)) ∙ both)
      ∙ made_parts (cube (2 * first) k goal) (cubes (2 * first) (k + 1) cs)
    where
      both : map (map code) (map (λ l. Not k ∷ literal_over fact l ∷ []) goal) ++ map (map code) (cube_clauses fact (k + 1) (map (map opposite) cs)) ≡ cube (2 * first) k goal ++ cubes (2 * first) (k + 1) cs
      both = rw (cube_at k goal, cubes_at (k + 1) cs) refl

some_at : (k : ℕ) (cs : List (List ℕ)) → map code (some_cube k cs) ≡ some k (length cs)
some_at k [] = refl
some_at k (c ∷ cs) = rw (some_at (k + 1) cs) refl

-- that some cube holds
some_made : (k : ℕ) (goal : List ℕ) (cs : List (List ℕ)) → coded (some_cube k (cubes_of cs goal) ∷ []) ≡ made (some k (length cs + 1) ∷ [])
some_made k goal cs =
    let long : length (cubes_of cs goal) ≡ length cs + 1 = let m = length-map cs (map opposite) in omega (arith, m) in
    ap (λ (c : List ℕ). made (c ∷ [])) (some_at k (cubes_of cs goal) ∙ ap (some k) long)

-- of three parts what is left without the first two
rest_of : {A : Type 0} (xs ys zs : List A) (n : ℕ) → length xs + length ys ≡ n → drop n (xs ++ (ys ++ zs)) ≡ zs
rest_of xs ys zs n e =
    ap (λ (k : ℕ). drop k (xs ++ (ys ++ zs))) (sym e ∙ sym (length-append xs ys)) ∙ ap (drop (length (xs ++ ys))) (sym (append_assoc xs ys zs)) ∙ drop-append_seam (xs ++ ys) zs

-- parts that stand for others
joined_so : (a b c d rest a' b1 b2 c' rest' : List (List ℕ)) → b ≡ b1 ++ b2 → a ≡ a' → c ≡ c' → rest ≡ rest' → d ≡ b ++ (c ++ rest) → a ++ d ≡ a' ++ b1 ++ b2 ++ c' ++ rest'
joined_so a b c d rest a' b1 b2 c' rest' e f g h i =
    rw (i, e, f, g, h) (sym (append_assoc a' (b1 ++ b2) (c' ++ rest')) ∙ ap (λ (x : List (List ℕ)). x ++ (c' ++ rest')) (sym (append_assoc a' b1 b2)) ∙ sym (append_assoc (a' ++ b1 ++ b2) c' rest'))

module _ (task : Task) (pairs : List (ℕ × ℕ)) (places : List (List ℕ × ℕ)) where
  abbrev z : Layout
  z = layout_of task places 1

  -- what follows the clauses of the first and the last time
  abbrev pub step_part : List (List Literal)
  step_part = step_clauses z task places 0 ++ (pair_clauses z pairs 0 ++ pair_clauses z pairs 1)

  initial_long : length (coded (initial_clauses z task)) ≡ task.facts
  initial_long =
      ap length (singles (λ f. if initial_state task f then Is (fact_at z 0 f) else Not (fact_at z 0 f)) (range task.facts))
      ∙ length-map (range task.facts) _ ∙ length-range_from 0 task.facts

  goal_long : length (coded (goal_clauses z task)) ≡ (if task.hopeless then 1 else 0) + length task.goal
  goal_long =
      ap length (coded-append (if task.hopeless then [] ∷ [] else []) (map (λ l. literal_over (fact_at z 1) l ∷ []) task.goal))
      ∙ length-append (coded (if task.hopeless then [] ∷ [] else [])) (coded (map (λ l. literal_over (fact_at z 1) l ∷ []) task.goal))
      ∙ (let a = hopeless_long task.hopeless in
      let b : length (coded (map (λ l. literal_over (fact_at z 1) l ∷ []) task.goal)) ≡ length task.goal = ap length (singles (λ l. literal_over (fact_at z 1) l) task.goal) ∙ length-map task.goal _ in
      omega (arith, a, b))
    where
      hopeless_long : (b : Bool) → length (coded (if b then [] ∷ [] else [])) ≡ (if b then 1 else 0)
      hopeless_long true = refl
      hopeless_long false = refl

  parts_same : clauses_of_horizon task pairs places 1 ≡ initial_clauses z task ++ (goal_clauses z task ++ step_part)
  parts_same =
      ap (λ (r : List (List Literal)). initial_clauses z task ++ (goal_clauses z task ++ r))
      (rw (append-nil (step_clauses z task places 0), append-nil (pair_clauses z pairs 1)) refl)

  -- without them the formula of horizon 1 has the step and the known pairs
  pub rest_is : drop (ends task) (formula_of task pairs places 1).clauses ≡ coded step_part
  rest_is =
      ap (λ (cs : List (List Literal)). drop (ends task) (coded cs)) parts_same
      ∙ ap (drop (ends task)) (coded-append (initial_clauses z task) (goal_clauses z task ++ step_part) ∙ ap (λ (r : List (List ℕ)). coded (initial_clauses z task) ++ r) (coded-append (goal_clauses z task) step_part))
      ∙ rest_of (coded (initial_clauses z task)) (coded (goal_clauses z task)) (coded step_part) (ends task) (let a = initial_long in let b = goal_long in omega (arith, a, b))

  before_at : (f : ℕ) → fact_at z 0 f ≡ (variables z - 2 * task.facts) + f
  before_at f = omega arith

  after_at : (f : ℕ) → fact_at z 1 f ≡ (variables z - task.facts) + f
  after_at f = omega arith

  pub clauses_same : (clauses : List (List ℕ)) → (never_formula task pairs places clauses).clauses ≡ own_parts task (variables z) clauses ++ drop (ends task) (formula_of task pairs places 1).clauses
  clauses_same clauses =
      let own : List (List Literal) = map (map (literal_over (fact_at z 0))) clauses in
      let held : List (List Literal) = cube_clauses (fact_at z 1) (variables z) (cubes_of clauses task.goal) in
      let last : List (List Literal) = some_cube (variables z) (cubes_of clauses task.goal) ∷ [] in
      coded-append own (held ++ (last ++ step_part))
      ∙ joined_so (coded own) (coded held) (coded last) (coded (held ++ (last ++ step_part))) (coded step_part)
      (made (map (moved (2 * (variables z - 2 * task.facts))) clauses)) (made (cube (2 * (variables z - task.facts)) (variables z) task.goal)) (made (cubes (2 * (variables z - task.facts)) (variables z + 1) clauses))
      (made (some (variables z) (length clauses + 1) ∷ [])) (drop (ends task) (formula_of task pairs places 1).clauses)
      (all_cubes (fact_at z 1) (variables z - task.facts) after_at (variables z) task.goal clauses)
      (coded_made own ∙ ap made (clauses_at (fact_at z 0) (variables z - 2 * task.facts) before_at clauses))
      (some_made (variables z) task.goal clauses)
      (sym rest_is)
      (coded-append held (last ++ step_part) ∙ ap (λ (r : List (List ℕ)). coded held ++ r) (coded-append last step_part))

  -- the formula of clauses
  pub never_same : (clauses : List (List ℕ)) (one : Cnf) → one ≡ formula_of task pairs places 1 → joined task one clauses ≡ never_formula task pairs places clauses
  never_same clauses one is =
      ap (λ (f : Cnf). joined task f clauses) is
      ∙ (let e : variables z + (length clauses + 1) ≡ variables z + length clauses + 1 = omega arith in
      ap (λ (n : ℕ). record { name = 1; variables = n; clauses = own_parts task (variables z) clauses ++ drop (ends task) (formula_of task pairs places 1).clauses }) e
      ∙ ap (λ (cs : List (List ℕ)). record { name = 1; variables = variables z + length clauses + 1; clauses = cs }) (sym (clauses_same clauses)))
