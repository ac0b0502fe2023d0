use Rattle.std.proofs.Common.{arith, ◌≡◌, ◌==◌, ℕ, zero, suc, ◌+◌, ◌-◌, ◌*◌, ◌%◌, ◌<◌, ◌≤◌, List, [], ◌∷◌, ◌++◌, map, length, Bool, true, false, ◌||◌, ◌&&◌, refl, ap, ◌∙◌, if◌then◌else◌, nat_lt, inl, inr, Some, None}
use Rattle.std.specs.List.{flat_map, cons_option}
use Rattle.std.proofs.lemmas.Bool.Decides.{nat_tests}
use Rattle.gt_core.specs.Literal.{range, range_from}
use Rattle.gt_core.specs.Task.{Task, initial_state}
use Rattle.gt_core.specs.Interference.{takes, reads}
use Rattle.formula_defs.specs.Layout.{Layout, action_at, chain_at, fact_at}
use Rattle.gt_core.proofs.published.Basics.{Among, not_true, test_same}
use Rattle.gt_core.proofs.published.Literals.{below_range}
use Rattle.clause_base.specs.Literal.{opposite}
use Rattle.clause_base.specs.Clause.{has_opposite_pair, clause_of}
use Rattle.containers.specs.Rising.{put}
use Rattle.formula_defs.specs.Clause.{Literal, Is, Not, code}
use Rattle.formula_defs.specs.Chain.{chain_length, if_read, enter_clauses, pass_clauses}
use Rattle.formula_defs.specs.Variables.{layout_of, chains, chains_from, chain_variables_in, rows, variable_at}
use Rattle.formula_defs.specs.Formula.{literal_over, step_clauses, precondition_clauses, effect_clauses, frame_clauses, chain_clauses, initial_clauses, goal_clauses, pair_clauses}
use Rattle.formula_defs.specs.Coded.{coded, literals_in, size_of}
use Rattle.formula_defs.specs.Shift.{one_step, one_time}
use Rattle.formula_defs.proofs.published.CodedLaw.{coded-append}
use Rattle.formula_defs.proofs.published.InRange.{IsInRange}
use Rattle.formula_defs.proofs.Renamed.{literals_in-renamed}
use Rattle.formula_defs.proofs.published.ShiftLaw.{step_moved, known_moved}

-- How many literals a formula has, and that each chain variable takes one of them in each step.

pub literals_append : (cs ds : List (List ℕ)) → literals_in (cs ++ ds) ≡ literals_in cs + literals_in ds
literals_append [] ds = omega arith
literals_append (c ∷ cs) ds = let h = literals_append cs ds in omega arith

pub size_append : (cs ds : List (List Literal)) → literals_in (coded (cs ++ ds)) ≡ literals_in (coded cs) + literals_in (coded ds)
size_append cs ds = rw (coded-append cs ds) (literals_append (coded cs) (coded ds))

-- a literal by itself is a clause
pub not_opposite : (l : ℕ) → (l == opposite l) ≡ false
not_opposite l = not_true (l == opposite l) (λ e. apart_by l (l % 2 == 0) refl (test_same l (opposite l) e))
  where
    apart_by : (l : ℕ) (b : Bool) → (l % 2 == 0) ≡ b → l ≡ (if b then l + 1 else l - 1) → ⊥
    apart_by l true e h = omega arith
    apart_by l false e h = let m : l % 2 ≡ 1 = grind (arith, nat_tests) in omega arith

pub single_clause : (l : ℕ) (rest : List (List ℕ)) → cons_option (clause_of (l ∷ [])) rest ≡ (l ∷ []) ∷ rest
single_clause l rest = by (l == opposite l) (not_opposite l)
  where
    by : (b : Bool) → b ≡ false → cons_option (if (b || false) || false then None else Some (l ∷ [])) rest ≡ (l ∷ []) ∷ rest
    by true e = absurd (let f : true ≡ false = e in cc)
    by false e = refl

pub singles : {A : Type 0} (f : A → Literal) (xs : List A) → coded (map (λ x. f x ∷ []) xs) ≡ map (λ x. code (f x) ∷ []) xs
singles f [] = refl
singles f (x ∷ xs) = single_clause (code (f x)) (coded (map (λ x. f x ∷ []) xs)) ∙ ap (λ (r : List (List ℕ)). (code (f x) ∷ []) ∷ r) (singles f xs)

count_singles : {A : Type 0} (f : A → ℕ) (xs : List A) → literals_in (map (λ x. f x ∷ []) xs) ≡ length xs
count_singles f [] = refl
count_singles f (x ∷ xs) = let h = count_singles f xs in omega arith

pub length-range_from : (first n : ℕ) → length (range_from first n) ≡ n
length-range_from first zero = refl
length-range_from first (suc n) = let h = length-range_from (first + 1) n in omega arith

-- parts of one size
repeated : {A : Type 0} (f : A → List (List Literal)) (s : ℕ) (xs : List A) → ((x : A) → Among x xs → literals_in (coded (f x)) ≡ s) → literals_in (coded (flat_map f xs)) ≡ length xs * s
repeated f s [] h = omega arith
repeated f s (x ∷ xs) h =
    let a = size_append (f x) (flat_map f xs) in
    let b = h x (inl refl) in
    let c = repeated f s xs (λ y i. h y (inr i)) in
    let d : length (x ∷ xs) * s ≡ s + length xs * s = omega arith in
    omega arith

hopeless_size : (b : Bool) → literals_in (coded (if b then [] ∷ [] else [])) ≡ 0
hopeless_size true = refl
hopeless_size false = refl

module _ (task : Task) (pairs : List (ℕ × ℕ)) (places : List (List ℕ × ℕ)) (n : ℕ) (is : IsInRange task pairs places) where
  abbrev z : Layout
  z = layout_of task places n

  initial_size : literals_in (coded (initial_clauses z task)) ≡ task.facts
  initial_size =
      ap literals_in (singles (λ f. if initial_state task f then Is (fact_at z 0 f) else Not (fact_at z 0 f)) (range task.facts))
      ∙ count_singles (λ f. code (if initial_state task f then Is (fact_at z 0 f) else Not (fact_at z 0 f))) (range task.facts)
      ∙ length-range_from 0 task.facts

  goal_size : literals_in (coded (goal_clauses z task)) ≡ length task.goal
  goal_size =
      let a = size_append (if task.hopeless then [] ∷ [] else []) (map (λ l. literal_over (fact_at z n) l ∷ []) task.goal) in
      let b = hopeless_size task.hopeless in
      let c = ap literals_in (singles (λ l. literal_over (fact_at z n) l) task.goal) ∙ count_singles (λ l. code (literal_over (fact_at z n) l)) task.goal in
      omega arith

  step_size : (t : ℕ) → t < n → literals_in (coded (step_clauses z task places t)) ≡ literals_in (one_step task places)
  step_size t lt = ap literals_in (step_moved task pairs places n is t lt) ∙ literals_in-renamed _ (one_step task places)

  known_size : (t : ℕ) → literals_in (coded (pair_clauses z pairs t)) ≡ literals_in (one_time pairs)
  known_size t = ap literals_in (known_moved task pairs places n is t) ∙ literals_in-renamed _ (one_time pairs)

  -- the size of a formula is the number of facts, of goal literals, of the literals of a step for each step, and of the
  -- known pairs for each time
  pub size_law : size_of task pairs places n ≡ task.facts + length task.goal + n * literals_in (one_step task places) + (n + 1) * literals_in (one_time pairs)
  size_law =
      let a = size_append (initial_clauses z task) (goal_clauses z task ++ (flat_map (step_clauses z task places) (range n) ++ flat_map (pair_clauses z pairs) (range (n + 1)))) in
      let b = size_append (goal_clauses z task) (flat_map (step_clauses z task places) (range n) ++ flat_map (pair_clauses z pairs) (range (n + 1))) in
      let c = size_append (flat_map (step_clauses z task places) (range n)) (flat_map (pair_clauses z pairs) (range (n + 1))) in
      let d = repeated (step_clauses z task places) (literals_in (one_step task places)) (range n) (λ t i. step_size t (below_range n t i)) in
      let e = repeated (pair_clauses z pairs) (literals_in (one_time pairs)) (range (n + 1)) (λ t i. known_size t) in
      let l = ap (λ (k : ℕ). k * literals_in (one_step task places)) (length-range_from 0 n) in
      let m = ap (λ (k : ℕ). k * literals_in (one_time pairs)) (length-range_from 0 (n + 1)) in
      let x = initial_size in
      let y = goal_size in
      omega arith

-- a put literal makes a clause that is not empty
pub put_some : (lits : List ℕ) (l : ℕ) → 1 ≤ length (put lits l)
put_some [] l = omega arith
put_some (m ∷ lits) l = by (nat_lt m l) (m == l)
  where
    by : (b c : Bool) → 1 ≤ length (if b then m ∷ put lits l else if c then m ∷ lits else l ∷ m ∷ lits)
    by true c = omega arith
    by false true = omega arith
    by false false = omega arith

two_negative_by : (a b : ℕ) (rest : List (List ℕ)) (p : Bool) → p ≡ false → 1 + literals_in rest ≤ literals_in (cons_option (if p then None else Some (put (put [] a) b)) rest)
two_negative_by a b rest true e = absurd (let f : true ≡ false = e in cc)
two_negative_by a b rest false e = let h = put_some (put [] a) b in omega arith

odd_apart : (k m : ℕ) → (2 * m + 1 == opposite (2 * k + 1)) ≡ false
odd_apart k m =
    let o : ((2 * k + 1) % 2 == 0) ≡ false = grind (arith, nat_tests) in
    not_true (2 * m + 1 == opposite (2 * k + 1)) (λ e. let h = test_same _ _ e in let g : 2 * m + 1 ≡ (2 * k + 1) - 1 = h ∙ rw o in omega arith)

no_pair : (k m : ℕ) → has_opposite_pair ((2 * k + 1) ∷ (2 * m + 1) ∷ []) ≡ false
no_pair k m = rw (odd_apart k k, odd_apart k m, odd_apart m k, odd_apart m m)

two_negative : (k m : ℕ) (rest : List (List Literal)) → 1 + literals_in (coded rest) ≤ literals_in (coded ((Not k ∷ Not m ∷ []) ∷ rest))
two_negative k m rest = two_negative_by (2 * k + 1) (2 * m + 1) (coded rest) (has_opposite_pair ((2 * k + 1) ∷ (2 * m + 1) ∷ [])) (no_pair k m)

module _ (act var : ℕ → ℕ) (takes reads : ℕ → Bool) where
  pass_by : (b : Bool) (i k l : ℕ) (more rest : List (List Literal)) → l ≤ literals_in (coded rest) → (if b then 1 else 0) + l ≤ literals_in (coded ((if b then (Not (var i) ∷ Not (act k) ∷ []) ∷ more else []) ++ rest))
  pass_by true i k l more rest h =
      let a = two_negative (var i) (act k) (more ++ rest) in
      let b = size_append more rest in
      omega arith
  pass_by false i k l more rest h = omega arith

  pass_size : (seen : Bool) (i : ℕ) (ks : List ℕ) → chain_length takes reads seen ks ≤ literals_in (coded (pass_clauses act var takes reads seen i ks))
  pass_size seen i [] = omega arith
  pass_size seen i (k ∷ ks) =
      pass_by (seen && reads k) i k _ (if_read reads ks (Not (var i) ∷ Is (var (i + 1)) ∷ [])) _ (pass_size (seen || takes k) (if seen && reads k then i + 1 else i) ks)

chains_size : (act var : ℕ → ℕ) (task : Task) (first : ℕ) (ps : List (List ℕ × ℕ)) → chain_variables_in task ps ≤ literals_in (coded (chain_clauses act var task (chains_from task first ps)))
chains_size act var task first [] = omega arith
chains_size act var task first (p ∷ ps) =
    let t = takes task p.1 in
    let r = reads task p.1 in
    let rest = chain_clauses act var task (chains_from task (first + chain_length t r false p.0) ps) in
    let a = size_append (enter_clauses act var t r false first p.0 ++ pass_clauses act var t r false first p.0) rest in
    let b = size_append (enter_clauses act var t r false first p.0) (pass_clauses act var t r false first p.0) in
    let c = pass_size act var t r false first p.0 in
    let d = chains_size act var task (first + chain_length t r false p.0) ps in
    omega arith

-- a step has at least as many literals as chain variables
pub chains_within_size : (task : Task) (places : List (List ℕ × ℕ)) → chain_variables_in task places ≤ literals_in (one_step task places)
chains_within_size task places =
    let z = layout_of task places 1 in
    let act = action_at z 0 in
    let now = fact_at z 0 in
    let next = fact_at z 1 in
    let var = variable_at z 0 in
    let last = chain_clauses act (chain_at z 0) task (chains task places) in
    let frames = frame_clauses now next var (rows task) (range task.facts) in
    let effs = effect_clauses act now next var (rows task) (rows task) in
    let a = size_append (precondition_clauses act now 0 task.actions) (effs ++ (frames ++ last)) in
    let b = size_append effs (frames ++ last) in
    let c = size_append frames last in
    let d = chains_size act (chain_at z 0) task 0 places in
    omega arith
