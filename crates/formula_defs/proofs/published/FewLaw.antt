use Rattle.std.proofs.Common.{arith, ◌==◌, ℕ, ◌+◌, ◌*◌, ◌≤◌, List, [], ◌∷◌, ◌++◌, map, length, Bool, true, false, ◌&&◌, ◌||◌, fold, if◌then◌else◌, Some, None}
use Rattle.std.specs.List.{flat_map, cons_option, AllByRecursion}
use Rattle.gt_core.specs.Literal.{opposite, range}
use Rattle.gt_core.specs.Task.{Task, Action}
use Rattle.gt_core.specs.Interference.{takes, reads}
use Rattle.formula_defs.specs.Layout.{Layout, action_at, chain_at, fact_at}
use Rattle.clause_base.specs.Clause.{has_opposite_pair}
use Rattle.containers.specs.Rising.{put}
use Rattle.formula_defs.specs.Clause.{Literal, Is, Not, code}
use Rattle.formula_defs.specs.Chain.{if_read, enter_clauses, pass_clauses}
use Rattle.formula_defs.specs.Variables.{Row, rows, has_condition, Chain, layout_of, variable_at, chains}
use Rattle.formula_defs.specs.Formula.{literal_over, precondition_clauses, meaning_clauses, result_clause, effect_clauses, effects_with, frame_clauses, chain_clauses, step_clauses, is_single, pair_clause}
use Rattle.formula_defs.specs.Coded.{coded, literals_in}
use Rattle.formula_defs.specs.Shift.{one_step, one_time}
use Rattle.formula_defs.proofs.published.SizeLaw.{put_some}

-- No clause of a step or of a known pair is empty, so there are at most as many clauses as literals.

-- lists of literals, none of them empty
abbrev AreSome : List (List Literal) → Type 0
AreSome cs = AllByRecursion (λ c. 1 ≤ length c) cs

some_append : (cs ds : List (List Literal)) → AreSome cs → AreSome ds → AreSome (cs ++ ds)
some_append [] ds a b = b
some_append (c ∷ cs) ds a b = (a.0, some_append cs ds a.1 b)

some_map : {A : Type 0} (f : A → List Literal) (xs : List A) → ((x : A) → 1 ≤ length (f x)) → AreSome (map f xs)
some_map f [] h = tt
some_map f (x ∷ xs) h = (h x, some_map f xs h)

some_flat : {A : Type 0} (f : A → List (List Literal)) (xs : List A) → ((x : A) → AreSome (f x)) → AreSome (flat_map f xs)
some_flat f [] h = tt
some_flat f (x ∷ xs) h = some_append (f x) (flat_map f xs) (h x) (some_flat f xs h)

some_if : (b : Bool) (cs ds : List (List Literal)) → AreSome cs → AreSome ds → AreSome (if b then cs else ds)
some_if true cs ds a b = a
some_if false cs ds a b = b

some_preconditions : (act now : ℕ → ℕ) (a : ℕ) (xs : List Action) → AreSome (precondition_clauses act now a xs)
some_preconditions act now a [] = tt
some_preconditions act now a (x ∷ xs) =
    some_append (map (λ l. Not (act a) ∷ literal_over now l ∷ []) x.precondition) (precondition_clauses act now (a + 1) xs)
    (some_map (λ l. Not (act a) ∷ literal_over now l ∷ []) x.precondition (λ l. omega arith)) (some_preconditions act now (a + 1) xs)

some_meaning : (act now : ℕ → ℕ) (var : Row → ℕ) (r : Row) → AreSome (meaning_clauses act now var r)
some_meaning act now var r =
    let first : List Literal = Not (var r) ∷ Is (act r.effect.action) ∷ [] in
    let last : List Literal = Is (var r) ∷ Not (act r.effect.action) ∷ map (λ c. literal_over now (opposite c)) r.effect.condition in
    some_if (has_condition r.effect) (first ∷ map (λ c. Not (var r) ∷ literal_over now c ∷ []) r.effect.condition ++ last ∷ []) []
    (some_append (first ∷ map (λ c. Not (var r) ∷ literal_over now c ∷ []) r.effect.condition) (last ∷ [])
    (omega arith, some_map (λ c. Not (var r) ∷ literal_over now c ∷ []) r.effect.condition (λ c. omega arith)) (omega arith, tt))
    tt

some_effects : (act now next : ℕ → ℕ) (var : Row → ℕ) (all rs : List Row) → AreSome (effect_clauses act now next var all rs)
some_effects act now next var all rs =
    some_flat (λ r. meaning_clauses act now var r ++ result_clause next var all r ∷ []) rs
    (λ r. some_append (meaning_clauses act now var r) (result_clause next var all r ∷ []) (some_meaning act now var r) (omega arith, tt))

some_frames : (now next : ℕ → ℕ) (var : Row → ℕ) (all : List Row) (facts : List ℕ) → AreSome (frame_clauses now next var all facts)
some_frames now next var all facts =
    some_flat (λ f. (Not (now f) ∷ Is (next f) ∷ effects_with var (λ e. e.literal == 2 * f + 1) all) ∷ (Is (now f) ∷ Not (next f) ∷ effects_with var (λ e. e.literal == 2 * f) all) ∷ []) facts
    (λ f. (omega arith, (omega arith, tt)))

module _ (act var : ℕ → ℕ) (take read : ℕ → Bool) where
  some_enters : (seen : Bool) (i : ℕ) (ks : List ℕ) → AreSome (enter_clauses act var take read seen i ks)
  some_enters seen i [] = tt
  some_enters seen i (k ∷ ks) =
      let next = if seen && read k then i + 1 else i in
      let clause : List Literal = Not (act k) ∷ Is (var next) ∷ [] in
      some_append (if take k then if_read read ks clause else []) (enter_clauses act var take read (seen || take k) next ks)
      (some_if (take k) (if_read read ks clause) [] (some_read read ks clause (omega arith)) tt) (some_enters (seen || take k) next ks)
    where
      some_read : (p : ℕ → Bool) (ls : List ℕ) (c : List Literal) → 1 ≤ length c → AreSome (if_read p ls c)
      some_read p ls c h = some_if _ (c ∷ []) [] (h, tt) tt

  some_passes : (seen : Bool) (i : ℕ) (ks : List ℕ) → AreSome (pass_clauses act var take read seen i ks)
  some_passes seen i [] = tt
  some_passes seen i (k ∷ ks) =
      let next = if seen && read k then i + 1 else i in
      let clause : List Literal = Not (var i) ∷ Not (act k) ∷ [] in
      let more : List Literal = Not (var i) ∷ Is (var (i + 1)) ∷ [] in
      some_append (if seen && read k then clause ∷ if_read read ks more else []) (pass_clauses act var take read (seen || take k) next ks)
      (some_if (seen && read k) (clause ∷ if_read read ks more) [] (omega arith, some_if _ (more ∷ []) [] (omega arith, tt) tt) tt) (some_passes (seen || take k) next ks)

some_chains : (act var : ℕ → ℕ) (task : Task) (cs : List Chain) → AreSome (chain_clauses act var task cs)
some_chains act var task cs =
    some_flat (λ c. enter_clauses act var (takes task c.literal) (reads task c.literal) false c.first c.members ++ pass_clauses act var (takes task c.literal) (reads task c.literal) false c.first c.members) cs
    (λ c. some_append (enter_clauses act var (takes task c.literal) (reads task c.literal) false c.first c.members) (pass_clauses act var (takes task c.literal) (reads task c.literal) false c.first c.members)
    (some_enters act var (takes task c.literal) (reads task c.literal) false c.first c.members) (some_passes act var (takes task c.literal) (reads task c.literal) false c.first c.members))

some_step : (z : Layout) (task : Task) (places : List (List ℕ × ℕ)) (t : ℕ) → AreSome (step_clauses z task places t)
some_step z task places t =
    let act = action_at z t in
    let now = fact_at z t in
    let next = fact_at z (t + 1) in
    let var = variable_at z t in
    let last = chain_clauses act (chain_at z t) task (chains task places) in
    let frames = frame_clauses now next var (rows task) (range task.facts) in
    let effs = effect_clauses act now next var (rows task) (rows task) in
    some_append (precondition_clauses act now 0 task.actions) (effs ++ (frames ++ last)) (some_preconditions act now 0 task.actions)
    (some_append effs (frames ++ last) (some_effects act now next var (rows task) (rows task))
    (some_append frames last (some_frames now next var (rows task) (range task.facts)) (some_chains act (chain_at z t) task (chains task places))))

some_pair : (now : ℕ → ℕ) (pairs : List (ℕ × ℕ)) (c : ℕ × ℕ) → AreSome (pair_clause now pairs c)
some_pair now pairs c =
    let two : List (List Literal) = (literal_over now c.0 ∷ literal_over now c.1 ∷ []) ∷ [] in
    some_if (c.0 == c.1) ((literal_over now c.0 ∷ []) ∷ []) (if is_single pairs c.0 || is_single pairs c.1 then [] else two) (omega arith, tt)
    (some_if (is_single pairs c.0 || is_single pairs c.1) [] two tt (omega arith, tt))

fold_some : (sorted lits : List ℕ) → 1 ≤ length sorted → 1 ≤ length (fold put sorted lits)
fold_some sorted [] h = h
fold_some sorted (l ∷ lits) h = fold_some (put sorted l) lits (put_some sorted l)

coded_few : (cs : List (List Literal)) → AreSome cs → length (coded cs) ≤ literals_in (coded cs)
coded_few [] h = omega arith
coded_few ([] ∷ cs) h = let x = h.0 in absurd (omega arith)
coded_few ((l ∷ c) ∷ cs) h = by (has_opposite_pair (map code (l ∷ c))) (coded_few cs h.1)
  where
    by : (b : Bool) → length (coded cs) ≤ literals_in (coded cs) → length (cons_option (if b then None else Some (fold put [] (map code (l ∷ c)))) (coded cs)) ≤ literals_in (cons_option (if b then None else Some (fold put [] (map code (l ∷ c)))) (coded cs))
    by true r = r
    by false r = let s = fold_some (code l ∷ []) (map code c) (omega arith) in omega arith

pub step_few : (task : Task) (places : List (List ℕ × ℕ)) → length (one_step task places) ≤ literals_in (one_step task places)
step_few task places =
    let z = layout_of task places 1 in
    coded_few (step_clauses z task places 0) (some_step z task places 0)

pub time_few : (pairs : List (ℕ × ℕ)) → length (one_time pairs) ≤ literals_in (one_time pairs)
time_few pairs = coded_few (flat_map (pair_clause (λ f. f) pairs) pairs) (some_flat (pair_clause (λ f. f) pairs) pairs (λ c. some_pair (λ f. f) pairs c))
