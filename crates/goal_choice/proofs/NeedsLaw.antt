-- What is gathered from a task is its supporters.
use Rattle.std.proofs.Common.{arith, ◌≡◌, ◌==◌, ℕ, suc, ◌+◌, ◌*◌, ◌/◌, ◌<◌, ◌≤◌, List, [], ◌∷◌, ◌++◌, map, length, get_or, Bool, true, false, ◌⊎◌, inl, inr, length-append, None, refl, sym, ap, ◌∙◌, subst, if◌then◌else◌}
use Rattle.std.specs.Prelude.{not}
use Rattle.std.specs.List.{filter, flat_map, list_all, AllByRecursion}
use Rattle.std.proofs.lemmas.List.{append-nil, length-map, map-append, get_or_past}
use Rattle.std.proofs.lemmas.List as lists
use Rattle.std.proofs.lemmas.List.Elements.{filter-append}
use Rattle.std.proofs.Math.ListN.{get_or-append, get_or-map}
use Rattle.std.proofs.lemmas.Bool.{cases_lt}
use Rattle.std.proofs.lemmas.Bool.Decides.{nat_tests}
use Rattle.gt_core.specs.Literal.{range_from}
use Rattle.gt_core.specs.Task.{Task, Effect, Action, EffectOf, owned, effects_from, effects, precondition}
use Rattle.gt_core.specs.Lawful.{is_conditional, is_action, is_task, is_literal_set, conditional_in}
use Rattle.gt_core.specs.Active.{EffectWithin}
use Rattle.formula_defs.specs.Layout.{Layout, width}
use Rattle.gt_core.proofs.published.Basics.{and_split}
use Rattle.gt_core.proofs.published.Within.{lawful, effects_within, precondition_within}
use Rattle.formula_defs.specs.Clause.{Is, code}
use Rattle.formula_defs.specs.Variables.{Row, rows, rows_from, variable_at, has_condition}
use Rattle.formula_defs.proofs.published.Counts.{conditional_count}
use Rattle.step_formula.specs.Rows.{made, IsIndex}
use Rattle.goal_choice.specs.Means.{Supporter, Means, supporter_of, supporters_of, plain_layout, gathered_of}
use Rattle.goal_choice.specs.own.Members.{IsWithin, AreMeans}
use Rattle.goal_choice.proofs.Ranges.{means_are}
use Rattle.goal_choice.specs.own.Needs.{needs_in, needs_of, supporter_in, supporters_in}

pub all_append : {A : Type 0} (P : A → Type 0) (xs ys : List A) → AllByRecursion P xs → AllByRecursion P ys → AllByRecursion P (xs ++ ys)
all_append P [] ys h k = k
all_append P (x ∷ xs) ys h k = (h.0, all_append P xs ys h.1 k)

each_weaker : {A : Type 0} (P Q : A → Type 0) (xs : List A) → ((x : A) → P x → Q x) → AllByRecursion P xs → AllByRecursion Q xs
each_weaker P Q [] h a = tt
each_weaker P Q (x ∷ xs) h a = (h x a.0, each_weaker P Q xs h a.1)

each_both : {A : Type 0} (P Q : A → Type 0) (xs : List A) → AllByRecursion P xs → AllByRecursion Q xs → AllByRecursion (λ x. P x × Q x) xs
each_both P Q [] a b = tt
each_both P Q (x ∷ xs) a b = ((a.0, b.0), each_both P Q xs a.1 b.1)

-- The effects of a task are of its actions and of its facts.

abbrev IsOf : ℕ → ℕ → EffectOf → Type 0
IsOf facts top e = (e.action < top) × AllByRecursion (λ l. l / 2 < facts) e.condition

owned_of : (facts top a : ℕ) (es : List Effect) → a < top → AllByRecursion (EffectWithin facts) es → AllByRecursion (IsOf facts top) (owned a es)
owned_of facts top a [] lt w = tt
owned_of facts top a (e ∷ es) lt w = ((lt, w.0.condition), owned_of facts top a es lt w.1)

effects_of : (facts top a : ℕ) (xs : List Action) → a + length xs ≡ top → list_all (is_action facts) xs ≡ true → AllByRecursion (IsOf facts top) (effects_from a xs)
effects_of facts top a [] e t = tt
effects_of facts top a (x ∷ xs) e t =
    let s = and_split (is_action facts x) _ t in
    let own = effects_within facts None x.effects (and_split (is_literal_set facts x.precondition) _ s.0).1 in
    all_append (IsOf facts top) (owned a x.effects) (effects_from (a + 1) xs) (owned_of facts top a x.effects (omega (arith, e)) own) (effects_of facts top (a + 1) xs (omega (arith, e)) s.1)

rows_of_effects : (P : EffectOf → Type 0) (j : ℕ) (es : List EffectOf) → AllByRecursion P es → AllByRecursion (λ r. P r.effect) (rows_from j es)
rows_of_effects P j [] a = tt
rows_of_effects P j (e ∷ es) a = (a.0, rows_of_effects P (if has_condition e then j + 1 else j) es a.1)

-- Conditional effects by their numbers.

-- what has to hold before an effect
abbrev before : Task → EffectOf → List ℕ
before task e = precondition task e.action ++ e.condition

-- and before each of the conditional ones
abbrev each_before : Task → List EffectOf → List (List ℕ)
each_before task es = map (before task) (filter has_condition es)

abbrev IsNumbered : Task → ℕ → List EffectOf → Row → Type 0
IsNumbered task j es r = has_condition r.effect ≡ true → (k : ℕ) × (r.number ≡ j + k) × (k < length (each_before task es)) × (get_or (each_before task es) k [] ≡ before task r.effect)

numbered : (task : Task) (j : ℕ) (es : List EffectOf) → AllByRecursion (IsNumbered task j es) (rows_from j es)
numbered task j [] = tt
numbered task j (e ∷ es) = by (has_condition e) refl (numbered task (j + 1) es) (numbered task j es)
  where
    later : (r : Row) → IsNumbered task (j + 1) es r → has_condition r.effect ≡ true
        → (k : ℕ) × (r.number ≡ j + k) × (k < suc (length (each_before task es))) × (get_or (before task e ∷ each_before task es) k [] ≡ before task r.effect)
    later r h t = let f = h t in let n = f.1 in let l = f.2 in (suc f.0, omega (arith, n), omega (arith, l), f.3)

    by : (b : Bool) → has_condition e ≡ b → AllByRecursion (IsNumbered task (j + 1) es) (rows_from (j + 1) es) → AllByRecursion (IsNumbered task j es) (rows_from j es)
        → AllByRecursion (λ r. has_condition r.effect ≡ true → (k : ℕ) × (r.number ≡ j + k) × (k < length (map (before task) (if b then e ∷ filter has_condition es else filter has_condition es))) × (get_or (map (before task) (if b then e ∷ filter has_condition es else filter has_condition es)) k [] ≡ before task r.effect))
        (record { effect = e; number = j } ∷ rows_from (if b then j + 1 else j) es)
    by true q up here = (λ t. (0, omega arith, omega arith, refl), each_weaker _ _ (rows_from (j + 1) es) later up)
    by false q up here = (λ t. absurd (false_true (sym q ∙ t)), here)
      where
        false_true : false ≡ true → ⊥
        false_true e = cc

-- those of the actions are those of their effects
needs_owned : (task : Task) (a : ℕ) (pre : List ℕ) (es : List Effect) → pre ≡ precondition task a → map (λ e. pre ++ e.condition) (filter is_conditional es) ≡ each_before task (owned a es)
needs_owned task a pre [] p = refl
needs_owned task a pre (e ∷ es) p = by (is_conditional e) (needs_owned task a pre es p)
  where
    by : (b : Bool) → map (λ e. pre ++ e.condition) (filter is_conditional es) ≡ each_before task (owned a es)
        → map (λ e. pre ++ e.condition) (if b then e ∷ filter is_conditional es else filter is_conditional es)
        ≡ map (before task) (if b then record { action = a; condition = e.condition; literal = e.literal } ∷ filter has_condition (owned a es) else filter has_condition (owned a es))
    by true h = ap (λ (ls : List ℕ). (ls ++ e.condition) ∷ map (λ e. pre ++ e.condition) (filter is_conditional es)) p ∙ ap (λ (ns : List (List ℕ)). (precondition task a ++ e.condition) ∷ ns) h
    by false h = h

needs_from : (task : Task) (a : ℕ) (xs : List Action) → ((k : ℕ) (d : Action) → k < length xs → (get_or xs k d).precondition ≡ precondition task (a + k)) → flat_map needs_in xs ≡ each_before task (effects_from a xs)
needs_from task a [] h = refl
needs_from task a (x ∷ xs) h =
    let here : x.precondition ≡ precondition task a = h 0 x (omega arith) ∙ ap (precondition task) (omega arith) in
    let rest = needs_from task (a + 1) xs (λ k d l. h (suc k) d (omega (arith, l)) ∙ ap (precondition task) (omega arith)) in
    ap (λ (ns : List (List ℕ)). ns ++ flat_map needs_in xs) (needs_owned task a x.precondition x.effects here)
    ∙ ap (λ (ns : List (List ℕ)). each_before task (owned a x.effects) ++ ns) rest
    ∙ sym (ap (map (before task)) (filter-append has_condition (owned a x.effects) (effects_from (a + 1) xs)) ∙ map-append (before task) (filter has_condition (owned a x.effects)) (filter has_condition (effects_from (a + 1) xs)))

needs_all : (task : Task) → flat_map needs_in task.actions ≡ each_before task (effects task)
needs_all task = needs_from task 0 task.actions (λ k d l. ap (λ (x : Action). x.precondition) (lists.get_or_default task.actions k d (record { precondition = []; effects = [] }) l) ∙ ap (precondition task) (omega arith))

count_all : (task : Task) → length (flat_map needs_in task.actions) ≡ conditional_in task.actions
count_all task = ap (λ (ns : List (List ℕ)). length ns) (needs_all task) ∙ length-map (filter has_condition (effects task)) (before task) ∙ conditional_count task

-- for each variable of the first step that is not a chain variable there are needs
pub needs_count : (task : Task) → length (needs_of task) ≡ length task.actions + conditional_in task.actions
needs_count task =
    let m = length-map task.actions (λ (a : Action). a.precondition) in
    let c = count_all task in
    length-append (map (λ a. a.precondition) task.actions) (flat_map needs_in task.actions) ∙ omega (arith, m, c)

no_condition : (ls : List ℕ) → not (length ls == 0) ≡ false → ls ≡ []
no_condition [] e = refl
no_condition (l ∷ ls) e = let t : (suc (length ls) == 0) ≡ false = grind (arith, nat_tests) in let q : true ≡ false = sym (ap not t) ∙ e in cc

supporter_made : (v w : ℕ) (ns ms : List ℕ) → v ≡ w → ns ≡ ms → (let x : Supporter = record { variable = v; needs = ns } in x) ≡ (let y : Supporter = record { variable = w; needs = ms } in y)
supporter_made v w ns ms e f = cc

-- The supporter of a row.

abbrev IsGathered : Task → Row → Type 0
IsGathered task r =
    (supporter_in (needs_of task) (variable_at (plain_layout task) 0 r) ≡ supporter_of task (plain_layout task) r)
    × IsWithin (plain_layout task) (supporter_of task (plain_layout task) r)

gathered_row : (task : Task) → is_task task ≡ true → (r : Row) → IsOf task.facts (length task.actions) r.effect × IsNumbered task 0 (effects task) r → IsGathered task r
gathered_row task lawful_ r h = by (has_condition r.effect) refl
  where
    z : Layout
    z = plain_layout task

    own : List (List ℕ)
    own = map (λ a. a.precondition) task.actions

    within : AllByRecursion (λ l. l / 2 < task.facts) (before task r.effect)
    within = all_append (λ l. l / 2 < task.facts) (precondition task r.effect.action) r.effect.condition (precondition_within task r.effect.action lawful_ h.0.0) h.0.1

    at_action : get_or (needs_of task) (0 * width z + r.effect.action) [] ≡ precondition task r.effect.action
    at_action =
        let place : 0 * width z + r.effect.action ≡ r.effect.action = omega arith in
        let long = length-map task.actions (λ (a : Action). a.precondition) in
        let lt = h.0.0 in
        ap (λ (n : ℕ). get_or (needs_of task) n []) place
        ∙ get_or-append own (flat_map needs_in task.actions) [] r.effect.action (omega (arith, long, lt))
        ∙ lists.get_or-map (λ (a : Action). a.precondition) task.actions r.effect.action (record { precondition = []; effects = [] }) [] lt

    at_effect : (k : ℕ) → r.number ≡ 0 + k → get_or (each_before task (effects task)) k [] ≡ before task r.effect → get_or (needs_of task) (0 * width z + length task.actions + r.number) [] ≡ before task r.effect
    at_effect k n g =
        let long = length-map task.actions (λ (a : Action). a.precondition) in
        let place : 0 * width z + length task.actions + r.number ≡ length own + k = omega (arith, n, long) in
        ap (λ (m : ℕ). get_or (needs_of task) m []) place
        ∙ lists.get_or-append-add own (flat_map needs_in task.actions) k []
        ∙ ap (λ (ns : List (List ℕ)). get_or ns k []) (needs_all task)
        ∙ g

    by : (b : Bool) → has_condition r.effect ≡ b → IsGathered task r
    by true t =
        let f = h.1 t in
        let variable : variable_at z 0 r ≡ 0 * width z + length task.actions + r.number = ap (λ (c : Bool). if c then 0 * width z + length task.actions + r.number else 0 * width z + r.effect.action) t in
        let n = f.1 in
        let l : f.0 < conditional_in task.actions = subst (λ (m : ℕ). f.0 < m) (ap (λ (ns : List (List ℕ)). length ns) (sym (needs_all task)) ∙ count_all task) f.2 in (
          supporter_made _ _ _ _ refl (ap (λ (m : ℕ). get_or (needs_of task) m []) variable ∙ at_effect f.0 f.1 f.3),
          record { variable = omega (arith, variable, n, l); needs = within },
        )
    by false t =
        let variable : variable_at z 0 r ≡ 0 * width z + r.effect.action = ap (λ (c : Bool). if c then 0 * width z + length task.actions + r.number else 0 * width z + r.effect.action) t in
        let lt = h.0.0 in (
          supporter_made _ _ _ _ refl (ap (λ (m : ℕ). get_or (needs_of task) m []) variable ∙ at_action ∙ sym (ap (λ (ls : List ℕ). precondition task r.effect.action ++ ls) (no_condition r.effect.condition t) ∙ append-nil (precondition task r.effect.action))),
          record { variable = omega (arith, variable, lt); needs = within },
        )

gathered_rows : (task : Task) → is_task task ≡ true → AllByRecursion (IsGathered task) (rows task)
gathered_rows task t =
    each_weaker _ _ (rows task) (gathered_row task t)
    (each_both _ _ (rows task)
    (rows_of_effects (IsOf task.facts (length task.actions)) 0 (effects task) (effects_of task.facts (length task.actions) 0 task.actions (omega arith) (lawful task t).each))
    (numbered task 0 (effects task)))

-- The supporters of a literal.

half : (n : ℕ) → (2 * n) / 2 ≡ n
half n = omega arith

of_literal : (task : Task) (l : ℕ) (rs : List Row) → AllByRecursion (IsGathered task) rs → map (supporter_in (needs_of task)) (map (λ c. c / 2) (made (plain_layout task) l rs)) ≡ supporters_of task (plain_layout task) rs l
of_literal task l [] a = refl
of_literal task l (r ∷ rs) a = by (r.effect.literal == l) (of_literal task l rs a.1)
  where
    by : (b : Bool) → map (supporter_in (needs_of task)) (map (λ c. c / 2) (made (plain_layout task) l rs)) ≡ supporters_of task (plain_layout task) rs l
        → map (supporter_in (needs_of task)) (map (λ c. c / 2) (map code (map (λ r. Is (variable_at (plain_layout task) 0 r)) (if b then r ∷ filter (λ r. r.effect.literal == l) rs else filter (λ r. r.effect.literal == l) rs))))
        ≡ map (supporter_of task (plain_layout task)) (if b then r ∷ filter (λ r. r.effect.literal == l) rs else filter (λ r. r.effect.literal == l) rs)
    by true h =
        ap (λ (n : ℕ). supporter_in (needs_of task) n ∷ map (supporter_in (needs_of task)) (map (λ c. c / 2) (made (plain_layout task) l rs))) (half (variable_at (plain_layout task) 0 r))
        ∙ ap (λ (s : Supporter). s ∷ map (supporter_in (needs_of task)) (map (λ c. c / 2) (made (plain_layout task) l rs))) a.0.0
        ∙ ap (λ (ss : List Supporter). supporter_of task (plain_layout task) r ∷ ss) h
    by false h = h

all_of_literal : (task : Task) (l : ℕ) (rs : List Row) → AllByRecursion (IsGathered task) rs → AllByRecursion (IsWithin (plain_layout task)) (supporters_of task (plain_layout task) rs l)
all_of_literal task l [] a = tt
all_of_literal task l (r ∷ rs) a = by (r.effect.literal == l) (all_of_literal task l rs a.1)
  where
    by : (b : Bool) → AllByRecursion (IsWithin (plain_layout task)) (supporters_of task (plain_layout task) rs l) → AllByRecursion (IsWithin (plain_layout task)) (map (supporter_of task (plain_layout task)) (if b then r ∷ filter (λ r. r.effect.literal == l) rs else filter (λ r. r.effect.literal == l) rs))
    by true h = (a.0.1, h)
    by false h = h

-- The lists of all literals.

by_place : {A : Type 0} (d : A) (f : ℕ → A) (k : ℕ) (xs : List A) → ((i : ℕ) → i < length xs → get_or xs i d ≡ f (k + i)) → xs ≡ map f (range_from k (length xs))
by_place d f k [] h = refl
by_place d f k (x ∷ xs) h =
    let here : x ≡ f k = h 0 (omega arith) ∙ ap f (omega arith) in
    let later = by_place d f (k + 1) xs (λ i l. h (suc i) (omega arith) ∙ ap f (omega arith)) in
    ap (λ (y : _). y ∷ xs) here ∙ ap (λ (ys : List _). f k ∷ ys) later

list_of_literal : (task : Task) (index : List (List ℕ)) → is_task task ≡ true → IsIndex (plain_layout task) task index → (l : ℕ) → l < 2 * task.facts
    → get_or (supporters_in (needs_of task) (map (map (λ c. c / 2)) index)) l [] ≡ supporters_of task (plain_layout task) (rows task) l
list_of_literal task index t i l lt =
    get_or-map (map (supporter_in (needs_of task))) (map (map (λ c. c / 2)) index) l []
    ∙ ap (map (supporter_in (needs_of task))) (get_or-map (map (λ c. c / 2)) index l [])
    ∙ ap (λ (cs : List ℕ). map (supporter_in (needs_of task)) (map (λ c. c / 2) cs)) (i.each l lt)
    ∙ of_literal task l (rows task) (gathered_rows task t)

lists_long : (needs index : List (List ℕ)) → length (supporters_in needs (map (map (λ c. c / 2)) index)) ≡ length index
lists_long needs index = length-map (map (map (λ c. c / 2)) index) (map (supporter_in needs)) ∙ length-map index (map (λ c. c / 2))

-- lists by literal are what each literal has
pub all_gathered : (task : Task) (index : List (List ℕ)) → is_task task ≡ true → IsIndex (plain_layout task) task index
    → supporters_in (needs_of task) (map (map (λ c. c / 2)) index) ≡ map (supporters_of task (plain_layout task) (rows task)) (range_from 0 (2 * task.facts))
all_gathered task index t i =
    let all = supporters_in (needs_of task) (map (map (λ c. c / 2)) index) in
    let long : length all ≡ 2 * task.facts = lists_long (needs_of task) index ∙ i.long in
    by_place [] (supporters_of task (plain_layout task) (rows task)) 0 all (λ l lt. list_of_literal task index t i l (omega (arith, lt, long)) ∙ ap (supporters_of task (plain_layout task) (rows task)) (omega arith))
    ∙ ap (λ (m : ℕ). map (supporters_of task (plain_layout task) (rows task)) (range_from 0 m)) long

pub all_within : (task : Task) (index : List (List ℕ)) → is_task task ≡ true → IsIndex (plain_layout task) task index → (l : ℕ)
    → AllByRecursion (IsWithin (plain_layout task)) (get_or (supporters_in (needs_of task) (map (map (λ c. c / 2)) index)) l [])
all_within task index t i l = by (cases_lt l (2 * task.facts))
  where
    all : List (List Supporter)
    all = supporters_in (needs_of task) (map (map (λ c. c / 2)) index)

    long : length all ≡ 2 * task.facts
    long = lists_long (needs_of task) index ∙ i.long

    by : (l < 2 * task.facts) ⊎ (2 * task.facts ≤ l) → AllByRecursion (IsWithin (plain_layout task)) (get_or all l [])
    by (inl lt) = subst (AllByRecursion (IsWithin (plain_layout task))) (sym (list_of_literal task index t i l lt)) (all_of_literal task l (rows task) (gathered_rows task t))
    by (inr le) = subst (AllByRecursion (IsWithin (plain_layout task))) (sym (get_or_past all l [] (let e = long in omega (arith, e, le)))) tt

-- what is made of them is as it must be
pub built : (task : Task) (z : Layout) (goal : List ℕ) (index variables needs : List (List ℕ)) → is_task task ≡ true → z ≡ plain_layout task → goal ≡ task.goal → IsIndex z task index → variables ≡ map (map (λ c. c / 2)) index → needs ≡ needs_of task
    → AreMeans (record { layout = z; goal = goal; supporters = supporters_in needs variables }) × (length needs ≡ z.actions + z.conditional)
built task z goal index variables needs t e g i v n =
    let j : IsIndex (plain_layout task) task index = subst (λ (y : Layout). IsIndex y task index) e i in
    let means = means_are task (plain_layout task) goal (supporters_of task (plain_layout task) (rows task)) (supporters_in (needs_of task) (map (map (λ c. c / 2)) index)) t refl g (all_gathered task index t j) (all_within task index t j) in (
      subst (λ (y : Layout). AreMeans (record { layout = y; goal = goal; supporters = supporters_in needs variables })) (sym e)
          (subst (λ (vs : List (List ℕ)). AreMeans (record { layout = plain_layout task; goal = goal; supporters = supporters_in needs vs })) (sym v)
          (subst (λ (ns : List (List ℕ)). AreMeans (record { layout = plain_layout task; goal = goal; supporters = supporters_in ns (map (map (λ c. c / 2)) index) })) (sym n) means)),
      ap (λ (ns : List (List ℕ)). length ns) n ∙ needs_count task ∙ sym (ap (λ (y : Layout). y.actions + y.conditional) e),
    )

-- and contracts see it as what is gathered from the task
pub seen_as : (task : Task) (z : Layout) (goal : List ℕ) (index variables needs : List (List ℕ)) → is_task task ≡ true → z ≡ plain_layout task → goal ≡ task.goal → IsIndex z task index → variables ≡ map (map (λ c. c / 2)) index → needs ≡ needs_of task
    → (let m : Means = record { layout = z; goal = goal; supporters = supporters_in needs variables } in m) ≡ gathered_of task
seen_as task z goal index variables needs t e g i v n =
    let j : IsIndex (plain_layout task) task index = subst (λ (y : Layout). IsIndex y task index) e i in
    let lists = ap (supporters_in needs) v ∙ ap (λ (ns : List (List ℕ)). supporters_in ns (map (map (λ c. c / 2)) index)) n ∙ all_gathered task index t j in
    same_means z (plain_layout task) goal task.goal (supporters_in needs variables) _ e g lists
  where
    same_means : (y z : Layout) (g h : List ℕ) (ss ts : List (List Supporter)) → y ≡ z → g ≡ h → ss ≡ ts → (let m : Means = record { layout = y; goal = g; supporters = ss } in m) ≡ (let n : Means = record { layout = z; goal = h; supporters = ts } in n)
    same_means y z g h ss ts d e f = cc
