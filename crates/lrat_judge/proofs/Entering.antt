-- How a checker, ids and a count stand after a line.
use Rattle.std.proofs.Common.{arith, ◌≡◌, ◌+◌, ◌<◌, ◌≤◌, ℕ, zero, suc, List, [], ◌∷◌, ◌++◌, length, get_or, drop, Bool, true, false, Option, Some, None, Result, Ok, Err, option_map, refl, sym, ap, ◌∙◌, subst, length-append}
use Rattle.std.specs.Prelude.{option_and_then, nat_lt, IfOk}
use Rattle.std.specs.List.{list_all}
use Rattle.std.proofs.Math.ListN.{drop_of_length-le}
use Rattle.std.proofs.Math.Seq.{drop-cons}
use Rattle.std.proofs.lemmas.Bool.{lt-ltb, ltb-true}
use Rattle.lrat_judge.specs.Ids.{Rises}
use Rattle.clause_base.specs.Clause.{clause_of}
use Rattle.clause_base.specs.Formula.{Cnf}
use Rattle.clause_base.specs.Derivation.{is_derived_after}
use Rattle.clause_base.specs.declared.log.Entry.{Entry}
use Rattle.clause_base.specs.declared.log.Entry.TheVariants.{Learn, Drop}
use Rattle.containers.specs.declared.memory.Memory.{Memory}
use Rattle.rup_check.specs.Taken.{CheckerView, HasTaken}
use Rattle.sat_text.specs.LratLine.{LineView, codes_of, plain_ids, is_foreign}
use Rattle.lrat_judge.specs.Judged.{counted}
use Rattle.lrat_judge.specs.Follow.{Known, number_named, numbers_named, rises, with_entry, with_lawful, with_clause, without, follow}
use Rattle.lrat_judge.specs.Reached.{Enters, StandsAt, Stands}

-- ---- one entry

pub enters_not : (checker : CheckerView) (entries : ℕ) (formula : Cnf) (log : List Entry) (entry : Entry) → false ≡ is_derived_after formula.variables formula.clauses log (Some entry) → Enters false checker entries (with_entry formula log entry)
unfolding with_entry
enters_not checker entries formula log entry not_derived = rw (← not_derived) refl

-- one entry is counted
pub one_more : (old : ℕ) (log : List Entry) (entry : Entry) → old ≡ counted (length log) → counted (old + 1) ≡ counted (length (log ++ entry ∷ []))
one_more old log entry is = let l : length (log ++ entry ∷ []) ≡ length log + 1 = length-append log (entry ∷ []) in omega (arith, l, is)

pub enters_so : (checker : CheckerView) (entries : ℕ) (formula : Cnf) (log : List Entry) (entry : Entry) → true ≡ is_derived_after formula.variables formula.clauses log (Some entry)
    → HasTaken checker (log ++ entry ∷ []) → entries ≡ counted (length (log ++ entry ∷ [])) → Enters true checker entries (with_entry formula log entry)
unfolding with_entry
enters_so checker entries formula log entry derived taken count = rw (← derived) (refl, taken, count)

pub entered : (checker : CheckerView) (entries : ℕ) (o : Option (List Entry)) → Enters true checker entries o → (log : List Entry) × (o ≡ Some log) × HasTaken checker log × (entries ≡ counted (length log))
entered checker entries None h = absurd (let never : true ≡ false = h in cc)
entered checker entries (Some log) h = (log, refl, h.1, h.2)

pub not_entered : (checker : CheckerView) (entries : ℕ) (o : Option (List Entry)) → Enters false checker entries o → o ≡ None
not_entered checker entries None h = refl
not_entered checker entries (Some log) h = absurd (let never : false ≡ true = h.0 in cc)

-- ---- clauses that are dropped

pub without_none : (formula : Cnf) (table ids : List ℕ) (id : ℕ) (log : List Entry) → None ≡ number_named table id → without formula table (id ∷ ids) log ≡ None
without_none formula table ids id log none = rw (← none) refl

pub without_stops : (formula : Cnf) (table ids : List ℕ) (id n : ℕ) (log : List Entry) → Some n ≡ number_named table id → with_entry formula log (Drop n) ≡ None → without formula table (id ∷ ids) log ≡ None
without_stops formula table ids id n log named none = rw (← named) (ap (option_and_then (without formula table ids)) none)

pub without_more : (formula : Cnf) (table ids : List ℕ) (id n : ℕ) (log next : List Entry) → Some n ≡ number_named table id → with_entry formula log (Drop n) ≡ Some next → without formula table (id ∷ ids) log ≡ without formula table ids next
without_more formula table ids id n log next named is = rw (← named) (ap (option_and_then (without formula table ids)) is)

-- ---- a clause that is added

pub stands_entered : (answer : Bool) (checker : CheckerView) (ids next : List ℕ) (entries : ℕ) (o : Option (List Entry)) → ids ≡ next → Enters answer checker entries o → Stands answer checker ids entries (option_map (λ log. record { ids = next; log = log }) o)
stands_entered answer checker ids next entries None is h = h
stands_entered answer checker ids next entries (Some log) is h = (h.0, record { taken = h.1; ids_are = is; entries_are = h.2 })

pub clause_foreign : (formula : Cnf) (known : Known) (line : LineView) → is_foreign line ≡ true → with_clause formula known line ≡ None
unfolding with_clause
clause_foreign formula known line foreign = rw foreign refl

-- What a line comes to that is not foreign, by its clause.
module _ (formula : Cnf) (known : Known) (line : LineView) (plain : is_foreign line ≡ false) where
  pub clause_passed : clause_of (codes_of line.literals) ≡ None → with_clause formula known line ≡ Some known
  unfolding with_clause
  clause_passed none = rw (plain, none) refl

  module _ (clause : List ℕ) (is : clause_of (codes_of line.literals) ≡ Some clause) where
    clause_lawful : with_clause formula known line ≡ with_lawful formula known line clause
    unfolding with_clause
    clause_lawful = rw (plain, is) refl

    pub clause_falls : rises line.id known.ids ≡ false → with_clause formula known line ≡ None
    unfolding with_lawful
    clause_falls falls = clause_lawful ∙ (rw falls refl)

    pub clause_unnamed : numbers_named known.ids (plain_ids line.hints) ≡ None → with_clause formula known line ≡ None
    unfolding with_lawful
    clause_unnamed none = clause_lawful ∙ by (rises line.id known.ids) refl
      where
        by : (b : Bool) → rises line.id known.ids ≡ b → with_lawful formula known line clause ≡ None
        by true e = rw (e, none) refl
        by false e = rw e refl

    pub with_clause_is : (hints : List ℕ) → rises line.id known.ids ≡ true → numbers_named known.ids (plain_ids line.hints) ≡ Some hints
        → with_clause formula known line ≡ option_map (λ log. record { ids = known.ids ++ line.id ∷ []; log = log }) (with_entry formula known.log (Learn clause hints))
    unfolding with_lawful
    with_clause_is hints rising named = clause_lawful ∙ (rw (rising, named) refl)

-- ---- a line

pub follow_deletes : (formula : Cnf) (known : Known) (line : LineView) → line.deletes ≡ true → follow formula known line ≡ option_map (λ log. record { ids = known.ids; log = log }) (without formula known.ids (plain_ids line.hints) known.log)
unfolding follow
follow_deletes formula known line deletes = rw deletes refl

pub follow_adds : (formula : Cnf) (known : Known) (line : LineView) → line.deletes ≡ false → follow formula known line ≡ with_clause formula known line
unfolding follow
follow_adds formula known line adds = rw adds refl

-- ---- ids that rise

pub all_below : (id : ℕ) (ids : List ℕ) → ((k : ℕ) → k < length ids → get_or ids k 0 < id) → list_all (λ k. nat_lt k id) ids ≡ true
all_below id [] below = refl
all_below id (k ∷ ids) below = rw (lt-ltb k id (below 0 (omega arith))) (all_below id ids (λ j less. below (suc j) (omega (arith, less))))

pub below_all : (id : ℕ) (ids : List ℕ) → list_all (λ k. nat_lt k id) ids ≡ true → (k : ℕ) → k < length ids → get_or ids k 0 < id
below_all id [] all k less = absurd (let never : ⊥ = omega (arith, less) in never)
below_all id (j ∷ ids) all k less = by (below_all id ids) (nat_lt j id) refl k less
  where
    by : (list_all (λ k. nat_lt k id) ids ≡ true → (k : ℕ) → k < length ids → get_or ids k 0 < id) → (b : Bool) → nat_lt j id ≡ b → (k : ℕ) → k < length (j ∷ ids) → get_or (j ∷ ids) k 0 < id
    by rest true e zero l = ltb-true j id e
    by rest true e (suc k) l = rest (rw e at all) k (omega (arith, l))
    by rest false e k l = absurd (let never : false ≡ true = rw e at all in cc)

pub rises_so : (id : ℕ) (ids : List ℕ) → Rises id ids → rises id ids ≡ true
rises_so id ids r = rw (lt-ltb 0 id r.positive) (all_below id ids r.above)

pub rises_not : (id : ℕ) (ids : List ℕ) → (Rises id ids → ⊥) → rises id ids ≡ false
rises_not id ids not_so = by (rises id ids) refl
  where
    by : (b : Bool) → rises id ids ≡ b → rises id ids ≡ false
    by true e = absurd (parts (nat_lt 0 id) refl e)
      where
        parts : (b : Bool) → nat_lt 0 id ≡ b → rises id ids ≡ true → ⊥
        parts true f g = not_so (record { positive = ltb-true 0 id f; above = below_all id ids (rw f at g) })
        parts false f g = let never : false ≡ true = rw f at g in cc
    by false e = e

-- ---- ids and numbers

-- ---- what was said

pub none_stands : (checker : CheckerView) (ids : List ℕ) (entries : ℕ) (o : Option Known) → o ≡ None → Stands false checker ids entries o
none_stands checker ids entries o none = subst (λ (k : Option Known). Stands false checker ids entries k) (sym none) refl

pub none_enters : (checker : CheckerView) (entries : ℕ) (o : Option (List Entry)) → o ≡ None → Enters false checker entries o
none_enters checker entries o none = subst (λ (k : Option (List Entry)). Enters false checker entries k) (sym none) refl

pub same_stands : (checker : CheckerView) (ids : List ℕ) (entries : ℕ) (known : Known) (o : Option Known) → o ≡ Some known → StandsAt checker ids entries known → Stands true checker ids entries o
same_stands checker ids entries known o is stands = subst (λ (k : Option Known). Stands true checker ids entries k) (sym is) (refl, stands)

pub not_stood : (checker : CheckerView) (ids : List ℕ) (entries : ℕ) (o : Option Known) → Stands false checker ids entries o → o ≡ None
not_stood checker ids entries None h = refl
not_stood checker ids entries (Some known) h = absurd (let never : false ≡ true = h.0 in cc)

pub stood : (checker : CheckerView) (ids : List ℕ) (entries : ℕ) (o : Option Known) → Stands true checker ids entries o → (known : Known) × (o ≡ Some known) × StandsAt checker ids entries known
stood checker ids entries None h = absurd (let never : true ≡ false = h in cc)
stood checker ids entries (Some known) h = (known, refl, h.1)

pub stands_as : (answer : Bool) (checker : CheckerView) (ids : List ℕ) (entries : ℕ) (o k : Option Known) → o ≡ k → Stands answer checker ids entries o → Stands answer checker ids entries k
stands_as answer checker ids entries o k e h = subst (λ (x : Option Known). Stands answer checker ids entries x) e h

pub ok_stands_as : (r : Result Bool Memory) (checker : CheckerView) (ids : List ℕ) (entries : ℕ) (o k : Option Known) → o ≡ k → IfOk r (λ answer. Stands answer checker ids entries o) → IfOk r (λ answer. Stands answer checker ids entries k)
ok_stands_as r checker ids entries o k e h = subst (λ (x : Option Known). IfOk r (λ answer. Stands answer checker ids entries x)) e h

pub ok_stands : (r : Result Bool Memory) (checker : CheckerView) (ids next : List ℕ) (entries : ℕ) (o : Option (List Entry)) (k : Option Known) → option_map (λ log. record { ids = next; log = log }) o ≡ k → ids ≡ next
    → IfOk r (λ answer. Enters answer checker entries o) → IfOk r (λ answer. Stands answer checker ids entries k)
ok_stands (Ok answer) checker ids next entries o k e is h = stands_as answer checker ids entries _ k e (stands_entered answer checker ids next entries o is h)
ok_stands (Err error) checker ids next entries o k e is h = tt

-- ---- the ids of a line, one after another

-- Ids that are left from a place on, after entries, and the one at that place.
module _ (formula other : Cnf) (same : other ≡ formula) (table ids : List ℕ) (i : ℕ) (less : i < length ids) (first now : List Entry) (so_far : without formula table ids first ≡ without formula table (drop i ids) now) where
  rest : without formula table ids first ≡ without formula table (get_or ids i 0 ∷ drop (suc i) ids) now
  rest = so_far ∙ ap (λ (left : List ℕ). without formula table left now) (drop-cons ids i 0 less)

  pub forgets_none : (checker : CheckerView) (entries : ℕ) → None ≡ number_named table (get_or ids i 0) → Enters false checker entries (without formula table ids first)
  forgets_none checker entries none = none_enters checker entries _ (rest ∙ without_none formula table (drop (suc i) ids) (get_or ids i 0) now none)

  pub forgets_stop : (checker : CheckerView) (entries n : ℕ) → Some n ≡ number_named table (get_or ids i 0) → Enters false checker entries (with_entry other now (Drop n)) → Enters false checker entries (without formula table ids first)
  forgets_stop checker entries n named h =
      let none = ap (λ (f : Cnf). with_entry f now (Drop n)) (sym same) ∙ not_entered checker entries (with_entry other now (Drop n)) h in
      none_enters checker entries _ (rest ∙ without_stops formula table (drop (suc i) ids) (get_or ids i 0) n now named none)

  pub forgets_more : (checker : CheckerView) (entries n : ℕ) → Some n ≡ number_named table (get_or ids i 0) → Enters true checker entries (with_entry other now (Drop n))
      → (next : List Entry) × HasTaken checker next × (entries ≡ counted (length next)) × (without formula table ids first ≡ without formula table (drop (i + 1) ids) next)
  forgets_more checker entries n named h =
      let e = entered checker entries (with_entry other now (Drop n)) h in
      let is = ap (λ (f : Cnf). with_entry f now (Drop n)) (sym same) ∙ e.1 in
      let one : suc i ≡ i + 1 = omega arith in
      (e.0, e.2, e.3, rest ∙ (without_more formula table (drop (suc i) ids) (get_or ids i 0) n now e.0 named is ∙ ap (λ (k : ℕ). without formula table (drop k ids) e.0) one))

-- all ids were met
pub forgets_all : (formula : Cnf) (table ids : List ℕ) (i : ℕ) (first now : List Entry) (checker : CheckerView) (entries : ℕ) → length ids ≤ i → without formula table ids first ≡ without formula table (drop i ids) now
    → HasTaken checker now → entries ≡ counted (length now) → Enters true checker entries (without formula table ids first)
forgets_all formula table ids i first now checker entries all so_far taken count =
    let is : without formula table ids first ≡ Some now = so_far ∙ ap (λ (left : List ℕ). without formula table left now) (drop_of_length-le ids all) in
    subst (λ (o : Option (List Entry)). Enters true checker entries o) (sym is) (refl, taken, count)
