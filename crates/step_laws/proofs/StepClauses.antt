use Rattle.std.proofs.Common.{arith, ◌≡◌, ◌==◌, ℕ, zero, suc, ◌+◌, ◌*◌, ◌/◌, ◌%◌, List, [], ◌∷◌, ◌++◌, map, length, Bool, true, false, not, ◌||◌, ◌&&◌, refl, sym, ap, ◌∙◌, subst, if◌then◌else◌, ◌⊎◌, inl, inr}
use Rattle.std.specs.List.{list_any, filter}
use Rattle.std.proofs.lemmas.Bool.Decides.{nat_tests}
use Rattle.gt_core.specs.Literal.{opposite, holds, all_hold, range}
use Rattle.gt_core.specs.Task.{Action, Task, EffectOf, effects}
use Rattle.gt_core.proofs.published.Basics.{Among, all_at, all_from, or_left, or_right, and_split, and_both}
use Rattle.gt_core.proofs.published.Literals.{opposite_holds, among_range, below_range}
use Rattle.formula_defs.specs.Clause.{Literal, Is, Not, truth, clause_true, AllTrue}
use Rattle.formula_defs.specs.Variables.{Row, rows_from, rows, has_condition}
use Rattle.formula_defs.specs.Formula.{literal_over, precondition_clauses, effects_with, meaning_clauses, result_clause, effect_clauses, frame_clauses}
use Rattle.formula_defs.proofs.published.Satisfied.{joined, parted, satisfied_each, satisfied_all, satisfied_map_each, satisfied_map_all, implies, implied}
use Rattle.formula_defs.proofs.published.InRange.{precondition_in}
use Rattle.step_laws.proofs.StepLaw.{is_effective, StepHolds}

over_by : (v : ℕ → Bool) (k : ℕ) (b : Bool) → truth v (if b then Is k else Not k) ≡ (if b then v k else not (v k))
over_by v k true = refl
over_by v k false = refl

-- a fact literal over variables
pub over : (v : ℕ → Bool) (now : ℕ → ℕ) (l : ℕ) → truth v (literal_over now l) ≡ holds (λ f. v (now f)) l
over v now l = over_by v (now (l / 2)) (l % 2 == 0)

-- each effect has its row
pub record RowOf (j : ℕ) (es : List EffectOf) (e : EffectOf) : Type 0 where
  pub row : Row
  pub among : Among row (rows_from j es)
  pub effect : row.effect ≡ e

pub row_of : (j : ℕ) (es : List EffectOf) (e : EffectOf) → Among e es → RowOf j es e
row_of j [] e a = absurd a
row_of j (d ∷ es) e (inl s) = record { row = record { effect = d; number = j }; among = inl refl; effect = sym s }
row_of j (d ∷ es) e (inr a) = let r = row_of (if has_condition d then j + 1 else j) es e a in record { row = r.row; among = inr r.among; effect = r.effect }

pub effect_of_row : (j : ℕ) (es : List EffectOf) (r : Row) → Among r (rows_from j es) → Among r.effect es
effect_of_row j [] r a = absurd a
effect_of_row j (d ∷ es) r (inl s) = inl (ap (λ (x : Row). x.effect) s)
effect_of_row j (d ∷ es) r (inr a) = inr (effect_of_row (if has_condition d then j + 1 else j) es r a)

module _ (v : ℕ → Bool) (act now next : ℕ → ℕ) (var : Row → ℕ) where
  abbrev members : ℕ → Bool
  members a = v (act a)

  abbrev before : ℕ → Bool
  before f = v (now f)

  abbrev after : ℕ → Bool
  after f = v (next f)

  -- the variable of an effect says that it is active
  abbrev pub Means : List Row → Type 0
  Means rs = (r : Row) → Among r rs → v (var r) ≡ is_effective members before r.effect

  -- an unconditional effect has its action's variable
  abbrev pub IsShared : List Row → Type 0
  IsShared rs = (r : Row) → Among r rs → has_condition r.effect ≡ false → var r ≡ act r.effect.action

  pub unconditional : (s : ℕ → Bool) (cs : List ℕ) → not (length cs == 0) ≡ false → all_hold s cs ≡ true
  unconditional s [] e = refl
  unconditional s (c ∷ cs) e = let n : length (c ∷ cs) ≡ 0 = grind (arith, nat_tests) in absurd (cc)

  some_false : (cs : List ℕ) → list_any (truth v) (map (λ c. literal_over now (opposite c)) cs) ≡ not (all_hold before cs)
  some_false [] = refl
  some_false (c ∷ cs) = rw (over v now (opposite c), opposite_holds before c, some_false cs) (by (holds before c) (all_hold before cs))
    where
      by : (a b : Bool) → (not a || not b) ≡ not (a && b)
      by true b = refl
      by false b = refl

  three : (y a c : Bool) → (y ≡ true → a ≡ true) → (y ≡ true → c ≡ true) → (y || (not a || not c)) ≡ true → y ≡ (a && c)
  three true a c h g e = sym (and_both a c (h refl) (g refl))
  three false true true h g e = cc
  three false true false h g e = refl
  three false false c h g e = refl

  back : (y a c : Bool) → y ≡ (a && c) → (y || (not a || not c)) ≡ true
  back true a c e = refl
  back false true true e = cc
  back false true false e = refl
  back false false c e = refl

  meaning_by : (r : Row) (b : Bool) → has_condition r.effect ≡ b → (b ≡ false → var r ≡ act r.effect.action) → AllTrue v (if b then (Not (var r) ∷ Is (act r.effect.action) ∷ []) ∷ map (λ c. Not (var r) ∷ literal_over now c ∷ []) r.effect.condition ++ (Is (var r) ∷ Not (act r.effect.action) ∷ map (λ c. literal_over now (opposite c)) r.effect.condition) ∷ [] else []) → v (var r) ≡ is_effective members before r.effect
  meaning_by r true e shared s =
      let p = parted v (map (λ c. Not (var r) ∷ literal_over now c ∷ []) r.effect.condition) _ s.1 in
      let last : (v (var r) || (not (v (act r.effect.action)) || not (all_hold before r.effect.condition))) ≡ true = rw some_false at p.1.0 in
      three (v (var r)) _ _ (implies _ _ s.0)
      (λ y. all_from (holds before) r.effect.condition (λ c a. sym (over v now c) ∙ implies (v (var r)) _ (satisfied_map_each v (λ c. Not (var r) ∷ literal_over now c ∷ []) r.effect.condition p.0 c a) y)) last
  meaning_by r false e shared s =
      ap v (shared refl) ∙ sym (and_true (members r.effect.action) _ (unconditional before r.effect.condition e))
    where
      and_true : (a b : Bool) → b ≡ true → (a && b) ≡ a
      and_true true b f = f
      and_true false b f = refl

  meant_by : (r : Row) (b : Bool) → v (var r) ≡ is_effective members before r.effect → AllTrue v (if b then (Not (var r) ∷ Is (act r.effect.action) ∷ []) ∷ map (λ c. Not (var r) ∷ literal_over now c ∷ []) r.effect.condition ++ (Is (var r) ∷ Not (act r.effect.action) ∷ map (λ c. literal_over now (opposite c)) r.effect.condition) ∷ [] else [])
  meant_by r false m = tt
  meant_by r true m = (
    implied (v (var r)) _ (λ y. (and_split _ _ (sym m ∙ y)).0),
    joined v (map (λ c. Not (var r) ∷ literal_over now c ∷ []) r.effect.condition) _
        (satisfied_map_all v (λ c. Not (var r) ∷ literal_over now c ∷ []) r.effect.condition (λ c a. implied (v (var r)) _ (λ y.
        over v now c ∙ all_at (holds before) r.effect.condition c (and_split _ _ (sym m ∙ y)).1 a)))
        (rw some_false (back (v (var r)) _ _ m), tt),
  )

  -- the effects that pass a test, by what their variables mean
  others_by : (test : EffectOf → Bool) (r : Row) (rest : List Row) (es : List EffectOf) (b : Bool) → v (var r) ≡ is_effective members before r.effect → list_any (truth v) (map (λ r. Is (var r)) rest) ≡ list_any (λ e. test e && is_effective members before e) es → list_any (truth v) (map (λ r. Is (var r)) (if b then r ∷ rest else rest)) ≡ ((b && is_effective members before r.effect) || list_any (λ e. test e && is_effective members before e) es)
  others_by test r rest es true m h = rw (m, h)
  others_by test r rest es false m h = h

  pub others : (test : EffectOf → Bool) (j : ℕ) (es : List EffectOf) → Means (rows_from j es) → clause_true v (effects_with var test (rows_from j es)) ≡ list_any (λ e. test e && is_effective members before e) es
  others test j [] m = refl
  others test j (e ∷ es) m =
      others_by test (record { effect = e; number = j }) (filter (λ r. test r.effect) (rows_from (if has_condition e then j + 1 else j) es)) es (test e) (m _ (inl refl))
      (others test (if has_condition e then j + 1 else j) es (λ r a. m r (inr a)))

  pub means : (all rs : List Row) → IsShared rs → AllTrue v (effect_clauses act now next var all rs) → Means rs
  means all rs shared s r a =
      let p = parted v (meaning_clauses act now var r) (result_clause next var all r ∷ []) (satisfied_each v (λ r. meaning_clauses act now var r ++ result_clause next var all r ∷ []) rs s r a) in
      meaning_by r (has_condition r.effect) refl (shared r a) p.0

  result_read : (y h even o : Bool) (rest : List Literal) → y ≡ true → clause_true v rest ≡ o → (not y || (h || list_any (truth v) (if even then [] else rest))) ≡ true → (h ≡ true) ⊎ (even ≡ false × o ≡ true)
  result_read false h even o rest y e c = cc
  result_read true true even o rest y e c = inl refl
  result_read true false true o rest y e c = cc
  result_read true false false o rest y e c = inr (refl, sym e ∙ c)

  result_write : (y h even o : Bool) (rest : List Literal) → clause_true v rest ≡ o → (y ≡ true → (h ≡ true) ⊎ (even ≡ false × o ≡ true)) → (not y || (h || list_any (truth v) (if even then [] else rest))) ≡ true
  result_write false h even o rest e c = refl
  result_write true h even o rest e c = elim (c refl) [
    | inl x ↦ or_left h _ x
    | inr x ↦ or_right h _ (rw x.0 (e ∙ x.1))
  ]

  frame_read : (now later o : Bool) (rest : List Literal) → clause_true v rest ≡ o → (not now || (later || clause_true v rest)) ≡ true → now ≡ true → later ≡ false → o ≡ true
  frame_read false later o rest e c x y = cc
  frame_read true true o rest e c x y = cc
  frame_read true false o rest e c x y = sym e ∙ c

  frame_write : (now later o : Bool) (rest : List Literal) → clause_true v rest ≡ o → (now ≡ true → later ≡ false → o ≡ true) → (not now || (later || clause_true v rest)) ≡ true
  frame_write false later o rest e h = refl
  frame_write true true o rest e h = refl
  frame_write true false o rest e h = e ∙ h refl refl

  frame_read_false : (now later o : Bool) (rest : List Literal) → clause_true v rest ≡ o → (now || (not later || clause_true v rest)) ≡ true → now ≡ false → later ≡ true → o ≡ true
  frame_read_false true later o rest e c x y = cc
  frame_read_false false false o rest e c x y = cc
  frame_read_false false true o rest e c x y = sym e ∙ c

  frame_write_false : (now later o : Bool) (rest : List Literal) → clause_true v rest ≡ o → (now ≡ false → later ≡ true → o ≡ true) → (now || (not later || clause_true v rest)) ≡ true
  frame_write_false true later o rest e h = refl
  frame_write_false false false o rest e h = refl
  frame_write_false false true o rest e h = e ∙ h refl refl

  abbrev frame_of : List Row → ℕ → List (List Literal)
  frame_of all f = (Not (now f) ∷ Is (next f) ∷ effects_with var (λ e. e.literal == 2 * f + 1) all) ∷ (Is (now f) ∷ Not (next f) ∷ effects_with var (λ e. e.literal == 2 * f) all) ∷ []

  module _ (task : Task) where
    abbrev same_action : EffectOf → EffectOf → Bool
    same_action e d = (d.action == e.action) && (d.literal == opposite e.literal)

    -- satisfied effect and frame clauses, as facts on the states
    pub clauses_hold : IsShared (rows task) → AllTrue v (effect_clauses act now next var (rows task) (rows task)) → AllTrue v (frame_clauses now next var (rows task) (range task.facts)) → StepHolds task members before after
    clauses_hold shared s f =
        let m = means (rows task) (rows task) shared s in
        record {
          results = λ e a x.
              let r = row_of 0 (effects task) e a in
              let p = parted v (meaning_clauses act now var r.row) (result_clause next var (rows task) r.row ∷ []) (satisfied_each v (λ r. meaning_clauses act now var r ++ result_clause next var (rows task) r ∷ []) (rows task) s r.row r.among) in
              let y : v (var r.row) ≡ true = m r.row r.among ∙ ap (is_effective members before) r.effect ∙ x in
              let c : (not (v (var r.row)) || (holds after r.row.effect.literal || list_any (truth v) (if r.row.effect.literal % 2 == 0 then [] else effects_with var (same_action r.row.effect) (rows task)))) ≡ true = rw over at p.1.0 in
              let at_row = result_read _ _ _ _ _ y (others (same_action r.row.effect) 0 (effects task) m) c in
              subst (λ (d : EffectOf). (holds after d.literal ≡ true) ⊎ ((d.literal % 2 == 0) ≡ false × list_any (λ b. same_action d b && is_effective members before b) (effects task) ≡ true)) r.effect at_row;
          stays_true = λ k lt x y.
              let c = satisfied_each v (frame_of (rows task)) (range task.facts) f k (among_range task.facts 0 k (omega arith) (omega arith)) in
              frame_read _ _ _ (effects_with var (λ e. e.literal == 2 * k + 1) (rows task)) (others (λ e. e.literal == 2 * k + 1) 0 (effects task) m) c.0 x y;
          stays_false = λ k lt x y.
              let c = satisfied_each v (frame_of (rows task)) (range task.facts) f k (among_range task.facts 0 k (omega arith) (omega arith)) in
              frame_read_false _ _ _ (effects_with var (λ e. e.literal == 2 * k) (rows task)) (others (λ e. e.literal == 2 * k) 0 (effects task) m) c.1.0 x y;
        }

    pub hold_clauses : Means (rows task) → StepHolds task members before after → AllTrue v (effect_clauses act now next var (rows task) (rows task)) × AllTrue v (frame_clauses now next var (rows task) (range task.facts))
    hold_clauses m h = (
      satisfied_all v (λ r. meaning_clauses act now var r ++ result_clause next var (rows task) r ∷ []) (rows task) (λ r a.
          joined v (meaning_clauses act now var r) _ (meant_by r (has_condition r.effect) (m r a))
          (rw over (result_write _ _ _ _ _ (others (same_action r.effect) 0 (effects task) m) (λ y. h.results r.effect (effect_of_row 0 (effects task) r a) (sym (m r a) ∙ y))), tt)),
      satisfied_all v (frame_of (rows task)) (range task.facts) (λ k a. (
        frame_write _ _ _ (effects_with var (λ e. e.literal == 2 * k + 1) (rows task)) (others (λ e. e.literal == 2 * k + 1) 0 (effects task) m) (h.stays_true k (below_range task.facts k a)),
        (
          frame_write_false _ _ _ (effects_with var (λ e. e.literal == 2 * k) (rows task)) (others (λ e. e.literal == 2 * k) 0 (effects task) m) (h.stays_false k (below_range task.facts k a)),
          tt,
        ),
      )),
    )

  -- preconditions
  pub preconditions_read : (a : ℕ) (xs : List Action) → AllTrue v (precondition_clauses act now a xs) → (k : ℕ) → v (act (a + k)) ≡ true → all_hold before (precondition_in xs k) ≡ true
  preconditions_read a [] s k h = refl
  preconditions_read a (x ∷ xs) s zero h =
      let z : a + 0 ≡ a = omega arith in
      let q = parted v (map (λ l. Not (act a) ∷ literal_over now l ∷ []) x.precondition) (precondition_clauses act now (a + 1) xs) s in
      all_from (holds before) x.precondition (λ l i. sym (over v now l) ∙ implies (v (act a)) _ (satisfied_map_each v (λ l. Not (act a) ∷ literal_over now l ∷ []) x.precondition q.0 l i) (ap (λ (n : ℕ). v (act n)) (sym z) ∙ h))
  preconditions_read a (x ∷ xs) s (suc k) h =
      let q = parted v (map (λ l. Not (act a) ∷ literal_over now l ∷ []) x.precondition) (precondition_clauses act now (a + 1) xs) s in
      let z : (a + 1) + k ≡ a + suc k = omega arith in
      preconditions_read (a + 1) xs q.1 k (ap (λ (n : ℕ). v (act n)) z ∙ h)

  pub preconditions_write : (a : ℕ) (xs : List Action) → ((k : ℕ) → v (act (a + k)) ≡ true → all_hold before (precondition_in xs k) ≡ true) → AllTrue v (precondition_clauses act now a xs)
  preconditions_write a [] h = tt
  preconditions_write a (x ∷ xs) h =
      let z : a + 0 ≡ a = omega arith in
      joined v (map (λ l. Not (act a) ∷ literal_over now l ∷ []) x.precondition) _
      (satisfied_map_all v (λ l. Not (act a) ∷ literal_over now l ∷ []) x.precondition (λ l i. implied _ _ (λ y. over v now l ∙ all_at (holds before) x.precondition l (h zero (ap (λ (n : ℕ). v (act n)) z ∙ y)) i)))
      (preconditions_write (a + 1) xs (λ k y. let e : (a + 1) + k ≡ a + suc k = omega arith in h (suc k) (ap (λ (n : ℕ). v (act n)) (sym e) ∙ y)))
