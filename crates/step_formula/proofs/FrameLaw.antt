use Rattle.std.proofs.Common.{arith, ◌≡◌, ◌==◌, ℕ, ◌+◌, ◌*◌, ◌/◌, ◌%◌, List, [], ◌∷◌, ◌++◌, map, Bool, true, false, if◌then◌else◌, refl, sym, ap, ◌∙◌}
use Rattle.std.specs.List.{cons_option}
use Rattle.std.proofs.lemmas.Bool.Decides.{nat_tests}
use Rattle.gt_core.specs.Literal.{range}
use Rattle.gt_core.specs.Task.{Task}
use Rattle.formula_defs.specs.Layout.{Layout, fact_at}
use Rattle.action_order.proofs.published.Lists.{range_more}
use Rattle.clause_base.specs.Clause.{clause_of}
use Rattle.formula_defs.specs.Clause.{Literal, Is, Not, code}
use Rattle.formula_defs.specs.Variables.{rows, variable_at}
use Rattle.formula_defs.specs.Formula.{literal_over, effects_with, frame_clauses}
use Rattle.formula_defs.specs.Coded.{coded}
use Rattle.step_formula.specs.Rows.{made}
use Rattle.step_formula.proofs.EffectLaw.{two_parts, one_clause}

-- The frame clauses, fact by fact.

add_over : (fact : ℕ → ℕ) (f : ℕ) → literal_over fact (2 * f) ≡ Is (fact f)
add_over fact f = by ((2 * f) % 2 == 0) refl
  where
    by : (b : Bool) → ((2 * f) % 2 == 0) ≡ b → (if b then Is (fact ((2 * f) / 2)) else Not (fact ((2 * f) / 2))) ≡ Is (fact f)
    by true e = let h : (2 * f) / 2 ≡ f = omega arith in ap (λ (k : ℕ). Is (fact k)) h
    by false e = let h : (2 * f) % 2 ≡ 0 = omega arith in absurd (grind (arith, nat_tests))

delete_over : (fact : ℕ → ℕ) (f : ℕ) → literal_over fact (2 * f + 1) ≡ Not (fact f)
delete_over fact f = by ((2 * f + 1) % 2 == 0) refl
  where
    by : (b : Bool) → ((2 * f + 1) % 2 == 0) ≡ b → (if b then Is (fact ((2 * f + 1) / 2)) else Not (fact ((2 * f + 1) / 2))) ≡ Not (fact f)
    by true e = let h : (2 * f + 1) % 2 ≡ 1 = omega arith in absurd (grind (arith, nat_tests))
    by false e = let h : (2 * f + 1) / 2 ≡ f = omega arith in ap (λ (k : ℕ). Not (fact k)) h

module _ (z : Layout) (task : Task) where
  abbrev some : List ℕ → List (List Literal)
  some fs = frame_clauses (fact_at z 0) (fact_at z 1) (variable_at z 0) (rows task) fs

  some_more : (xs : List ℕ) (f : ℕ) → some (xs ++ f ∷ []) ≡ some xs ++ some (f ∷ [])
  some_more [] f = refl
  some_more (x ∷ xs) f = ap (λ (r : List (List Literal)). (Not (fact_at z 0 x) ∷ Is (fact_at z 1 x) ∷ effects_with (variable_at z 0) (λ e. e.literal == 2 * x + 1) (rows task)) ∷ (Is (fact_at z 0 x) ∷ Not (fact_at z 1 x) ∷ effects_with (variable_at z 0) (λ e. e.literal == 2 * x) (rows task)) ∷ r) (some_more xs f)

  abbrev stays_true : ℕ → List Literal
  stays_true f = Not (fact_at z 0 f) ∷ Is (fact_at z 1 f) ∷ effects_with (variable_at z 0) (λ e. e.literal == 2 * f + 1) (rows task)

  abbrev stays_false : ℕ → List Literal
  stays_false f = Is (fact_at z 0 f) ∷ Not (fact_at z 1 f) ∷ effects_with (variable_at z 0) (λ e. e.literal == 2 * f) (rows task)

  -- one more fact
  pub frame_step : (f : ℕ) (deleters adders : List ℕ) (initial before middle after : List (List ℕ)) → before ≡ initial ++ coded (some (range f))
      → deleters ≡ made z (2 * f + 1) (rows task) → adders ≡ made z (2 * f) (rows task)
      → middle ≡ before ++ cons_option (clause_of (code (literal_over (fact_at z 0) (2 * f + 1)) ∷ code (literal_over (fact_at z 1) (2 * f)) ∷ deleters)) []
      → after ≡ middle ++ cons_option (clause_of (code (literal_over (fact_at z 0) (2 * f)) ∷ code (literal_over (fact_at z 1) (2 * f + 1)) ∷ adders)) []
      → after ≡ initial ++ coded (some (range (f + 1)))
  frame_step f deleters adders initial before middle after h d a m g =
      two_parts (some (range f)) (some (f ∷ [])) initial before after h
      (two_parts (stays_true f ∷ []) (stays_false f ∷ []) before middle after
      (one_clause (stays_true f) _ before middle first_codes m)
      (one_clause (stays_false f) _ middle after second_codes g))
      ∙ ap (λ (cs : List (List Literal)). initial ++ coded cs) (sym (some_more (range f) f))
      ∙ ap (λ (fs : List ℕ). initial ++ coded (some fs)) (sym (range_more f))
    where
      first_codes : code (literal_over (fact_at z 0) (2 * f + 1)) ∷ code (literal_over (fact_at z 1) (2 * f)) ∷ deleters ≡ map code (stays_true f)
      first_codes =
          ap (λ (l : Literal). code l ∷ code (literal_over (fact_at z 1) (2 * f)) ∷ deleters) (delete_over (fact_at z 0) f)
          ∙ ap (λ (l : Literal). code (Not (fact_at z 0 f)) ∷ code l ∷ deleters) (add_over (fact_at z 1) f)
          ∙ ap (λ (r : List ℕ). code (Not (fact_at z 0 f)) ∷ code (Is (fact_at z 1 f)) ∷ r) d

      second_codes : code (literal_over (fact_at z 0) (2 * f)) ∷ code (literal_over (fact_at z 1) (2 * f + 1)) ∷ adders ≡ map code (stays_false f)
      second_codes =
          ap (λ (l : Literal). code l ∷ code (literal_over (fact_at z 1) (2 * f + 1)) ∷ adders) (add_over (fact_at z 0) f)
          ∙ ap (λ (l : Literal). code (Is (fact_at z 0 f)) ∷ code l ∷ adders) (delete_over (fact_at z 1) f)
          ∙ ap (λ (r : List ℕ). code (Is (fact_at z 0 f)) ∷ code (Not (fact_at z 1 f)) ∷ r) a
