use Rattle.std.proofs.Common.{◌≡◌, ℕ, ◌+◌, ◌<◌, ◌≤◌, List, [], ◌∷◌, ◌++◌, length, drop, get_or, count_by, refl, sym, ap, ◌∙◌}
use Rattle.std.proofs.lemmas.List.{drop_more, drop_all}
use Rattle.gt_core.specs.Task.{Effect, Action, owned, effects_from}
use Rattle.gt_core.specs.Lawful.{is_conditional}
use Rattle.formula_defs.specs.Layout.{Layout}
use Rattle.formula_defs.specs.Variables.{Row, rows_from}
use Rattle.step_formula.specs.Rows.{row_of, rows_of, number_after, made}
use Rattle.step_formula.proofs.Groups.{rest}
use Rattle.step_formula.proofs.RowLaw.{made_parts, rows_parts, rows_step}
use Rattle.std.proofs.lemmas.List.{append-nil}

-- The index of effects by literal, as it grows.

-- what is made of rows, one after the other
module _ {A : Type 0} (f : List Row → List A) (parts : (xs ys : List Row) → f (xs ++ ys) ≡ f xs ++ f ys) where
  -- one more effect
  pub gather_effect : (a number next : ℕ) (es : List Effect) (i : ℕ) (d e : Effect) (whole before after : List A) → i < length es → e ≡ get_or es i d → next ≡ number_after number e → whole ≡ before ++ f (rows_of a number (drop i es)) → after ≡ before ++ f (row_of a number e ∷ []) → whole ≡ after ++ f (rows_of a next (drop (i + 1) es))
  gather_effect a number next es i d e whole before after lt is n h g =
      rest whole before after (f (row_of a number e ∷ [])) (f (rows_of a (number_after number e) (drop (i + 1) es)))
      (h ∙ ap (λ (r : List Row). before ++ f r) (rows_step a number es i d e lt is)
      ∙ ap (λ (r : List A). before ++ r) (parts (row_of a number e ∷ []) (rows_of a (number_after number e) (drop (i + 1) es)))) g
      ∙ ap (λ (k : ℕ). after ++ f (rows_of a k (drop (i + 1) es))) (sym n)

  -- one more action
  pub gather_action : (a first next : ℕ) (acts : List Action) (d : Action) (es : List Effect) (whole before after : List A) → a < length acts → es ≡ (get_or acts a d).effects → next ≡ first + count_by is_conditional es → whole ≡ before ++ f (rows_from first (effects_from a (drop a acts))) → after ≡ before ++ f (rows_of a first es) → whole ≡ after ++ f (rows_from next (effects_from (a + 1) (drop (a + 1) acts)))
  gather_action a first next acts d es whole before after lt is n h g =
      rest whole before after (f (rows_of a first es)) (f (rows_from (first + count_by is_conditional es) (effects_from (a + 1) (drop (a + 1) acts))))
      (h ∙ ap (λ (xs : List Action). before ++ f (rows_from first (effects_from a xs))) (drop_more acts a d lt)
      ∙ ap (λ (ds : List Effect). before ++ f (rows_from first (owned a ds ++ effects_from (a + 1) (drop (a + 1) acts)))) (sym is)
      ∙ ap (λ (r : List Row). before ++ f r) (rows_parts a first es (effects_from (a + 1) (drop (a + 1) acts)))
      ∙ ap (λ (r : List A). before ++ r) (parts (rows_of a first es) (rows_from (first + count_by is_conditional es) (effects_from (a + 1) (drop (a + 1) acts))))) g
      ∙ ap (λ (k : ℕ). after ++ f (rows_from k (effects_from (a + 1) (drop (a + 1) acts)))) (sym n)

  -- past the last action
  pub gather_all : f [] ≡ [] → (a first : ℕ) (acts : List Action) (whole before : List A) → length acts ≤ a → whole ≡ before ++ f (rows_from first (effects_from a (drop a acts))) → before ≡ whole
  gather_all none a first acts whole before le h =
      sym (h ∙ ap (λ (xs : List Action). before ++ f (rows_from first (effects_from a xs))) (drop_all a acts le) ∙ ap (λ (r : List A). before ++ r) none ∙ append-nil before)

-- one more effect
pub made_step : (z : Layout) (a l number next : ℕ) (es : List Effect) (i : ℕ) (d e : Effect) (whole before after : List ℕ) → i < length es → e ≡ get_or es i d → next ≡ number_after number e → whole ≡ before ++ made z l (rows_of a number (drop i es)) → after ≡ before ++ made z l (row_of a number e ∷ []) → whole ≡ after ++ made z l (rows_of a next (drop (i + 1) es))
made_step z a l = gather_effect (made z l) (made_parts z l) a

-- one more action
pub made_more : (z : Layout) (l a first next : ℕ) (acts : List Action) (d : Action) (es : List Effect) (whole before after : List ℕ) → a < length acts → es ≡ (get_or acts a d).effects → next ≡ first + count_by is_conditional es → whole ≡ before ++ made z l (rows_from first (effects_from a (drop a acts))) → after ≡ before ++ made z l (rows_of a first es) → whole ≡ after ++ made z l (rows_from next (effects_from (a + 1) (drop (a + 1) acts)))
made_more z l = gather_action (made z l) (made_parts z l)

-- past the last action
pub made_whole : (z : Layout) (l a first : ℕ) (acts : List Action) (whole before : List ℕ) → length acts ≤ a → whole ≡ before ++ made z l (rows_from first (effects_from a (drop a acts))) → before ≡ whole
made_whole z l = gather_all (made z l) (made_parts z l) refl
