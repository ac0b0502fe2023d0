use Rattle.std.proofs.Common.{◌≡◌, ℕ, ◌+◌, ◌/◌, ◌<◌, List, [], ◌∷◌, ◌++◌, map, length, drop, get_or, refl, sym, ap, ◌∙◌, subst}
use Rattle.std.specs.List.{AllByRecursion}
use Rattle.std.proofs.lemmas.List.{drop_more}
use Rattle.gt_core.specs.Task.{Action}
use Rattle.formula_defs.specs.Clause.{Not}
use Rattle.formula_defs.specs.Formula.{literal_over, precondition_clauses}
use Rattle.formula_defs.specs.Coded.{coded}
use Rattle.formula_defs.proofs.published.CodedLaw.{coded-append}

-- Lists that grow by a part, while the rest of the whole gets smaller.

pub joined_twice : {B : Type 0} (xs ys zs : List B) → (xs ++ ys) ++ zs ≡ xs ++ (ys ++ zs)
joined_twice [] ys zs = refl
joined_twice (x ∷ xs) ys zs = ap (λ r. x ∷ r) (joined_twice xs ys zs)

pub rest : {B : Type 0} (whole before after one more : List B) → whole ≡ before ++ (one ++ more) → after ≡ before ++ one → whole ≡ after ++ more
rest whole before after one more h e = h ∙ sym (joined_twice before one more) ∙ ap (λ r. r ++ more) (sym e)

pub within_by : (m n : ℕ) (xs ys : List ℕ) → m ≡ n → xs ≡ ys → AllByRecursion (λ l. l / 2 < n) ys → AllByRecursion (λ l. l / 2 < m) xs
within_by m n xs ys e h a = subst (λ (k : ℕ). AllByRecursion (λ l. l / 2 < k) xs) (sym e) (subst (λ (zs : List ℕ). AllByRecursion (λ l. l / 2 < n) zs) (sym h) a)

-- one action's precondition more
pub precondition_step : (act now : ℕ → ℕ) (acts : List Action) (a : ℕ) (d : Action) (pre : List ℕ) (whole before after : List (List ℕ)) → a < length acts → pre ≡ (get_or acts a d).precondition → whole ≡ before ++ coded (precondition_clauses act now a (drop a acts)) → after ≡ before ++ coded (map (λ l. Not (act a) ∷ literal_over now l ∷ []) pre) → whole ≡ after ++ coded (precondition_clauses act now (a + 1) (drop (a + 1) acts))
precondition_step act now acts a d pre whole before after lt p h e =
    rest whole before after (coded (map (λ l. Not (act a) ∷ literal_over now l ∷ []) (get_or acts a d).precondition)) (coded (precondition_clauses act now (a + 1) (drop (a + 1) acts)))
    (h ∙ ap (λ (xs : List Action). before ++ coded (precondition_clauses act now a xs)) (drop_more acts a d lt)
    ∙ ap (λ (r : List (List ℕ)). before ++ r) (coded-append (map (λ l. Not (act a) ∷ literal_over now l ∷ []) (get_or acts a d).precondition) (precondition_clauses act now (a + 1) (drop (a + 1) acts))))
    (e ∙ ap (λ (ls : List ℕ). before ++ coded (map (λ l. Not (act a) ∷ literal_over now l ∷ []) ls)) p)
