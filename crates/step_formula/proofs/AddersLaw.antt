use Rattle.std.proofs.Common.{arith, ◌≡◌, ◌==◌, ℕ, ◌+◌, ◌-◌, ◌%◌, ◌<◌, ◌≤◌, List, [], ◌∷◌, ◌++◌, length, take, drop, get_or, Bool, true, false, refl, sym, ap, ◌∙◌, subst, if◌then◌else◌, count_by, None, Some}
use Rattle.std.specs.List.{AllByRecursion}
use Rattle.std.proofs.lemmas.Bool.Decides.{nat_tests}
use Rattle.std.proofs.lemmas.List.{append-nil, drop_more, take-append-drop}
use Rattle.gt_core.specs.Literal.{opposite}
use Rattle.gt_core.specs.Task.{Effect, Task, owned, action}
use Rattle.gt_core.specs.Lawful.{is_conditional, are_effects, is_action, is_task}
use Rattle.formula_defs.specs.Layout.{Layout}
use Rattle.gt_core.proofs.published.Basics.{apart, same_test, test_same, all_at}
use Rattle.gt_core.proofs.published.Within.{lawful, among_at}
use Rattle.formula_defs.specs.Variables.{Row, rows_from}
use Rattle.formula_defs.proofs.published.Sorted.{at_least, rest_sorted, sorted_before, effects_of_action}
use Rattle.step_formula.specs.Rows.{row_of, rows_of, number_after, made_by}
use Rattle.step_formula.specs.own.Adders.{IsAdders, AreOverruling}
use Rattle.step_formula.proofs.RowLaw.{rows_parts, made_by_parts, made_none}
use Rattle.std.proofs.lemmas.Bool.{ne_eqb}
use Rattle.gt_core.proofs.published.NextLaw.{owned_append}

-- The adds that are noted of the effects before a delete are those of its fact.

made_two : (z : Layout) (a l j : ℕ) (es ds : List Effect) → made_by z a l (rows_of a j (es ++ ds)) ≡ made_by z a l (rows_of a j es) ++ made_by z a l (rows_of a (j + count_by is_conditional es) ds)
made_two z a l j es ds =
    ap (λ (r : List Row). made_by z a l r) (ap (rows_from j) (owned_append a es ds) ∙ rows_parts a j es (owned a ds))
    ∙ made_by_parts z a l (rows_of a j es) (rows_of a (j + count_by is_conditional es) ds)

-- effects with other literals
abbrev AreOthers : ℕ → List Effect → Type 0
AreOthers l es = AllByRecursion (λ d. d.literal ≡ l → ⊥) es

made_nothing : (z : Layout) (a l j : ℕ) (es : List Effect) → AreOthers l es → made_by z a l (rows_of a j es) ≡ []
made_nothing z a l j [] h = refl
made_nothing z a l j (e ∷ es) h =
    made_by_parts z a l (row_of a j e ∷ []) (rows_of a (number_after j e) es)
    ∙ ap (λ (xs : List ℕ). xs ++ made_by z a l (rows_of a (number_after j e) es)) (made_none z a j l e h.0)
    ∙ made_nothing z a l (number_after j e) es h.1

lower : (m l : ℕ) (xs : List Effect) → m < l → AllByRecursion (λ d. d.literal ≤ m) xs → AreOthers l xs
lower m l [] lt w = tt
lower m l (x ∷ xs) lt w = (λ q. let k = w.0 in omega (arith, k, lt, q), lower m l xs lt w.1)

higher : (m l : ℕ) (xs : List Effect) → l < m → AllByRecursion (λ d. m ≤ d.literal) xs → AreOthers l xs
higher m l [] lt w = tt
higher m l (x ∷ xs) lt w = (λ q. let k = w.0 in omega (arith, k, lt, q), higher m l xs lt w.1)

pub parted : (P : Effect → Type 0) (xs : List Effect) (e : Effect) → AllByRecursion P (xs ++ e ∷ []) → AllByRecursion P xs × P e
parted P [] e w = (tt, w.0)
parted P (x ∷ xs) e w = let r = parted P xs e w.1 in ((w.0, r.0), r.1)

pub no_adders : (z : Layout) (a first lit : ℕ) (vars : List ℕ) → vars ≡ [] → IsAdders z a first [] lit vars
no_adders z a first lit vars e = record { made = λ l even w. by (lit == l) }
  where
    by : (b : Bool) → [] ≡ (if b then vars else [])
    by true = sym e
    by false = refl

-- one more effect
module _ (z : Layout) (a first number lit lit2 : ℕ) (vars vars2 : List ℕ) (before : List Effect) (e : Effect) (floor : lit2 ≡ e.literal - e.literal % 2) (n : number ≡ first + count_by is_conditional before) (sorted : AllByRecursion (λ d. d.literal ≤ e.literal) before) (is : IsAdders z a first before lit vars) where
  abbrev one : List ℕ
  one = made_by z a lit2 (row_of a number e ∷ [])

  abbrev Up : ℕ → Type 0
  Up l = AllByRecursion (λ d. d.literal ≤ l + 1) (before ++ e ∷ [])

  here : (l : ℕ) → lit2 ≡ l → made_by z a l (row_of a number e ∷ []) ≡ one
  here l q = ap (λ (k : ℕ). made_by z a k (row_of a number e ∷ [])) (sym q)

  elsewhere : (l : ℕ) → l % 2 ≡ 0 → (lit2 ≡ l → ⊥) → made_by z a l (row_of a number e ∷ []) ≡ []
  elsewhere l even ne = made_none z a number l e (λ q. ne (omega (arith, floor, q, even)))

  passed : (l : ℕ) → l % 2 ≡ 0 → (lit2 ≡ l → ⊥) → Up l → AreOthers l before
  passed l even ne up =
      let k = (parted (λ d. d.literal ≤ l + 1) before e up).1 in
      lower e.literal l before (omega (arith, k, ne, floor, even)) sorted

  joined : (l : ℕ) → made_by z a l (rows_of a first (before ++ e ∷ [])) ≡ made_by z a l (rows_of a first before) ++ made_by z a l (row_of a number e ∷ [])
  joined l =
      made_two z a l first before (e ∷ [])
      ∙ ap (λ (k : ℕ). made_by z a l (rows_of a first before) ++ made_by z a l (rows_of a k (e ∷ []))) (sym n)

  -- the variables of the effects before with this add are some
  made_after : (l : ℕ) → l % 2 ≡ 0 → Up l → (b : Bool) → (lit2 == l) ≡ b → (own : List ℕ) → (lit2 ≡ l → made_by z a l (rows_of a first before) ≡ own) → vars2 ≡ own ++ one → made_by z a l (rows_of a first (before ++ e ∷ [])) ≡ (if b then vars2 else [])
  made_after l even up true t own on v =
      let q = test_same lit2 l t in
      joined l ∙ ap (λ (xs : List ℕ). xs ++ made_by z a l (row_of a number e ∷ [])) (on q) ∙ ap (λ (xs : List ℕ). own ++ xs) (here l q) ∙ sym v
  made_after l even up false t own on v =
      let ne : lit2 ≡ l → ⊥ = λ q. apart (lit2 == l) (same_test lit2 l q) t in
      joined l ∙ ap (λ (xs : List ℕ). xs ++ made_by z a l (row_of a number e ∷ [])) (made_nothing z a l first before (passed l even ne up)) ∙ elsewhere l even ne

  -- another effect of the fact
  noted_again : lit ≡ lit2 → vars2 ≡ vars ++ one → IsAdders z a first (before ++ e ∷ []) lit2 vars2
  noted_again s v = record {
    made = λ l even up. made_after l even up (lit2 == l) refl vars (λ q.
        is.made l even (parted (λ d. d.literal ≤ l + 1) before e up).0 ∙ ap (λ (b : Bool). if b then vars else []) (same_test lit l (s ∙ q))) v;
  }

  -- the first one of a fact
  noted_first : (lit ≡ lit2 → ⊥) → vars2 ≡ one → IsAdders z a first (before ++ e ∷ []) lit2 vars2
  noted_first s v = record {
    made = λ l even up. made_after l even up (lit2 == l) refl [] (λ q.
        is.made l even (parted (λ d. d.literal ≤ l + 1) before e up).0 ∙ ap (λ (b : Bool). if b then vars else []) (ne_eqb lit l (λ r. s (r ∙ sym q)))) v;
  }

  -- noted after going on to the effect's fact
  pub noted : (middle : List ℕ) → (lit ≡ lit2 → middle ≡ vars) → ((lit ≡ lit2 → ⊥) → middle ≡ []) → vars2 ≡ middle ++ one → IsAdders z a first (before ++ e ∷ []) lit2 vars2
  noted middle again fresh v = by (lit == lit2) refl
    where
      by : (b : Bool) → (lit == lit2) ≡ b → IsAdders z a first (before ++ e ∷ []) lit2 vars2
      by true t = let q = test_same lit lit2 t in noted_again q (v ∙ ap (λ (xs : List ℕ). xs ++ one) (again q))
      by false t = let ne : lit ≡ lit2 → ⊥ = λ q. apart (lit == lit2) (same_test lit lit2 q) t in noted_first ne (v ∙ ap (λ (xs : List ℕ). xs ++ one) (fresh ne))

odd_opposite : (l : ℕ) → (l % 2 == 0) ≡ false → (opposite l ≡ l - 1) × (l % 2 ≡ 1)
odd_opposite l t = (ap (λ (b : Bool). if b then l + 1 else l - 1) t, let m : l % 2 ≡ 1 = grind (arith, nat_tests) in m)

-- at a place of an action's effects
module _ (z : Layout) (a first facts : ℕ) (es : List Effect) (i : ℕ) (d e : Effect) (s : are_effects facts None es ≡ true) (lt : i < length es) (at : e ≡ get_or es i d) where
  sorted_after : AllByRecursion (λ x. e.literal ≤ x.literal) (drop (i + 1) es)
  sorted_after = at_least facts e (drop (i + 1) es) (subst (λ (y : Effect). are_effects facts (Some y) (drop (i + 1) es) ≡ true) (sym at) (rest_sorted facts None es i d s lt))

  whole : es ≡ take i es ++ e ∷ drop (i + 1) es
  whole = sym (take-append-drop i es) ∙ ap (λ (xs : List Effect). take i es ++ xs) (drop_more es i d lt ∙ ap (λ (y : Effect). y ∷ drop (i + 1) es) (sym at))

  -- the adds beside a delete are those that are noted
  pub overruling : (lit : ℕ) (vars : List ℕ) → IsAdders z a first (take i es) lit vars → AreOverruling z a (rows_of a first es) lit vars e
  overruling lit vars is t =
      let o = odd_opposite e.literal t in
      let l = e.literal - 1 in
      let odd = o.1 in
      let even : (e.literal - 1) % 2 ≡ 0 = omega (arith, odd) in
      let up : e.literal - 1 + 1 ≡ e.literal = omega (arith, odd) in
      let below : e.literal - 1 < e.literal = omega (arith, odd) in
      let before = subst (λ (k : ℕ). AllByRecursion (λ x. x.literal ≤ k) (take i es)) (sym up) (sorted_before facts es i d e s lt at) in
      let others : AreOthers (e.literal - 1) (e ∷ drop (i + 1) es) = (λ q. omega (arith, q, below), higher e.literal (e.literal - 1) (drop (i + 1) es) below sorted_after) in
      ap (λ (k : ℕ). made_by z a k (rows_of a first es)) o.0
      ∙ ap (λ (xs : List Effect). made_by z a (e.literal - 1) (rows_of a first xs)) whole
      ∙ made_two z a (e.literal - 1) first (take i es) (e ∷ drop (i + 1) es)
      ∙ ap (λ (xs : List ℕ). made_by z a (e.literal - 1) (rows_of a first (take i es)) ++ xs) (made_nothing z a (e.literal - 1) (first + count_by is_conditional (take i es)) (e ∷ drop (i + 1) es) others)
      ∙ append-nil (made_by z a (e.literal - 1) (rows_of a first (take i es)))
      ∙ is.made (e.literal - 1) even before
      ∙ ap (λ (k : ℕ). if lit == k then vars else []) (sym o.0)

-- the effects of a lawful action are sorted
pub sorted_by : (m : ℕ) (task : Task) (a : ℕ) (xs : List Effect) → m ≡ task.facts → is_task task ≡ true → a < length task.actions → xs ≡ (action task a).effects → are_effects m None xs ≡ true
sorted_by m task a xs e t lt h =
    let l = all_at (is_action task.facts) task.actions (action task a) (lawful task t).each (among_at task.actions a (record { precondition = []; effects = [] }) lt) in
    ap (λ (k : ℕ). are_effects k None xs) e ∙ ap (are_effects task.facts None) h ∙ effects_of_action task.facts (action task a) l
