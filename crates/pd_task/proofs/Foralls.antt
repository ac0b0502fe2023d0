-- Effects under `forall`, part by part.
use Rattle.std.proofs.Common.{◌≡◌, ℕ, ◌-◌, List, [], ◌∷◌, ◌++◌, length, take, Result, Ok, Err, refl, sym, ap, ◌∙◌, arith, length-append}
use Rattle.std.specs.Prelude.{OnOk, IsErrAnd}
use Rattle.std.proofs.lemmas.List.{take-append-le}
use Rattle.pd_sexp.specs.Tree as defs
use Rattle.pd_model.specs.declared.conds.Cond.{Cond}
use Rattle.pd_model.specs.declared.effects.Effect.{Effect}
use Rattle.pd_words.specs.declared.fault.Fault.{Fault}
use Rattle.pd_words.specs.declared.fault.Fault.TheVariants as faults
use Rattle.pd_words.specs.declared.fault.ReadError.{ReadError}
use Rattle.pd_words.specs.declared.fault.ReadError.TheVariants as errors
use Rattle.pd_words.specs.declared.keyword.Keyword.TheVariants as heads
use Rattle.pd_words.specs.Words.{head_of}
use Rattle.pd_words.specs.Typed.{Variables, variable_list}
use Rattle.pd_words.specs.First.{◌>>=◌, Fails, Gives, Leaves}
use Rattle.pd_words.specs.Items.{no_more}
use Rattle.pd_words.specs.Standing.{Standing}
use Rattle.pd_task.specs.own.Scope.{site_of, opened}
use Rattle.pd_task.specs.Effects.{Site, effect, quantified, quantified_body}
use Rattle.pd_task.specs.declared.vocabulary.Vocabulary.{Vocabulary}
use Rattle.pd_task.proofs.Ands.{handed_on}

forall_at : (types : List (List ℕ)) (site : Site) (before : List Effect) (at : ℕ) (head : defs.Tree) (rest : defs.Trees) → head_of head ≡ heads.Forall
    → effect types site before (defs.list at (defs.and_tree head rest)) ≡ quantified types site before at rest
forall_at types site before at head rest is = grind (arith, is)

pub forall_is : (types : List (List ℕ)) (site : Site) (before : List Effect) (at : ℕ) (head : defs.Tree) (rest : defs.Trees) (tree : defs.Tree)
    → tree ≡ defs.list at (defs.and_tree head rest) → head_of head ≡ heads.Forall → effect types site before tree ≡ quantified types site before at rest
forall_is types site before at head rest tree is is-forall = rw is (forall_at types site before at head rest is-forall)

-- ---- the variables come into scope

module _ (types : List (List ℕ)) (vocabulary : Vocabulary) (scope : Standing) (cond : List Cond) (before : List Effect) (at : ℕ) where
  opens : (items : defs.Trees) → quantified types (site_of vocabulary scope cond) before at items ≡ (opened types scope at items >>= λ o. quantified_body types (site_of vocabulary o.0 cond) before at (defs.and_tree o.1 o.2))
  opens defs.no_trees = refl
  opens (defs.and_tree vars defs.no_trees) = by_list (variable_list types vars) refl
    where
      by_list : (r : Result Variables Fault) → variable_list types vars ≡ r → quantified types (site_of vocabulary scope cond) before at (defs.and_tree vars defs.no_trees) ≡ (opened types scope at (defs.and_tree vars defs.no_trees) >>= λ o. quantified_body types (site_of vocabulary o.0 cond) before at (defs.and_tree o.1 o.2))
      by_list (Ok new) here = rw here refl
      by_list (Err e) here = rw here refl
  opens (defs.and_tree vars (defs.and_tree body more)) = by_list (variable_list types vars) refl
    where
      by_list : (r : Result Variables Fault) → variable_list types vars ≡ r → quantified types (site_of vocabulary scope cond) before at (defs.and_tree vars (defs.and_tree body more)) ≡ (opened types scope at (defs.and_tree vars (defs.and_tree body more)) >>= λ o. quantified_body types (site_of vocabulary o.0 cond) before at (defs.and_tree o.1 o.2))
      by_list (Ok new) here = rw here refl
      by_list (Err e) here = rw here refl

  pub enters : (items : defs.Trees) (next : Standing) (body : defs.Tree) (more : defs.Trees) → opened types scope at items ≡ Ok (next, body, more)
      → quantified types (site_of vocabulary scope cond) before at items ≡ quantified_body types (site_of vocabulary next cond) before at (defs.and_tree body more)
  enters items next body more is = opens items ∙ rw is refl

-- ---- the effect is read

pub body_fails : (types : List (List ℕ)) (site : Site) (before : List Effect) (at : ℕ) (body : defs.Tree) (more : defs.Trees) (e : ReadError)
    → Fails e (effect types site before body) → Fails e (quantified_body types site before at (defs.and_tree body more))
body_fails types site before at body more errors.Memory h = tt
body_fails types site before at body more (errors.Fault f) h = rw h refl

pub body_ends : (types : List (List ℕ)) (site : Site) (before es : List Effect) (at : ℕ) (body : defs.Tree) (more : defs.Trees) (r : Result (Unit {0}) ReadError)
    → effect types site before body ≡ Ok es → Gives (no_more more) r → Leaves (quantified_body types site before at (defs.and_tree body more)) es r
body_ends types site before es at body more (Ok u) is h = rw (is, h) refl
body_ends types site before es at body more (Err errors.Memory) is h = tt
body_ends types site before es at body more (Err (errors.Fault f)) is h = rw (is, h) refl

module _ (types : List (List ℕ)) (vocabulary : Vocabulary) (scope next : Standing) (cond : List Cond) (before : List Effect) (at : ℕ) (head : defs.Tree) (items : defs.Trees) (tree body : defs.Tree) (more : defs.Trees)
    (is : tree ≡ defs.list at (defs.and_tree head items)) (is-forall : head_of head ≡ heads.Forall) (opens : opened types scope at items ≡ Ok (next, body, more)) where
  body_is : effect types (site_of vocabulary scope cond) before tree ≡ quantified_body types (site_of vocabulary next cond) before at (defs.and_tree body more)
  body_is = forall_is types (site_of vocabulary scope cond) before at head items tree is is-forall ∙ enters types vocabulary scope cond before at items next body more opens

  pub forall_fails : (new : List Effect) (e : ReadError) (r : Result (Unit {0}) ReadError) → Fails e (effect types (site_of vocabulary next cond) before body) → IsErrAnd r (λ y. y ≡ e)
      → Leaves (effect types (site_of vocabulary scope cond) before tree) new r
  forall_fails new e r fails err = handed_on _ (λ _. new) e r (rw body_is (body_fails types (site_of vocabulary next cond) before at body more e fails)) err

  pub forall_ends : (es : List Effect) (r : Result (Unit {0}) ReadError) → effect types (site_of vocabulary next cond) before body ≡ Ok es → Gives (no_more more) r
      → Leaves (effect types (site_of vocabulary scope cond) before tree) es r
  forall_ends es r read ends = rw body_is (body_ends types (site_of vocabulary next cond) before es at body more r read ends)

-- ---- the variables go out of scope

same_standing : (a b : Standing) → a.levels ≡ b.levels → a.over ≡ b.over → a ≡ b
same_standing a b p q =
    let first : a ≡ record { levels = b.levels; over = a.over } = ap (λ (l : List (List (List ℕ))). record { levels = l; over = a.over }) p in
    first ∙ ap (λ (o : List ℕ). record { levels = b.levels; over = o }) q

all_of_first : {A : Type 0} (xs : List A) → take (length xs) xs ≡ xs
all_of_first [] = refl
all_of_first (x ∷ xs) = ap (λ (ys : List _). x ∷ ys) (all_of_first xs)

first_part : {A : Type 0} (xs ys : List A) (n : ℕ) → n ≡ length xs → take n (xs ++ ys) ≡ xs
first_part xs ys n is = rw is (take-append-le (length xs) xs ys (omega arith) ∙ all_of_first xs)

abbrev parts_of : Standing × defs.Tree × defs.Trees → Result (Standing × defs.Tree × defs.Trees) Fault → Standing × defs.Tree × defs.Trees
parts_of none (Ok parts) = parts
parts_of none (Err e) = none

-- what stands in a `forall` whose variables came into scope
pub record IsOpened (types : List (List ℕ)) (scope next : Standing) (items : defs.Trees) (body : defs.Tree) (more : defs.Trees) : Type 0 where
  pub variables : defs.Tree
  pub new : Variables
  pub standing : next ≡ record { levels = scope.levels ++ new.names ∷ []; over = scope.over ++ new.kinds }
  pub parts : items ≡ defs.and_tree variables (defs.and_tree body more)

pub is_opened : (types : List (List ℕ)) (scope next : Standing) (at : ℕ) (items : defs.Trees) (body : defs.Tree) (more : defs.Trees) → opened types scope at items ≡ Ok (next, body, more)
    → IsOpened types scope next items body more
is_opened types scope next at defs.no_trees body more is = absurd cc
is_opened types scope next at (defs.and_tree vars rest) body more is = by_list (variable_list types vars) refl rest is
  where
    by_list : (r : Result Variables Fault) → variable_list types vars ≡ r → (ts : defs.Trees) → opened types scope at (defs.and_tree vars ts) ≡ Ok (next, body, more) → IsOpened types scope next (defs.and_tree vars ts) body more
    by_list (Err e) here defs.no_trees is = let both : opened types scope at (defs.and_tree vars defs.no_trees) ≡ Err e = rw here refl in absurd cc
    by_list (Err e) here (defs.and_tree t ts) is = let both : opened types scope at (defs.and_tree vars (defs.and_tree t ts)) ≡ Err e = rw here refl in absurd cc
    by_list (Ok new) here defs.no_trees is = let both : opened types scope at (defs.and_tree vars defs.no_trees) ≡ Err (faults.Shape at) = rw here refl in absurd cc
    by_list (Ok new) here (defs.and_tree t ts) is =
        let both : opened types scope at (defs.and_tree vars (defs.and_tree t ts)) ≡ Ok (record { levels = scope.levels ++ new.names ∷ []; over = scope.over ++ new.kinds }, t, ts) = rw here refl in
        let same = ap (parts_of (next, body, more)) (sym is ∙ both) in
        record {
          variables = vars;
          new = new;
          standing = ap (λ (p : Standing × defs.Tree × defs.Trees). p.0) same;
          parts = ap (λ (p : Standing × defs.Tree × defs.Trees). defs.and_tree vars (defs.and_tree p.1 p.2)) (sym same);
        }

pub leaves : (types : List (List ℕ)) (scope next after : Standing) (at : ℕ) (items : defs.Trees) (body : defs.Tree) (more : defs.Trees) → opened types scope at items ≡ Ok (next, body, more)
    → after.levels ≡ take (length next.levels - 1) next.levels → after.over ≡ take (length scope.over) next.over → after ≡ scope
leaves types scope next after at items body more is levels over =
    let o = is_opened types scope next at items body more is in
    let next_levels : next.levels ≡ scope.levels ++ o.new.names ∷ [] = ap (λ (s : Standing). s.levels) o.standing in
    let next_over : next.over ≡ scope.over ++ o.new.kinds = ap (λ (s : Standing). s.over) o.standing in
    same_standing after scope
    (levels ∙ rw next_levels (first_part scope.levels (o.new.names ∷ []) (length (scope.levels ++ o.new.names ∷ []) - 1) (omega (arith, length-append scope.levels (o.new.names ∷ [])))))
    (over ∙ rw next_over (first_part scope.over o.new.kinds (length scope.over) refl))

pub on_ok : (r : Result (Unit {0}) ReadError) (P : Type 0) → P → OnOk r P
on_ok (Ok u) P h = h
on_ok (Err e) P h = tt

-- ---- other effects
