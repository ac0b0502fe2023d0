-- Effects (`<effect>` of the grammar of PDDL 2.1: Fox and Long 2003, appendix A).
use Rattle.std.specs.Prelude.{ℕ, Bool, true, false, List, [], ◌∷◌, ◌++◌, Result, Ok, Err}
use Rattle.pd_sexp.specs.Tree.{Tree, word, list, Trees, no_trees, and_tree}
use Rattle.pd_model.specs.declared.conds.Cond.{Cond}
use Rattle.pd_model.specs.declared.effects.Effect.{Effect}
use Rattle.pd_words.specs.declared.fault.Fault.{Fault}
use Rattle.pd_words.specs.declared.fault.Fault.TheVariants.{Shape, Unsupported}
use Rattle.pd_words.specs.declared.keyword.Keyword.{Keyword}
use Rattle.pd_words.specs.declared.keyword.Keyword.TheVariants as heads
use Rattle.pd_words.specs.Words.{head_of}
use Rattle.pd_words.specs.Typed.{Variables, variable_list}
use Rattle.pd_words.specs.First.{◌>>=◌, found}
use Rattle.pd_words.specs.Items.{no_more}
use Rattle.pd_task.specs.Atoms.{Names, one_of, atom, condition}

-- Where an effect stands: the names in scope, the types of the variables of each `forall` round it, and
-- the condition of the `when` round it.
pub record Site : Type 0 where
  pub names : Names
  pub over : List ℕ
  pub cond : List Cond

-- these effects, and the atom that the list at this place is, added or deleted
abbrev pub and_effect : Site → List Effect → Bool → ℕ → Trees → Result (List Effect) Fault
and_effect site before adds at items = do
  a ← atom site.names at items
  Ok (before ++ record { over = site.over; cond = site.cond; atom = a; adds = adds } ∷ [])

-- what stands under the `not` at this place: an atom
abbrev pub removed : Site → List Effect → ℕ → Tree → Result (List Effect) Fault
removed site before at (word place text) = Err (Shape place)
removed site before at (list place no_trees) = Err (Shape at)
removed site before at (list place (and_tree head rest)) = elim (head_of head) [
  | heads.Free ↦ and_effect site before false place (and_tree head rest)
  | heads.Equals ↦ Err (Shape place)
  | _ ↦ Err (Unsupported at)
]

-- `not` has exactly one item
abbrev pub removal : Site → List Effect → ℕ → Trees → Result (List Effect) Fault
removal site before at items = do
  item ← found (Shape at) (one_of items)
  removed site before at item

-- The literals after the condition of a `when`, after the effects that stood before them.
abbrev mutual
  pub literals : Site → List Effect → Tree → Result (List Effect) Fault
  literals site before (word at text) = Err (Shape at)
  literals site before (list at no_trees) = Ok before
  literals site before (list at (and_tree head rest)) = elim (head_of head) [
    | heads.And ↦ all_literals site before rest
    | heads.Not ↦ removal site before at rest
    | heads.Free ↦ and_effect site before true at (and_tree head rest)
    | heads.Equals ↦ Err (Shape at)
    | _ ↦ Err (Unsupported at)
  ]

  -- the effects of several, after these
  pub all_literals : Site → List Effect → Trees → Result (List Effect) Fault
  all_literals site before no_trees = Ok before
  all_literals site before (and_tree t ts) = do
    next ← literals site before t
    all_literals site next ts

-- the literals of a `when`, the list at this place
abbrev pub conditional_body : Site → List Effect → ℕ → Trees → Result (List Effect) Fault
conditional_body site before at no_trees = Err (Shape at)
conditional_body site before at (and_tree what more) = do
  es ← literals site before what
  _ ← no_more more
  Ok es

-- `when`, the list at this place: a condition, then literals
abbrev pub conditional : Site → List Effect → ℕ → Trees → Result (List Effect) Fault
conditional site before at no_trees = Err (Shape at)
conditional site before at (and_tree cond rest) = do
  c ← condition site.names [] cond
  conditional_body (record { names = site.names; over = site.over; cond = c }) before at rest

-- under these variables too
abbrev pub under : Site → Variables → Site
under site new = record {
  names = record site.names { variables = site.names.variables ++ new.names ∷ [] };
  over = site.over ++ new.kinds;
  cond = site.cond;
}

-- the items after the first
abbrev pub rest_of : Trees → Trees
rest_of no_trees = no_trees
rest_of (and_tree head rest) = rest

-- an effect that is neither `and` nor `forall`, the list at this place, by what its head makes of it
abbrev pub simple : Site → List Effect → Keyword → ℕ → Trees → Result (List Effect) Fault
simple site before heads.Not at items = removal site before at (rest_of items)
simple site before heads.Free at items = and_effect site before true at items
simple site before heads.When at items = conditional site before at (rest_of items)
simple site before heads.Equals at items = Err (Shape at)
simple site before _ at items = Err (Unsupported at)

-- The effects of a tree, after those that stood before it, where types have these names. An effect is
-- `()`, `and` round effects, an atom, `not` round an atom, `forall` or `when`.
module _ (types : List (List ℕ)) where
  abbrev mutual
    -- the effects of one effect, after these
    pub effect : Site → List Effect → Tree → Result (List Effect) Fault
    effect site before (word at text) = Err (Shape at)
    effect site before (list at no_trees) = Ok before
    effect site before (list at (and_tree head rest)) = elim (head_of head) [
      | heads.And ↦ all_effects site before rest
      | heads.Forall ↦ quantified site before at rest
      | _ ↦ simple site before (head_of head) at (and_tree head rest)
    ]

    -- the effects of several, after these
    pub all_effects : Site → List Effect → Trees → Result (List Effect) Fault
    all_effects site before no_trees = Ok before
    all_effects site before (and_tree t ts) = do
      next ← effect site before t
      all_effects site next ts

    -- `forall`, the list at this place: a typed list, then an effect
    pub quantified : Site → List Effect → ℕ → Trees → Result (List Effect) Fault
    quantified site before at no_trees = Err (Shape at)
    quantified site before at (and_tree variables rest) = do
      new ← variable_list types variables
      quantified_body (under site new) before at rest

    -- the effect after the typed list of a `forall`
    pub quantified_body : Site → List Effect → ℕ → Trees → Result (List Effect) Fault
    quantified_body site before at no_trees = Err (Shape at)
    quantified_body site before at (and_tree body more) = do
      es ← effect site before body
      _ ← no_more more
      Ok es
