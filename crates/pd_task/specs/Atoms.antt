-- Terms, atoms and conditions (`<GD>` of the grammar of PDDL 2.1: Fox and Long 2003, appendix A).
use Rattle.std.specs.Prelude.{ℕ, suc, ◌==◌, Bool, true, false, List, [], ◌∷◌, ◌++◌, Option, Some, None, option_map, Result, Ok, Err, if◌then◌else◌, slice_index}
use Rattle.pd_sexp.specs.Tree.{Tree, word, list, Trees, no_trees, and_tree}
use Rattle.pd_model.specs.declared.atoms.Term.{Term}
use Rattle.pd_model.specs.declared.atoms.Term.TheVariants.{Object, Variable}
use Rattle.pd_model.specs.declared.atoms.Pattern.{Pattern}
use Rattle.pd_model.specs.declared.conds.Cond.{Cond}
use Rattle.pd_model.specs.declared.conds.Cond.TheVariants.{Has, Same}
use Rattle.pd_words.specs.declared.fault.Fault.{Fault}
use Rattle.pd_words.specs.declared.fault.Fault.TheVariants.{Shape, Unknown, Arity, Unsupported}
use Rattle.pd_words.specs.declared.keyword.Keyword.TheVariants as heads
use Rattle.pd_words.specs.Words.{is_name, is_variable, head_of}
use Rattle.pd_words.specs.Names.{number_of, variable_number}
use Rattle.pd_words.specs.First.{◌>>=◌, found, wants, every}

-- What names may stand for: the predicates with their arities, the objects, and the variables in scope,
-- list by list, the outermost first.
pub record Names : Type 0 where
  pub predicates : List (List ℕ)
  pub arities : List ℕ
  pub objects : List (List ℕ)
  pub variables : List (List (List ℕ))

-- how many items there are
abbrev pub count : Trees → ℕ
count no_trees = 0
count (and_tree t ts) = suc (count ts)

-- a term is a variable in scope or a declared object
abbrev pub term : Names → Tree → Result Term Fault
term names (list at items) = Err (Shape at)
term names (word at text) =
    if is_variable text then found (Unknown at) (option_map Variable (variable_number text 0 names.variables))
    else found (Unknown at) (option_map Object (number_of text names.objects))

-- the number of the predicate, of those with these names, that a list begins with
abbrev pub predicate : List (List ℕ) → Tree → Result ℕ Fault
predicate predicates (list at items) = Err (Shape at)
predicate predicates (word at text) = do
  _ ← wants (is_name text) (Shape at)
  found (Unknown at) (number_of text predicates)

-- an atom, the list at this place: its predicate, the number of its terms, then the terms
abbrev pub atom : Names → ℕ → Trees → Result Pattern Fault
atom names at no_trees = Err (Shape at)
atom names at (and_tree head rest) = do
  p ← predicate names.predicates head
  _ ← wants (count rest == slice_index names.arities p) (Arity at)
  terms ← every (term names) rest
  Ok (record { predicate = p; terms = terms })

-- the one item
abbrev pub one_of : Trees → Option Tree
one_of (and_tree t no_trees) = Some t
one_of _ = None

-- the two items
abbrev pub two_of : Trees → Option (Tree × Tree)
two_of (and_tree s (and_tree t no_trees)) = Some (s, t)
two_of _ = None

-- an atom that is wanted, or is not
abbrev pub literal : Names → Bool → ℕ → Trees → Result Cond Fault
literal names want at items = do
  a ← atom names at items
  Ok (Has a want)

-- exactly two terms after `=`
abbrev pub equality : Names → Bool → ℕ → Trees → Result Cond Fault
equality names want at items = do
  terms ← found (Shape at) (two_of items)
  left ← term names terms.0
  right ← term names terms.1
  Ok (Same left right want)

-- what stands under the `not` at this place: an atom or `=`
abbrev pub denied : Names → ℕ → Tree → Result Cond Fault
denied names at (word place text) = Err (Shape place)
denied names at (list place no_trees) = Err (Shape at)
denied names at (list place (and_tree head rest)) = elim (head_of head) [
  | heads.Free ↦ literal names false place (and_tree head rest)
  | heads.Equals ↦ equality names false place rest
  | _ ↦ Err (Unsupported at)
]

-- `not` has exactly one item
abbrev pub negation : Names → ℕ → Trees → Result Cond Fault
negation names at items = do
  item ← found (Shape at) (one_of items)
  denied names at item

-- these literals, and one more
abbrev pub and_one : List Cond → Result Cond Fault → Result (List Cond) Fault
and_one before read = read >>= λ c. Ok (before ++ c ∷ [])

-- The literals of a condition, after those that stood before it. A condition is `()`, `and` round
-- conditions, an atom, `=`, or `not` round an atom or `=`.
abbrev mutual
  pub condition : Names → List Cond → Tree → Result (List Cond) Fault
  condition names before (word at text) = Err (Shape at)
  condition names before (list at no_trees) = Ok before
  condition names before (list at (and_tree head rest)) = elim (head_of head) [
    | heads.And ↦ conditions names before rest
    | heads.Not ↦ and_one before (negation names at rest)
    | heads.Equals ↦ and_one before (equality names true at rest)
    | heads.Free ↦ and_one before (literal names true at (and_tree head rest))
    | heads.Assignment ↦ and_one before (literal names true at (and_tree head rest))
    | _ ↦ Err (Unsupported at)
  ]

  -- the literals of several conditions, after these
  pub conditions : Names → List Cond → Trees → Result (List Cond) Fault
  conditions names before no_trees = Ok before
  conditions names before (and_tree t ts) = do
    next ← condition names before t
    conditions names next ts
