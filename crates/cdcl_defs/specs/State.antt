use Rattle.std.specs.Prelude.{ℕ, zero, suc, ◌+◌, ◌*◌, ◌==◌, List, [], ◌∷◌, Bool, true, false, Option, Some, None, if◌then◌else◌, slice_get, slice_index_or, unwrap_or}
use Rattle.std.specs.List.{list_any}
use Rattle.clause_base.specs.Choice.{Known}
use Rattle.clause_base.specs.declared.log.Entry.{Entry}
use Rattle.cdcl_defs.specs.declared.standing.Standing.{Standing}
use Rattle.cdcl_defs.specs.declared.trail.Assigned.{Assigned}

-- a solver's state over so many variables: the clauses are those given by the formula and then the learned ones, in order of
-- their numbers, each with whether it is kept; the trail begins with its oldest entry
pub record State : Type 0 where
  pub variables : ℕ
  pub given : ℕ
  pub clauses : List (List ℕ)
  pub kept : List Bool
  pub trail : List Assigned
  pub conflicts : ℕ
  pub log : List Entry
  pub standing : Standing

-- the clause with this number, or the empty one where there is none
abbrev pub clause_at : List (List ℕ) → ℕ → List ℕ
clause_at clauses number = unwrap_or (slice_get clauses number) []

-- the clause with this number is kept
abbrev pub is_kept : List Bool → ℕ → Bool
is_kept kept number = slice_index_or kept number false

-- a literal is true: it stands on the trail
abbrev pub is_on : List Assigned → ℕ → Bool
is_on trail l = list_any (λ a. a.literal == l) trail

-- what a trail says of a variable
abbrev pub value_of : List Assigned → ℕ → Option Bool
value_of trail v = if is_on trail (2 * v) then Some true else if is_on trail (2 * v + 1) then Some false else None

-- what a trail says of n variables from v on
abbrev pub values_from : List Assigned → ℕ → ℕ → Known
values_from trail v zero = []
values_from trail v (suc n) = value_of trail v ∷ values_from trail (v + 1) n

-- what a trail says of each variable
abbrev pub values_of : ℕ → List Assigned → Known
values_of variables trail = values_from trail 0 variables

-- how many decisions stand on a trail, which is its current level
abbrev pub decision_count : List Assigned → ℕ
decision_count [] = 0
decision_count (a ∷ trail) = elim a.reason [ None ↦ 1 + decision_count trail | Some r ↦ decision_count trail ]
