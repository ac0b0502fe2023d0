use Rattle.std.specs.Prelude.{◌≡◌, ℕ, zero, suc, ◌+◌, ◌*◌, ◌<◌, ◌≤◌, List, [], ◌∷◌, ◌++◌, map, filter, length, reverse, Bool, true, Some}
use Rattle.std.specs.List.{AllByRecursion}
use Rattle.clause_base.specs.Formula.{Cnf, Satisfies, IsModel}
use Rattle.clause_base.specs.Clause.{IsClause, HasVariablesBelow}
use Rattle.clause_base.specs.declared.log.Entry.{Entry}
use Rattle.clause_base.specs.Derivation.{clauses_of, is_kept_after, clause_kept, IsDerivation, EndsEmpty}
use Rattle.cdcl_defs.specs.declared.standing.Standing.TheVariants.{Found, Refuted}
use Rattle.cdcl_defs.specs.declared.trail.Assigned.{Assigned}
use Rattle.cdcl_defs.specs.State.{State, is_kept, is_on, values_of}
use Rattle.cdcl_defs.specs.Trail.{IsTrail}

-- a clause over n variables
pub record IsLawful (n : ℕ) (c : List ℕ) : Type 0 where
  pub clause : IsClause c
  pub below : HasVariablesBelow n c

-- the assignment that a trail stands for: a variable is true where the trail has it, and else false
abbrev pub made_true : List Assigned → ℕ → Bool
made_true trail v = is_on trail (2 * v)

-- of n variables from v on, whether each is true
abbrev pub truths_from : List Assigned → ℕ → ℕ → List Bool
truths_from trail v zero = []
truths_from trail v (suc n) = made_true trail v ∷ truths_from trail (v + 1) n

-- of each of n variables, whether it is true
abbrev pub truths_of : ℕ → List Assigned → List Bool
truths_of n trail = truths_from trail 0 n

-- each variable has a value, and these values are a model of the formula
pub record IsSolution (f : Cnf) (trail : List Assigned) : Type 0 where
  pub valued : values_of f.variables trail ≡ map Some (truths_of f.variables trail)
  pub model : IsModel f (truths_of f.variables trail)

-- how many clauses are kept
abbrev pub kept_count : List Bool → ℕ
kept_count kept = length (filter (λ flag. flag) kept)

-- the clauses are the formula's and then those that the log learns, they are kept where the log keeps them, each entry of the log
-- is derived, and it learns a clause or drops one that was kept
pub record IsLogged (f : Cnf) (clauses : List (List ℕ)) (kept : List Bool) (log : List Entry) : Type 0 where
  pub clauses_are : clauses ≡ f.clauses ++ clauses_of log
  pub flags : length kept ≡ length clauses
  pub kept_are : (n : ℕ) → n < length clauses → is_kept kept n ≡ is_kept_after log n
  pub not_ahead : (n : ℕ) → length clauses ≤ n → is_kept_after log n ≡ true
  pub formula_kept : (n : ℕ) → n < length f.clauses → is_kept kept n ≡ true
  pub derived : IsDerivation f.variables f.clauses log
  pub balanced : length log + kept_count kept ≡ length f.clauses + 2 * length (clauses_of log)

-- what holds of a solver over a formula in every state
pub record IsSound (f : Cnf) (s : State) : Type 0 where
  pub many : s.variables ≡ f.variables
  pub given : s.given ≡ length f.clauses
  pub logged : IsLogged f s.clauses s.kept s.log
  pub lawful : AllByRecursion (IsLawful f.variables) s.clauses
  pub trail : IsTrail (clause_kept f.clauses s.log) (reverse s.trail)
  pub counted : s.conflicts ≡ length (clauses_of s.log)
  pub found : s.standing ≡ Found → Satisfies (made_true s.trail) f.clauses
  pub solved : s.standing ≡ Found → IsSolution f s.trail
  pub refuted : s.standing ≡ Refuted → EndsEmpty s.log
