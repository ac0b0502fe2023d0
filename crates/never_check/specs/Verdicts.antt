-- What a check comes to.
use Rattle.std.specs.Prelude.{◌≡◌, ℕ, ◌<◌, List, [], Bool, false, length, slice_index_or, Option, MatchBool, MatchOption}
use Rattle.std.specs.List.{AllByRecursion}
use Rattle.gt_core.specs.Literal.{is_in}
use Rattle.gt_core.specs.Task.{Action, Task, action, initial_state}
use Rattle.implied_literals.specs.Rows.{HasNoPair}
use Rattle.never_defs.specs.Sets.{is_true_in}
use Rattle.never_defs.specs.Propagation.{IsRefuted}
use Rattle.never_defs.specs.Cases.{cases_of}
use Rattle.never_defs.specs.Forward.{IsCaseRefuted, PassesForward, GoalPassesForward, IsForwardCertificate}
use Rattle.never_check.specs.Trail.{Reached}
use Rattle.never_check.specs.Follow.{HasAll}
use Rattle.never_check.specs.Rules.{ObeysRules, ObeysWith, AreFollowed}
use Rattle.never_check.specs.declared.rules.Rules.{Rules}
use Rattle.never_check.specs.declared.forward.ForwardVerdict.{ForwardVerdict}
use Rattle.never_check.specs.declared.forward.ForwardVerdict.TheVariants as verdict

-- a trail has all that the rules tell by themselves
pub record IsBase (rules : Rules) (trail : Reached) : Type 0 where
  pub facts : trail.facts ≡ rules.known.now.facts
  pub followed : AreFollowed rules trail.literals trail.literals
  pub apart : HasNoPair (is_in trail.literals)
  pub sound : (set : ℕ → Bool) → ObeysRules rules set → HasAll set trail.literals

-- a trail has what the rules tell of some literals, all of it and nothing else, and no two opposite literals
pub record IsLeast (rules : Rules) (given : List ℕ) (trail : Reached) : Type 0 where
  pub facts : trail.facts ≡ rules.known.now.facts
  pub followed : AreFollowed rules trail.literals trail.literals
  pub apart : HasNoPair (is_in trail.literals)
  pub sound : (set : ℕ → Bool) → ObeysWith rules given set → HasAll set trail.literals
  pub has : HasAll (is_in trail.literals) given

-- some literals are refuted by the rules
abbrev pub AreRefuted : Rules → List ℕ → Type 0
AreRefuted rules given = IsRefuted rules.known.now.clauses rules.clauses.now (is_in given)

-- some literals have a least set, which is without two opposite literals
abbrev pub HasLeast : Rules → List ℕ → Type 0
HasLeast rules given = (trail : Reached) × IsLeast rules given trail

-- a test tells whether something is so
abbrev pub Decides : Type 0 → Bool → Type 0
Decides P b = MatchBool b P (P → ⊥)

-- each case of the clause with a number is refuted
abbrev pub AreCasesRefuted : Rules → Action → ℕ → Type 0
AreCasesRefuted rules x k = AllByRecursion (IsCaseRefuted rules.known.now.clauses rules.clauses.now x) (cases_of x (slice_index_or rules.clauses.now k []))

-- each clause has something, or the number of one is told that has not
abbrev pub AllOrOne : (List ℕ → Type 0) → List (List ℕ) → Option ℕ → Type 0
AllOrOne P clauses o = MatchOption o (AllByRecursion P clauses) (λ k. (k < length clauses) × (P (slice_index_or clauses k []) → ⊥))

-- an action passes at all clauses
abbrev pub ArePassed : Rules → Action → Type 0
ArePassed rules x = AllByRecursion (PassesForward rules.known.now.clauses rules.clauses.now x) rules.clauses.now

-- it does not pass at the clause with a number
abbrev pub DoesNotPass : Rules → Action → ℕ → Type 0
DoesNotPass rules x k = (k < length rules.clauses.now) × (PassesForward rules.known.now.clauses rules.clauses.now x (slice_index_or rules.clauses.now k []) → ⊥)

-- whether an action passes at all clauses, or the number of one at which it does not
abbrev pub TellsPassed : Rules → Action → Option ℕ → Type 0
TellsPassed rules x o = MatchOption o (ArePassed rules x) (DoesNotPass rules x)

-- what a verdict says of a forward set
abbrev pub IsForwardVerdict : Task → List (ℕ × ℕ) → List (List ℕ) → ForwardVerdict → Type 0
IsForwardVerdict task known clauses verdict.Accepted = IsForwardCertificate task known clauses
IsForwardVerdict task known clauses (verdict.Initial k) = (k < length clauses) × (is_true_in (initial_state task) (slice_index_or clauses k []) ≡ false)
IsForwardVerdict task known clauses verdict.Goal = GoalPassesForward task known clauses → ⊥
IsForwardVerdict task known clauses (verdict.Pair k a) = (k < length clauses) × (a < length task.actions) × (PassesForward known clauses (action task a) (slice_index_or clauses k []) → ⊥)
