use Rattle.std.specs.Prelude.{ℕ, List, [], ◌∷◌, ◌++◌, Bool, true, false, fold, replicate, slice_set}
use Rattle.clause_base.specs.Formula.{Cnf}
use Rattle.clause_base.specs.Derivation.{clauses_of}
use Rattle.clause_base.specs.declared.log.Entry.{Entry}
use Rattle.clause_base.specs.declared.log.Entry.TheVariants.{Learn, Drop}

-- a solver's clauses, as their clients see them: those of the formula, those that the log learns, and which are kept
pub record ClausesView : Type 0 where
  pub formula : Cnf
  pub log : List Entry
  pub kept : List Bool

-- all clauses in order of their numbers, dropped ones too
abbrev pub all_clauses : ClausesView → List (List ℕ)
all_clauses c = c.formula.clauses ++ clauses_of c.log

-- which clauses are kept after one entry more: the clause that it learns is, and the one that it drops is not
abbrev pub kept_after : List Bool → Entry → List Bool
kept_after kept (Learn clause hints) = kept ++ true ∷ []
kept_after kept (Drop number) = slice_set kept number false

-- which clauses are kept after a log, of so many that a formula gives, and those that the log learns
abbrev pub kept_of : ℕ → List Entry → List Bool
kept_of given log = fold kept_after (replicate given true) log
