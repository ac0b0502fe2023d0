-- The text of a formula, as programs that decide satisfiability read it: the format of the second DIMACS challenge (1993).
use Rattle.std.specs.Prelude.{ℕ, ◌+◌, ◌/◌, ◌%◌, ◌==◌, List, [], ◌∷◌, ◌++◌, length, if◌then◌else◌, codes, decimal}
use Rattle.clause_base.specs.Formula.{Cnf}

-- a literal: the number of its variable, counted from 1, after a minus where the literal is the variable's negation
abbrev pub literal_text : ℕ → List ℕ
literal_text l = if l % 2 == 0 then decimal (l / 2 + 1) else 45 ∷ decimal (l / 2 + 1)

-- the line of a clause: its literals in order, a blank after each, then `0` and LF
abbrev pub clause_line : List ℕ → List ℕ
clause_line [] = codes "0\n"
clause_line (l ∷ lits) = literal_text l ++ 32 ∷ clause_line lits

-- the lines of clauses, in order
abbrev pub clause_lines : List (List ℕ) → List ℕ
clause_lines [] = []
clause_lines (clause ∷ clauses) = clause_line clause ++ clause_lines clauses

-- the first line, a comment: `c horizon N steps WORD`
abbrev pub comment_line : (word : List ℕ) → (horizon : ℕ) → List ℕ
comment_line word horizon = codes "c horizon " ++ (decimal horizon ++ (codes " steps " ++ (word ++ codes "\n")))

-- the second line: `p cnf V C`, of V variables and C clauses
abbrev pub problem_line : (variables clauses : ℕ) → List ℕ
problem_line variables clauses = codes "p cnf " ++ (decimal variables ++ (codes " " ++ (decimal clauses ++ codes "\n")))

-- the text of the formula of a horizon, for the kind of steps that this word names
abbrev pub formula_text : (word : List ℕ) → (horizon : ℕ) → Cnf → List ℕ
formula_text word horizon f = comment_line word horizon ++ (problem_line f.variables (length f.clauses) ++ clause_lines f.clauses)
