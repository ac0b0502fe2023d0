use Rattle.std.specs.Prelude.{ℕ, ◌+◌, ◌-◌, ◌==◌, ◌&&◌, max, List, [], ◌∷◌, ◌++◌, map, not, Some, None, if◌then◌else◌, filter, reverse, length, fold}
use Rattle.std.specs.List.{list_any}
use Rattle.clause_base.specs.Literal.{opposite}
use Rattle.containers.specs.Rising.{put}
use Rattle.cdcl_defs.specs.declared.trail.Assigned.{Assigned}
use Rattle.cdcl_defs.specs.State.{clause_at, decision_count}

-- the resolvent of two clauses on a literal of the second, whose opposite the first has
abbrev pub resolvent : List ℕ → ℕ → List ℕ → List ℕ
resolvent clause x forcing =
    fold put (filter (λ l. not (l == opposite x)) clause) (filter (λ l. not (l == x)) forcing)

-- the level of a trail entry: the number of decisions up to and with it
abbrev pub level_from : ℕ → List Assigned → ℕ → ℕ
level_from level [] l = 0
level_from level (a ∷ trail) l =
    let here : ℕ = elim a.reason [ None ↦ level + 1 | Some r ↦ level ] in
    if a.literal == l then here else level_from here trail l

-- the level at which a false literal became false
abbrev pub level_of : List Assigned → ℕ → ℕ
level_of trail l = level_from 0 trail (opposite l)

-- the literals of a clause that became false at the current level
abbrev pub current : List Assigned → List ℕ → List ℕ
current trail clause = filter (λ l. level_of trail l == decision_count trail) clause

-- a clause with the numbers of the clauses that it follows from
pub record Learned : Type 0 where
  pub clause : List ℕ
  pub hints : List ℕ

-- the walk over entries of the trail, the last one first: an entry whose opposite is not in the clause is passed over; the
-- walk stops where that is the clause's only literal of the current level; else the clause is resolved with the entry's reason
abbrev pub walk : List (List ℕ) → List Assigned → List Assigned → Learned → Learned
walk clauses trail [] c = c
walk clauses trail (a ∷ entries) c =
    if not (list_any (λ l. l == opposite a.literal) c.clause) then walk clauses trail entries c
    else if not (decision_count trail == 0) && (length (current trail c.clause) == 1) then c
    else elim a.reason [
      | None ↦ c
      | Some r ↦ walk clauses trail entries (record { clause = resolvent c.clause a.literal (clause_at clauses r); hints = r ∷ c.hints })
    ]

-- what a conflict in clause i teaches
abbrev pub learned : List (List ℕ) → List Assigned → ℕ → Learned
learned clauses trail i =
    let end = walk clauses trail (reverse trail) (record { clause = clause_at clauses i; hints = [] }) in
    record { clause = end.clause; hints = end.hints ++ i ∷ [] }

-- the entries of a trail up to a level, to which it backtracks
abbrev pub backtracked : ℕ → List Assigned → List Assigned
backtracked level [] = []
backtracked level (a ∷ trail) =
    elim a.reason [ Some r ↦ a ∷ backtracked level trail | None ↦ if level == 0 then [] else a ∷ backtracked (level - 1) trail ]

-- the backjump level of a learned clause: the greatest of its literals that is not the current one, or 0
abbrev pub backjump_level : List Assigned → List ℕ → ℕ
backjump_level trail clause =
    fold max 0 (map (level_of trail) (filter (λ l. not (level_of trail l == decision_count trail)) clause))
