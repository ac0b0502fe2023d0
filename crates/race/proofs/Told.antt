-- What the lines and the plan of an end say of plans, by the laws of a form.
use Rattle.std.proofs.Common.{ℕ, List, [], ◌∷◌}
use Rattle.clause_base.specs.Formula.{IsUnsatisfiable}
use Rattle.cdcl_defs.specs.State.{State}
use Rattle.race_outcome.specs.declared.line.Line.{Line}
use Rattle.race_outcome.specs.declared.line.LineEnd.{LineEnd}
use Rattle.race_outcome.specs.declared.line.LineEnd.TheVariants.{Refuted, Dropped, Going, Found}
use Rattle.race_outcome.specs.declared.end.RaceEnd.{RaceEnd}
use Rattle.race_outcome.specs.declared.end.RaceEnd.TheVariants.{Plan, Exhausted, Unfinished}
use Rattle.race.specs.Input.{RaceInput}
use Rattle.race.specs.Lines.{AreLines, IsMarked, state_of_line, WhereRefuted, EachRefuted}
use Rattle.race.specs.Ends.{WherePlanned}

marked : (input : RaceInput) (P : ℕ → Type 0) → ((h : ℕ) → IsUnsatisfiable (input.formula h).clauses → P h) → (h : ℕ) (state : State) (end : LineEnd)
    → IsMarked input h state end → WhereRefuted end (P h)
marked input P f h state (Refuted stamp) m = f h m.unsatisfiable
marked input P f h state Dropped m = tt
marked input P f h state Going m = tt
marked input P f h state Found m = tt

-- what holds of each horizon whose formula has no model holds of each refuted line's
pub each-refuted : (input : RaceInput) (P : ℕ → Type 0) → ((h : ℕ) → IsUnsatisfiable (input.formula h).clauses → P h) → (ls : List Line)
    → AreLines input ls → EachRefuted P ls
each-refuted input P f [] a = tt
each-refuted input P f (l ∷ ls) a = (marked input P f l.horizon (state_of_line input l) l.end a.0.marked, each-refuted input P f ls a.1)

-- what follows from a fact of the plan holds of it
pub planned : (P Q : ℕ → List (List ℕ) → Type 0) → ((h : ℕ) (steps : List (List ℕ)) → P h steps → Q h steps) → (end : RaceEnd) → WherePlanned end P
    → WherePlanned end Q
planned P Q f (Plan h steps ls) p = f h steps p
planned P Q f (Exhausted h ls) p = tt
planned P Q f (Unfinished ls) p = tt
