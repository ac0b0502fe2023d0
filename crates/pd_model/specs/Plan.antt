-- Plans, and what a list of calls comes to.
use Rattle.std.specs.Prelude.{ℕ, ◌+◌, Bool, false, IsTrue, List, [], ◌∷◌, Option, Some, None, if◌then◌else◌}
use Rattle.pd_model.specs.Instance.{all_hold}
use Rattle.pd_model.specs.Exec.{exec}
use Rattle.pd_model.specs.declared.atoms.Atom.{Atom}
use Rattle.pd_model.specs.declared.calls.Call.{Call}
use Rattle.pd_model.specs.declared.calls.Verdict.{Verdict}
use Rattle.pd_model.specs.declared.calls.Verdict.TheVariants.{Reaches, Blocked, Short}
use Rattle.pd_model.specs.declared.parts.Parts.{Parts}

-- what the calls come to from a state on, where the first of them has this index
abbrev pub verdict_from : Parts → ℕ → List Atom → List Call → Verdict
verdict_from p index s [] = if all_hold s [] p.goal then Reaches else Short
verdict_from p index s (call ∷ calls) = elim (exec p s call) [
  | None ↦ Blocked index
  | Some t ↦ verdict_from p (index + 1) t calls
]

-- blocked at the first call that cannot run, else by whether the goal holds in the last state
abbrev pub verdict : Parts → List Call → Verdict
verdict p calls = verdict_from p 0 p.init calls

-- the state after the calls, where each can run in turn
abbrev pub exec_all : Parts → List Atom → List Call → Option (List Atom)
exec_all p s [] = Some s
exec_all p s (call ∷ calls) = elim (exec p s call) [
  | None ↦ None
  | Some t ↦ exec_all p t calls
]

-- whether there is such a state, and the goal holds in it
abbrev pub meets_goal : Parts → Option (List Atom) → Bool
meets_goal p None = false
meets_goal p (Some s) = all_hold s [] p.goal

-- each call runs in turn from the initial state on, and the goal holds in the last state
abbrev pub IsPlan : Parts → List Call → Type 0
IsPlan p calls = IsTrue (meets_goal p (exec_all p p.init calls))
