-- The verdict that reaches.
use Rattle.std.proofs.Common.{◌≡◌, ℕ, ◌+◌, Bool, true, false, List, [], ◌∷◌, Option, Some, None, refl, if◌then◌else◌}
use Rattle.std.specs.Prelude.{IsTrue}
use Rattle.pd_model.specs.Instance.{all_hold}
use Rattle.pd_model.specs.Exec.{exec}
use Rattle.pd_model.specs.Plan.{verdict_from, exec_all, meets_goal}
use Rattle.pd_model.specs.declared.atoms.Atom.{Atom}
use Rattle.pd_model.specs.declared.calls.Call.{Call}
use Rattle.pd_model.specs.declared.calls.Verdict.TheVariants.{Reaches, Blocked, Short}
use Rattle.pd_model.specs.declared.parts.Parts.{Parts}

-- what is tested holds where the goal is reached by it
on_test : (t : Bool) → (if t then Reaches else Short) ≡ Reaches → t ≡ true
on_test true h = refl
on_test false h = cc

-- calls that come to reach the goal are a plan
pub reaches_is_plan : (p : Parts) (index : ℕ) (s : List Atom) (calls : List Call) → verdict_from p index s calls ≡ Reaches → IsTrue (meets_goal p (exec_all p s calls))
reaches_is_plan p index s [] h = on_test (all_hold s [] p.goal) h
reaches_is_plan p index s (call ∷ calls) h = step (λ t e. reaches_is_plan p (index + 1) t calls e) (exec p s call) h
  where
    step : ((t : List Atom) → verdict_from p (index + 1) t calls ≡ Reaches → IsTrue (meets_goal p (exec_all p t calls))) → (o : Option (List Atom)) → elim o [ None ↦ Blocked index | Some t ↦ verdict_from p (index + 1) t calls ] ≡ Reaches
        → IsTrue (meets_goal p (elim o [ None ↦ None | Some t ↦ exec_all p t calls ]))
    step more None e = absurd (let never : Blocked index ≡ Reaches = e in cc)
    step more (Some t) e = more t e

-- and a plan is what comes to reach it
pub plan_reaches : (p : Parts) (index : ℕ) (s : List Atom) (calls : List Call) → IsTrue (meets_goal p (exec_all p s calls)) → verdict_from p index s calls ≡ Reaches
plan_reaches p index s [] h = rw h refl
plan_reaches p index s (call ∷ calls) h = step (λ t k. plan_reaches p (index + 1) t calls k) (exec p s call) h
  where
    step : ((t : List Atom) → IsTrue (meets_goal p (exec_all p t calls)) → verdict_from p (index + 1) t calls ≡ Reaches) → (o : Option (List Atom))
        → IsTrue (meets_goal p (elim o [ None ↦ None | Some t ↦ exec_all p t calls ])) → elim o [ None ↦ Blocked index | Some t ↦ verdict_from p (index + 1) t calls ] ≡ Reaches
    step more None k = absurd (let never : false ≡ true = k in cc)
    step more (Some t) k = more t k
