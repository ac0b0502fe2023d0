-- The exit statuses of what stops a run before its task is ready.
use Rattle.std.proofs.Common.{◌≡◌, ◌≤◌, ◌+◌, ℕ, List, [], ◌∷◌, Some, None, refl, ap, subst, arith, inl, inr}
use Rattle.std.specs.Prelude.{◌⊎◌}
use Rattle.pl_io.specs.Outside.{Heard}
use Rattle.pd_task.specs.declared.error.PddlError.{PddlError}
use Rattle.pd_task.specs.declared.error.PddlError.TheVariants as errors
use Rattle.plan_endings.specs.Ending.{status_of}
use Rattle.plan_endings.specs.declared.ending.File.{File}
use Rattle.plan_endings.specs.declared.ending.Ending.{Ending}
use Rattle.plan_tasks.specs.Files.{StopsFrom, RoseAmong}
use Rattle.plan_tasks.specs.Tasks.{StopsTask, refused, past, RefusesTask, domain_tree, problem_tree, no_task, refusal_of}

some_status : (k end : Ending) (n : ℕ) → Some k ≡ Some end → status_of k ≡ n → status_of end ≡ n
some_status k end n e at = let same : k ≡ end = cc in subst (λ (x : Ending). status_of x ≡ n) same at

-- the ending that tells of the cause for which two trees are no task
refusal_three : (cause : PddlError) (end : Ending) → refusal_of cause ≡ Some end → status_of end ≡ 3
refusal_three (errors.Shape file at) end e = some_status _ end 3 e refl
refusal_three (errors.Unknown file at) end e = some_status _ end 3 e refl
refusal_three (errors.Arity file at) end e = some_status _ end 3 e refl
refusal_three (errors.Duplicate file at) end e = some_status _ end 3 e refl
refusal_three (errors.Unsupported file at) end e = some_status _ end 3 e refl
refusal_three errors.Memory end e = absurd (let never : None ≡ Some end = e in cc)

refused_three : (domain problem : List ℕ) (end : Ending) → RefusesTask domain problem end → status_of end ≡ 3
refused_three domain problem end (domain_tree h) = ap status_of h.2
refused_three domain problem end (problem_tree first reads h) = ap status_of h.2
refused_three domain problem end (no_task first second reads also h) = refusal_three h.0 end h.2

-- two files that are no task within the limits
pub task_between : (domain problem : List ℕ) (end : Ending) → StopsTask domain problem end → (3 ≤ status_of end) × (status_of end ≤ 4)
task_between domain problem end (refused r) = let three = refused_three domain problem end r in (omega (arith, three), omega (arith, three))
task_between domain problem end (past task are over) = let four = ap status_of over.2 in (omega (arith, four), omega (arith, four))

-- a file that stops a run: it could not be read, or is too long
pub files_between : (failed fails : List (List ℕ)) (files : ℕ → File) (place : ℕ) (names : List (List ℕ)) (took : List Heard) (end : Ending) → StopsFrom failed fails files place names took end
    → ((status_of end ≡ 5) × RoseAmong names failed fails) ⊎ (status_of end ≡ 4)
files_between failed fails files place [] took end h = absurd h
files_between failed fails files place (name ∷ names) [] end (inl fault) = inl (ap status_of fault.0, inl fault.1)
files_between failed fails files place (name ∷ names) [] end (inr long) = inr (ap status_of long.0)
files_between failed fails files place (name ∷ names) (heard ∷ took) end (inl (inl fault)) = inl (ap status_of fault.0, inl fault.1)
files_between failed fails files place (name ∷ names) (heard ∷ took) end (inl (inr long)) = inr (ap status_of long.0)
files_between failed fails files place (name ∷ names) (heard ∷ took) end (inr more) = elim (files_between failed fails files (place + 1) names took end more.1) [
  | inl h ↦ inl (h.0, inr h.1)
  | inr h ↦ inr h
]
