-- What is made by a form of a task is told of the task.
use Rattle.std.proofs.Common.{◌≡◌, ◌∙◌, ℕ, ◌<◌, ◌≤◌, List, Result, Ok, Err, refl, ap, subst}
use Rattle.std.specs.Prelude.{IfOk}
use Rattle.clause_base.specs.Formula.{Cnf}
use Rattle.gt_core.specs.Task.{Task}
use Rattle.gt_core.specs.Clauses.{KnownClauses}
use Rattle.gt_core.specs.Published.{IsPublished}
use Rattle.two_invariants.specs.Closed.{AreInvariants}
use Rattle.formula_defs.specs.Coded.{formula_of}
use Rattle.step_laws.specs.Form.{OrderedTask, places_of}
use Rattle.step_laws.specs.Never.{never_formula}
use Rattle.step_encoding.specs.Limits.{most_literals}
use Rattle.step_encoding.specs.Numbers.{literals_of}
use Rattle.step_plans.specs.Known.{IsOrdered}
use Rattle.plan_endings.specs.declared.ending.Ending.TheVariants.{TooLarge}
use Rattle.plan_endings.specs.declared.stop.Stop.{Stop}
use Rattle.plan_endings.specs.declared.stop.Stop.TheVariants.{Ends, Memory}
use Rattle.plan_endings.specs.Ends.{EndsBy, StopsBy}
use Rattle.never_form.specs.Formed.{IsNeverFormula, TellsTooLarge, never_size}
use Rattle.never_form.specs.own.One.{TellsTooMany}

-- an ending that tells of too many literals ends the run
pub stops_so : (one : Cnf) (task : Task) (clauses : List (List ℕ)) (stop : Stop) (count : ℕ) → stop ≡ Ends (TooLarge 1 count) → most_literals < count → count ≤ never_size one task clauses → EndsBy (TellsTooMany one task clauses) stop
stops_so one task clauses stop count is over some = rw is (count, refl, over, some)

-- the literals of the formula by the form are those by the task
pub size_of_task : (task : Task) (form : OrderedTask) (size : ℕ) → form.task ≡ task → size ≡ literals_of (formula_of form.task form.known.clauses (places_of form) 1)
    → size ≡ literals_of (formula_of task form.known.clauses (places_of form) 1)
size_of_task task form size same is = is ∙ ap (λ (t : Task). literals_of (formula_of t form.known.clauses (places_of form) 1)) same

pub formula_of_task : (task : Task) (form : OrderedTask) (one : Cnf) → form.task ≡ task → one ≡ formula_of form.task form.known.clauses (places_of form) 1
    → one ≡ formula_of task form.known.clauses (places_of form) 1
formula_of_task task form one same is = is ∙ ap (λ (t : Task). formula_of t form.known.clauses (places_of form) 1) same

-- with its invariants and its published order
module _ (task : Task) (clauses : List (List ℕ)) (known : KnownClauses) (components : List (List ℕ)) (invariants : AreInvariants task known.clauses) (published : IsPublished task known.clauses components)
    (form : OrderedTask) (made : form ≡ record { task = task; known = known; components = components }) where
  ordered : IsOrdered task known.clauses components
  ordered = record { known = invariants; published = published }

  pub formed : (r : Result Cnf Stop) → IfOk r (λ f. f ≡ never_formula task form.known.clauses (places_of form) clauses) → IfOk r (IsNeverFormula task clauses)
  formed (Ok f) is = record {
    known = known.clauses;
    components = components;
    ordered = ordered;
    is = is ∙ ap (λ (o : OrderedTask). never_formula task o.known.clauses (places_of o) clauses) made;
  }
  formed (Err stop) is = tt

  pub stopped : {A : Type 0} (r : Result A Stop) → StopsBy (TellsTooMany (formula_of task form.known.clauses (places_of form) 1) task clauses) r → StopsBy (TellsTooLarge clauses task) r
  stopped (Ok x) h = tt
  stopped (Err (Ends end)) h = (
    h.0,
    h.1,
    record {
      known = known.clauses;
      components = components;
      ordered = ordered;
      over = h.2;
      some = subst (λ (o : OrderedTask). h.0 ≤ never_size (formula_of task o.known.clauses (places_of o) 1) task clauses) made h.3;
    },
  )
  stopped (Err Memory) h = tt
