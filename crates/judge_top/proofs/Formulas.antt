-- What is known of a form of a ground task is known of the task.
use Rattle.std.proofs.Common.{◌≡◌, ◌<◌, ◌∙◌, ℕ, Bool, List, length, Result, Ok, Err, ap, subst}
use Rattle.std.specs.Prelude.{IfOk}
use Rattle.std.specs.List.{AllByRecursion}
use Rattle.std.proofs.lemmas.List.{length-map}
use Rattle.clause_base.specs.Formula.{Cnf, IsUnsatisfiable, assignment_of}
use Rattle.gt_core.specs.Task.{Task}
use Rattle.gt_core.specs.Clauses.{KnownClauses}
use Rattle.gt_core.specs.Published.{IsPublished, order_of}
use Rattle.step_laws.specs.Form.{OrderedTask, AreSets, steps_at}
use Rattle.step_encoding.specs.Limits.{most_literals}
use Rattle.step_encoding.specs.Numbers.{literals_of}
use Rattle.two_invariants.specs.Closed.{AreInvariants}
use Rattle.sat_text.specs.Dimacs.{formula_text}
use Rattle.pl_io.specs.Tape.{Given}
use Rattle.lrat_judge.specs.declared.verdict.Verdict.{Verdict}
use Rattle.step_plans.specs.Known.{form_of, formula_at}
use Rattle.requests.specs.declared.request.Stepping.{Stepping}
use Rattle.plan_tasks.specs.Stepping.{places_by, is_plan_by}
use Rattle.plan_endings.specs.declared.ending.Ending.TheVariants.{Listing}
use Rattle.plan_endings.specs.declared.stop.Stop.{Stop}
use Rattle.plan_endings.specs.declared.stop.Stop.TheVariants.{Ends, Memory}
use Rattle.plan_endings.specs.Ends.{StopsBy}
use Rattle.judge_top.specs.declared.ended.Ended.TheVariants.{Plain}
use Rattle.proof_verdict.specs.Verdict.{TapeRun, IsVerdictOn}
use Rattle.judge_top.specs.Answers.{OfKnown, IsFormula, IsTooMany, TellsTooMany, IsToldOf, IsTold, IsBelow, HasNone, word_of, IsVerdict}
use Rattle.judge_top.specs.declared.model.Told.{Told}
use Rattle.judge_top.specs.declared.model.Told.TheVariants as told
use Rattle.grounding_defs.specs.Grounded.{Grounded, IsGrounded}
use Rattle.pd_model.specs.declared.parts.Parts.{Parts}

-- a task with clauses that are known of some facts, and components
abbrev pub made_of : Task → KnownClauses → List (List ℕ) → OrderedTask
made_of task known components = record { task = task; known = known; components = components }

-- A task, its invariants, its published order, and a form of them, whose chains go there.
module _ (places : Task → List (List ℕ) → List (List ℕ × ℕ)) (is_plan : Task → List ℕ → (ℕ → ℕ → Bool) → ℕ → Type 0) (task : Task) (known : KnownClauses) (components : List (List ℕ)) (facts : known.facts ≡ task.facts)
    (invariants : AreInvariants task known.clauses) (published : IsPublished task known.clauses components) (form : OrderedTask) (made : form ≡ made_of task known components) (horizon : ℕ) where
  same : form ≡ form_of task known.clauses components
  same = made ∙ ap (λ (n : ℕ). made_of task (record { facts = n; clauses = known.clauses }) components) facts

  pub of_known : (claim : OrderedTask → Type 0) → claim form → OfKnown task claim
  of_known claim h = record { clauses = known.clauses; components = components; ordered = record { known = invariants; published = published }; holds = subst claim same h }

  pub formulas : (r : Result Cnf Stop) → IfOk r (λ f. f ≡ formula_at places form horizon)
      → IfOk r (λ f. IsUnsatisfiable f.clauses → (steps : List (List ℕ)) → AreSets is_plan form.task (order_of form.components) steps horizon → ⊥)
      → IfOk r (λ f. OfKnown task (IsFormula places is_plan horizon f))
  formulas (Ok f) is none = of_known (IsFormula places is_plan horizon f) (is, none)
  formulas (Err e) is none = tt

  pub too_many : {A : Type 0} (r : Result A Stop) → StopsBy (IsTooMany (formula_at places form horizon) horizon) r
      → StopsBy (TellsTooMany places horizon task) r
  too_many (Ok x) h = tt
  too_many (Err (Ends end)) h = (h.0, h.1, of_known (λ form. (most_literals < h.0) × (h.0 ≡ literals_of (formula_at places form horizon))) (h.2, h.3))
  too_many (Err Memory) h = tt

  pub told_known : (tape : TapeRun) (r : Result Told Stop) → IfOk r (IsToldOf (formula_at places form horizon) (λ values. steps_at form (places form.task form.components) horizon (assignment_of values)) tape)
      → IfOk r (λ said. OfKnown task (IsTold places horizon tape said))
  told_known tape (Ok said) is = of_known (IsTold places horizon tape said) is
  told_known tape (Err e) is = tt

-- the actions of a ground task have calls
pub calls_below : (task : Parts) (g : Grounded) → IsGrounded task g → (said : Told) → IsBelow (length g.task.actions) said → IsBelow (length g.calls) said
calls_below task g is told.Unread below = tt
calls_below task g is (told.Refused refusal) below = tt
calls_below task g is (told.NoModel clause) below = tt
calls_below task g is (told.Plan steps) below =
    let long : length g.task.actions ≡ length g.calls = ap (λ (t : Task). length t.actions) is.task ∙ length-map g.calls _ in
    subst (λ (n : ℕ). AllByRecursion (λ (set : List ℕ). AllByRecursion (λ (a : ℕ). a < n) set) steps) long below

-- the text of the formula of a task
pub tells : (how : Stepping) (horizon : ℕ) (task : Task) (f : Cnf) (word text : List ℕ) → word ≡ word_of how → text ≡ formula_text word horizon f → OfKnown task (IsFormula (places_by how) (is_plan_by how) horizon f)
    → OfKnown task (λ form. Plain (Listing text) ≡ Plain (Listing (formula_text (word_of how) horizon (formula_at (places_by how) form horizon))))
tells how horizon task f word text is told known = record {
  clauses = known.clauses;
  components = known.components;
  ordered = known.ordered;
  holds = ap (λ (xs : List ℕ). Plain (Listing xs)) (told ∙ (ap (λ (w : List ℕ). formula_text w horizon f) is ∙ ap (formula_text (word_of how) horizon) known.holds.0));
}

-- where nothing satisfies the formula there is no plan of so many steps
pub has_none : (how : Stepping) (horizon : ℕ) (task : Task) (f : Cnf) → OfKnown task (IsFormula (places_by how) (is_plan_by how) horizon f) → IsUnsatisfiable f.clauses → OfKnown task (HasNone how horizon)
has_none how horizon task f known unsatisfiable = record { clauses = known.clauses; components = known.components; ordered = known.ordered; holds = known.holds.1 unsatisfiable }

-- the verdict for the formula is that for the formula of the horizon
pub is_verdict : (how : Stepping) (horizon : ℕ) (task : Task) (f : Cnf) (given : Given) (verdict : Verdict) → OfKnown task (IsFormula (places_by how) (is_plan_by how) horizon f) → IsVerdictOn f given verdict → OfKnown task (IsVerdict how horizon given verdict)
is_verdict how horizon task f given verdict known is = record { clauses = known.clauses; components = known.components; ordered = known.ordered; holds = subst (λ (g : Cnf). IsVerdictOn g given verdict) known.holds.0 is }
