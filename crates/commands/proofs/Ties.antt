-- What is known of a form of a ground task is known of the task.
use Rattle.std.proofs.Common.{◌≡◌, ◌≤◌, ◌<◌, ◌∙◌, ℕ, Bool, List, Result, Ok, Err, ap, subst}
use Rattle.std.specs.Prelude.{IfOk}
use Rattle.clause_base.specs.Formula.{IsModel}
use Rattle.clause_base.specs.declared.log.Entry.{Entry}
use Rattle.gt_core.specs.Task.{Task}
use Rattle.gt_core.specs.Clauses.{KnownClauses}
use Rattle.gt_core.specs.Published.{IsPublished, order_of}
use Rattle.gt_core.specs.Step.{IsStepPlan}
use Rattle.horizon_run.specs.Run.{reached, choice_of, Stays}
use Rattle.formula_defs.specs.Variables.{layout_of, chain_places}
use Rattle.step_laws.specs.Form.{OrderedTask, AreSets}
use Rattle.step_encoding.specs.Limits.{planner_literals}
use Rattle.step_encoding.specs.Numbers.{literals_of}
use Rattle.two_invariants.specs.Closed.{AreInvariants}
use Rattle.commands.specs.Known.{form_of, formula_at, HasTooMany}
use Rattle.commands.specs.Certificate.{IsCertificate}
use Rattle.commands.specs.Proved.{proved_of, Proves}
use Rattle.commands.specs.Judged.{IsJudged, Judges}
use Rattle.commands.specs.declared.error.ProofError.{ProofError}
use Rattle.commands.specs.declared.prove.Proved.{Proved}
use Rattle.commands.specs.declared.prove.Proved.TheVariants.{Certificate, Plan, Open}
use Rattle.commands.specs.declared.verify.Judged.{Judged}
use Rattle.commands.specs.declared.verify.Judged.TheVariants.{Accepted}

-- a task with clauses that are known of some facts, and components
abbrev pub made_of : Task → KnownClauses → List (List ℕ) → OrderedTask
made_of task known components = record { task = task; known = known; components = components }

-- A task, its invariants, its published order, and a form of them.
module _ (task : Task) (known : KnownClauses) (components : List (List ℕ)) (facts : known.facts ≡ task.facts) (invariants : AreInvariants task known.clauses) (published : IsPublished task known.clauses components) (form : OrderedTask) (made : form ≡ made_of task known components) (horizon : ℕ) where
  same : form ≡ form_of task known.clauses components
  same = made ∙ ap (λ (n : ℕ). made_of task (record { facts = n; clauses = known.clauses }) components) facts

  abbrev is_small : OrderedTask → Type 0
  is_small f = literals_of (formula_at chain_places f horizon) ≤ planner_literals

  abbrev is_proved : ℕ → Proved → OrderedTask → Type 0
  is_proved budget p f = p ≡ proved_of horizon (reached (choice_of task (layout_of f.task (chain_places f.task f.components) horizon)) (formula_at chain_places f horizon) budget)

  abbrev does_stay : OrderedTask → Type 0
  does_stay f = Stays (choice_of task (layout_of f.task (chain_places f.task f.components) horizon)) (formula_at chain_places f horizon)

  pub proves : (budget : ℕ) (r : Result Proved ProofError) → IfOk r (λ p. is_proved budget p form) → IfOk r (λ p. is_small form)
      → ((text : List ℕ) → r ≡ Ok (Certificate text) → IsCertificate (formula_at chain_places form) text horizon)
      → ((conflicts : ℕ) → r ≡ Ok (Open conflicts) → conflicts ≡ budget) → ((conflicts : ℕ) → r ≡ Ok (Plan conflicts) → (values : List Bool) × IsModel (formula_at chain_places form horizon) values)
      → IfOk r (λ p. does_stay form) → IfOk r (Proves task horizon budget)
  proves budget (Ok p) is small certified spent found stay = record {
    clauses = known.clauses;
    components = components;
    ordered = record { known = invariants; published = published };
    small = subst is_small same small;
    is = subst (is_proved budget p) same is;
    certified = λ text e. subst (λ (f : OrderedTask). IsCertificate (formula_at chain_places f) text horizon) same (certified text (ap Ok e));
    spent = λ conflicts e. spent conflicts (ap Ok e);
    found = λ conflicts e. subst (λ (f : OrderedTask). (values : List Bool) × IsModel (formula_at chain_places f horizon) values) same (found conflicts (ap Ok e));
    stays = subst does_stay same stay;
  }
  proves budget (Err e) is small certified spent found stay = tt

  pub judges : (log : List Entry) (r : Result Judged ProofError) → IfOk r (IsJudged (formula_at chain_places form horizon) log) → IfOk r (λ j. is_small form)
      → ((entries : ℕ) → r ≡ Ok (Accepted entries) → (steps : List (List ℕ)) → AreSets IsStepPlan form.task (order_of form.components) steps horizon → ⊥)
      → IfOk r (Judges task horizon log)
  judges log (Ok j) is small none = record {
    clauses = known.clauses;
    components = components;
    ordered = record { known = invariants; published = published };
    small = subst is_small same small;
    is = subst (λ (f : OrderedTask). IsJudged (formula_at chain_places f horizon) log j) same is;
    none = λ entries e steps. subst (λ (f : OrderedTask). AreSets IsStepPlan f.task (order_of f.components) steps horizon → ⊥) same (none entries (ap Ok e) steps);
  }
  judges log (Err e) is small none = tt

  pub too_many : (count : ℕ) → (planner_literals < count) × (count ≡ literals_of (formula_at chain_places form horizon)) → HasTooMany task horizon count
  too_many count many = record {
    clauses = known.clauses;
    components = components;
    ordered = record { known = invariants; published = published };
    over = many.0;
    count_is = subst (λ (f : OrderedTask). count ≡ literals_of (formula_at chain_places f horizon)) same many.1;
  }
