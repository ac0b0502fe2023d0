-- From what was found on the trails of both sides of a step to the definition of the backward check.
use Rattle.std.proofs.Common.{◌≡◌, ◌==◌, ◌<◌, ◌*◌, ◌++◌, ℕ, List, [], length, map, Bool, true, false, refl, sym, subst}
use Rattle.std.specs.Prelude.{slice_index_or, MatchBool, MatchOption, Option, Some, None}
use Rattle.std.specs.List.{AllByRecursion}
use Rattle.gt_core.specs.Literal.{opposite, is_in}
use Rattle.gt_core.specs.Task.{Effect, Action, Task, action, initial_state}
use Rattle.gt_core.specs.Clauses.{KnownClauses}
use Rattle.gt_core.specs.Interference.{action_may_make}
use Rattle.gt_core.proofs.published.Basics.{Among, each_at, each_from, passing, any_at, apart, same_test, test_same}
use Rattle.gt_core.proofs.published.Literals.{in_among, among_in, in_left}
use Rattle.implied_literals.specs.Rows.{HasNoPair}
use Rattle.never_defs.specs.Sets.{is_true_in, AreTrue}
use Rattle.never_defs.specs.Propagation.{IsPropagated, IsRefuted}
use Rattle.never_defs.specs.After.{holds_surely}
use Rattle.never_defs.specs.Backward.{GoalPassesBackward, IsBackwardCertificate}
use Rattle.never_check.specs.Trail.{Reached}
use Rattle.never_check.specs.Follow.{AreBelow, IsContradiction, AreUses}
use Rattle.never_check.specs.Rules.{ObeysRules}
use Rattle.never_check.specs.Sure.{IsSure}
use Rattle.never_check.specs.Verdicts.{IsLeast, AreRefuted, HasLeast}
use Rattle.never_check.specs.BackwardVerdicts.{IsStepRefuted, ArePassedBackward, FailsBackward, AllStepsPass, StepFails}
use Rattle.never_check.specs.declared.rules.Rules.{Rules}
use Rattle.never_check.proofs.Grown.{either_way}
use Rattle.never_check.proofs.Beginning.{each_map}
use Rattle.never_check.proofs.Following.{clause_number}
use Rattle.never_check.proofs.Pairing.{among_any}
use Rattle.never_check.proofs.Surely.{holds_more}
use Rattle.never_check.proofs.Least.{least_propagated, refuted_more, plain_refuted, refuted_plain, plain_propagated, plain_least, begun_refutes}

-- ---- what surely holds after a step

module _ (whole : Rules) (x : Action) (before : Reached) (sure : List ℕ) (each : AllByRecursion (IsSure before x) sure) where
  pub sure_below : (facts : ℕ) → before.facts ≡ facts → AreBelow (2 * facts) sure
  sure_below facts same = subst (λ (k : ℕ). AreBelow (2 * k) sure) same (each_map (IsSure before x) (λ m. m < 2 * before.facts) sure (λ m s. s.0) each)

  -- the literals that surely hold are refuted, or not, as a list of all of them is
  pub sure_told : ((m : ℕ) → holds_surely (is_in before.literals) x m ≡ true → is_in sure m ≡ true) → (b : Bool) → MatchBool b (AreRefuted whole sure) (HasLeast whole sure)
      → MatchBool b (IsRefuted whole.known.now.clauses whole.clauses.now (holds_surely (is_in before.literals) x)) (IsRefuted whole.known.now.clauses whole.clauses.now (holds_surely (is_in before.literals) x) → ⊥)
  sure_told all b told = either_way b there nothing told
    where
      there : AreRefuted whole sure → IsRefuted whole.known.now.clauses whole.clauses.now (holds_surely (is_in before.literals) x)
      there refuted = λ set p none. refuted set (record { given = λ l i. p.given l (each_at (IsSure before x) sure l each (in_among sure l i)).1; full = p.full; unit = p.unit }) none

      nothing : HasLeast whole sure → IsRefuted whole.known.now.clauses whole.clauses.now (holds_surely (is_in before.literals) x) → ⊥
      nothing has refuted =
          let p = least_propagated whole sure has.0 has.1 in
          refuted (is_in has.0.literals) (record { given = λ l h. has.1.has l (all l h); full = p.full; unit = p.unit }) has.1.apart

-- ---- one step

module _ (plain whole : Rules) (known : plain.known.now ≡ whole.known.now) (none : plain.clauses.now ≡ []) where
  to_plain : (base set : ℕ → Bool) → IsPropagated whole.known.now.clauses [] base set → IsPropagated plain.known.now.clauses [] base set
  to_plain base set p = subst (λ (k : KnownClauses). IsPropagated k.clauses [] base set) (sym known) p

  from_plain : (base set : ℕ → Bool) → IsPropagated plain.known.now.clauses [] base set → IsPropagated whole.known.now.clauses [] base set
  from_plain base set p = subst (λ (k : KnownClauses). IsPropagated k.clauses [] base set) known p

  module _ (x : Action) (k : ℕ) (lits : List ℕ) (same : lits ≡ map opposite (slice_index_or whole.clauses.now k [])) where
    abbrev Before : List ℕ → List ℕ
    Before ls = x.precondition ++ ls

    step_plain : (set : ℕ → Bool) → IsPropagated whole.known.now.clauses [] (is_in (Before (map opposite (slice_index_or whole.clauses.now k [])))) set → IsPropagated plain.known.now.clauses [] (is_in (Before lits)) set
    step_plain set p = subst (λ (ls : List ℕ). IsPropagated plain.known.now.clauses [] (is_in (Before ls)) set) (sym same) (to_plain (is_in (Before (map opposite (slice_index_or whole.clauses.now k [])))) set p)

    pub step_never : AreRefuted plain (Before lits) → IsStepRefuted whole x k
    step_never refuted = λ set p pairless. absurd (plain_refuted plain none (Before lits) refuted set (step_plain set p) pairless)

    pub step_told : (trail : Reached) → IsLeast plain (Before lits) trail → (b : Bool)
        → MatchBool b (IsRefuted whole.known.now.clauses whole.clauses.now (holds_surely (is_in trail.literals) x)) (IsRefuted whole.known.now.clauses whole.clauses.now (holds_surely (is_in trail.literals) x) → ⊥)
        → MatchBool b (IsStepRefuted whole x k) (IsStepRefuted whole x k → ⊥)
    step_told trail least b told = either_way b there back told
      where
        there : IsRefuted whole.known.now.clauses whole.clauses.now (holds_surely (is_in trail.literals) x) → IsStepRefuted whole x k
        there refuted = λ set p pairless other q.
            refuted other (record { given = λ l h. q.given l (holds_more (is_in trail.literals) set (plain_least plain none (Before lits) trail least set (step_plain set p)) x l h); full = q.full; unit = q.unit })

        mine : IsPropagated whole.known.now.clauses [] (is_in (Before (map opposite (slice_index_or whole.clauses.now k [])))) (is_in trail.literals)
        mine = subst (λ (ls : List ℕ). IsPropagated whole.known.now.clauses [] (is_in (Before ls)) (is_in trail.literals)) same (from_plain (is_in (Before lits)) (is_in trail.literals) (plain_propagated plain none (Before lits) trail least))

        back : (IsRefuted whole.known.now.clauses whole.clauses.now (holds_surely (is_in trail.literals) x) → ⊥) → IsStepRefuted whole x k → ⊥
        back nay all = nay (all (is_in trail.literals) mine least.apart)

  -- where the precondition is refuted an action passes
  pub steps_never : (x : Action) → AreRefuted plain x.precondition → ArePassedBackward whole x
  steps_never x refuted = each_from _ whole.clauses.now (λ c i may set p pairless.
      let q = to_plain (is_in (x.precondition ++ map opposite c)) set p in
      absurd (plain_refuted plain none x.precondition refuted set (record { given = λ l j. q.given l (in_left x.precondition (map opposite c) l j); full = q.full; unit = q.unit }) pairless))

-- ---- clauses by their literals

pub all_stepped : (whole : Rules) (x : Action) → AreUses (2 * whole.known.now.facts) whole.clauses.now whole.uses.now
    → AllByRecursion (λ e. (k : ℕ) → is_in (slice_index_or whole.uses.now e.literal []) k ≡ true → IsStepRefuted whole x k) x.effects → ArePassedBackward whole x
all_stepped whole x uses all = each_from _ whole.clauses.now (λ c i may.
    let n = clause_number whole.clauses.now c i in
    let p = passing (action_may_make x) c may in
    let e = passing (λ d. d.literal == p.one) x.effects p.passes in
    let same : e.one.literal ≡ p.one = test_same _ _ e.passes in
    let found = uses.each n.0 p.one n.1 (subst (λ (d : List ℕ). is_in d p.one ≡ true) (sym n.2) (among_in c p.one p.among)) in
    let told = each_at (λ (d : Effect). (k : ℕ) → is_in (slice_index_or whole.uses.now d.literal []) k ≡ true → IsStepRefuted whole x k) x.effects e.one all e.among in
    subst (λ (d : List ℕ). (set : ℕ → Bool) → IsPropagated whole.known.now.clauses [] (is_in (x.precondition ++ map opposite d)) set → HasNoPair set → IsRefuted whole.known.now.clauses whole.clauses.now (holds_surely set x)) n.2
    (told n.0 (subst (λ (l : ℕ). is_in (slice_index_or whole.uses.now l []) n.0 ≡ true) (sym same) found)))

pub one_step_fails : (whole : Rules) (x : Action) (e : Effect) (k : ℕ) → AreUses (2 * whole.known.now.facts) whole.clauses.now whole.uses.now → Among e x.effects
    → (k < length whole.clauses.now) × (is_in (slice_index_or whole.uses.now e.literal []) k ≡ true) × (IsStepRefuted whole x k → ⊥) → FailsBackward whole x k
one_step_fails whole x e k uses among t = (
  t.0,
  λ passes.
      let here = uses.only k e.literal t.1 in
      let may : action_may_make x e.literal ≡ true = any_at (λ d. d.literal == e.literal) x.effects e among (same_test _ _ refl) in
      t.2 (passes (any_at (action_may_make x) (slice_index_or whole.clauses.now k []) e.literal (in_among _ _ here) may)),
)

-- where the rules contradict themselves each step passes
pub begun_steps : (task : Task) (whole : Rules) → IsContradiction (ObeysRules whole) [] → AllStepsPass task whole.known.now.clauses whole.clauses.now
begun_steps task whole k = λ a lt. each_from _ whole.clauses.now (λ c i may set p pairless. begun_refutes whole (holds_surely set (action task a)) k)

-- ---- the goal

module _ (task : Task) (plain : Rules) (none : plain.clauses.now ≡ []) (clauses : List (List ℕ)) where
  pub hopeless_passes : task.hopeless ≡ true → AllByRecursion (GoalPassesBackward task plain.known.now.clauses) clauses
  hopeless_passes hopeless = each_from _ clauses (λ c i hope. absurd (apart _ hopeless hope))

  pub goal_never : AreRefuted plain task.goal → AllByRecursion (GoalPassesBackward task plain.known.now.clauses) clauses
  goal_never refuted = each_from _ clauses (λ c i hope. plain_refuted plain none (task.goal ++ map opposite c) (refuted_more plain task.goal (task.goal ++ map opposite c) (λ l j. in_left task.goal (map opposite c) l j) refuted))

  pub goals_told : task.hopeless ≡ false → (o : Option ℕ)
      → MatchOption o (AllByRecursion (λ c. AreRefuted plain (task.goal ++ map opposite c)) clauses) (λ k. (k < length clauses) × (AreRefuted plain (task.goal ++ map opposite (slice_index_or clauses k [])) → ⊥))
      → MatchOption o (AllByRecursion (GoalPassesBackward task plain.known.now.clauses) clauses) (λ k. (k < length clauses) × (GoalPassesBackward task plain.known.now.clauses (slice_index_or clauses k []) → ⊥))
  goals_told hopeful None all = each_map (λ c. AreRefuted plain (task.goal ++ map opposite c)) (GoalPassesBackward task plain.known.now.clauses) clauses (λ c refuted hope. plain_refuted plain none (task.goal ++ map opposite c) refuted) all
  goals_told hopeful (Some k) told = (told.0, λ passes. told.1 (refuted_plain plain none (task.goal ++ map opposite (slice_index_or clauses k [])) (passes hopeful)))

  -- where the known clauses contradict themselves a set passes that the initial state has not
  pub all_backward : IsContradiction (ObeysRules plain) [] → (AreTrue (initial_state task) clauses → ⊥) → IsBackwardCertificate task plain.known.now.clauses clauses
  all_backward k initial = record {
    initial = initial;
    goal = each_from _ clauses (λ c i hope. plain_refuted plain none (task.goal ++ map opposite c) (begun_refutes plain (is_in (task.goal ++ map opposite c)) k));
    next = λ a lt. each_from _ clauses (λ c i may set p pairless.
        let base = x_base a c in
        absurd (plain_refuted plain none (base) (begun_refutes plain (is_in base) k) set p pairless));
  }
    where
      x_base : ℕ → List ℕ → List ℕ
      x_base a c = (action task a).precondition ++ map opposite c

-- a clause that is false somewhere
pub one_false : (s : ℕ → Bool) (clauses : List (List ℕ)) (k : ℕ) → (k < length clauses) × (is_true_in s (slice_index_or clauses k []) ≡ false) → AreTrue s clauses → ⊥
one_false s clauses k t all = apart _ (each_at (λ c. is_true_in s c ≡ true) clauses (slice_index_or clauses k []) all (among_any clauses k [] t.0)) t.1

-- a clause and an action, in the order in which they are told
pub pair_told : (task : Task) (whole : Rules) (o : Option (ℕ × ℕ))
    → MatchOption o ((a : ℕ) → a < length task.actions → ArePassedBackward whole (action task a)) (λ p. (p.1 < length task.actions) × FailsBackward whole (action task p.1) p.0)
    → MatchOption o (AllStepsPass task whole.known.now.clauses whole.clauses.now) (StepFails task whole.known.now.clauses whole.clauses.now)
pair_told task whole None told = told
pair_told task whole (Some p) told = (told.1.0, told.0, told.1.1)
