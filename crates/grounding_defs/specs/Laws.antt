-- What makes grounding useful: executing calls of the files and running numbered actions is the same.
use Rattle.std.specs.Prelude.{take, ℕ, ◌≡◌, List, [], ◌∷◌, Bool, true, Some, slice_get, IsTrue, ◌⊎◌, ◌↔◌}
use Rattle.gt_core.specs.Lawful.{is_task, is_within}
use Rattle.gt_core.specs.Task.{initial_state}
use Rattle.gt_core.specs.Execution.{CanRun, run, IsGoal}
use Rattle.pd_model.specs.State.{is_in}
use Rattle.pd_model.specs.Plan.{exec_all, meets_goal}
use Rattle.pd_model.specs.declared.atoms.Atom.{Atom}
use Rattle.pd_model.specs.declared.calls.Call.{Call}
use Rattle.pd_model.specs.declared.parts.Parts.{Parts}
use Rattle.grounding_defs.specs.Reach.{IsReachable, IsKept, IsClosed, IsConstant, IsFact}
use Rattle.grounding_defs.specs.Sorted.{atom_less, call_less, IsSorted}
use Rattle.grounding_defs.specs.Grounded.{Grounded, IsGrounded}
use Rattle.grounding_defs.specs.Limits.{Bounds, IsBounded, IsWithin}
use Rattle.grounding_defs.specs.Found.{IsDerivable, IsClosedLists, IsLeastPair, grounded_from}

-- these numbers are those of these calls
abbrev pub AreNumbers : Grounded → List Call → List ℕ → Type 0
AreNumbers g [] [] = Unit {0}
AreNumbers g [] (n ∷ numbers) = ⊥
AreNumbers g (c ∷ calls) [] = ⊥
AreNumbers g (c ∷ calls) (n ∷ numbers) = (slice_get g.calls n ≡ Some c) × AreNumbers g calls numbers

-- the numbered facts are true in the one state where their atoms are in the other
abbrev pub IsSameState : Grounded → (ℕ → Bool) → List Atom → Type 0
IsSameState g s t = (f : ℕ) (a : Atom) → slice_get g.facts f ≡ Some a → s f ≡ is_in a t

-- these numbered actions run where these calls are executed, to the same state, and through the same states: after
-- the first k of them, for each k
pub record RunsAlike (p : Parts) (g : Grounded) (calls : List Call) (t : List Atom) (numbers : List ℕ) : Type 0 where
  pub named : AreNumbers g calls numbers
  pub runs : CanRun g.task (initial_state g.task) numbers
  pub same : IsSameState g (run g.task (initial_state g.task) numbers) t
  pub between : (k : ℕ) (u : List Atom) → exec_all p p.init (take k calls) ≡ Some u → IsSameState g (run g.task (initial_state g.task) (take k numbers)) u

-- each of these is a call, and they are executed in turn from the initial state to another
abbrev pub AreExecuted : Parts → List Call → List Atom → Type 0
AreExecuted p calls t = exec_all p p.init calls ≡ Some t

-- what is in every closed pair is a closed pair: the least one
abbrev pub LeastIsClosed : Type 0
LeastIsClosed = (p : Parts) → IsClosed p (IsReachable p) (IsKept p)

-- where calls are executed in turn, each is an action, and the actions run through the same states
abbrev pub CallsAreActions : Type 0
CallsAreActions =
    (p : Parts) (g : Grounded) → IsGrounded p g
    → (calls : List Call) (t : List Atom) → AreExecuted p calls t → (numbers : List ℕ) × RunsAlike p g calls t numbers

-- where actions run, their calls are executed in turn, through the same states
abbrev pub ActionsAreCalls : Type 0
ActionsAreCalls =
    (p : Parts) (g : Grounded) → IsGrounded p g
    → (numbers : List ℕ) → CanRun g.task (initial_state g.task) numbers
    → (calls : List Call) × (t : List Atom) × AreExecuted p calls t × RunsAlike p g calls t numbers

-- each atom of a state that calls lead to is a fact or constant, and each constant atom is in it
pub record KnowsAtoms (p : Parts) (t : List Atom) : Type 0 where
  pub known : (a : Atom) → IsTrue (is_in a t) → IsFact p a ⊎ IsConstant p a
  pub constant : (a : Atom) → IsConstant p a → IsTrue (is_in a t)

-- the law that each atom of a state that calls lead to is a fact or constant, and each constant atom is in it
abbrev pub AtomsAreKnown : Type 0
AtomsAreKnown =
    (p : Parts) (g : Grounded) → IsGrounded p g
    → (calls : List Call) (t : List Atom) → AreExecuted p calls t → KnowsAtoms p t

-- the goal holds in the one state exactly where it holds in the other
abbrev pub GoalsAgree : Type 0
GoalsAgree =
    (p : Parts) (g : Grounded) → IsGrounded p g
    → (calls : List Call) (t : List Atom) → AreExecuted p calls t
    → (s : ℕ → Bool) → IsSameState g s t → IsGoal g.task s ↔ IsTrue (meets_goal p (Some t))

-- a task is grounded in one way
abbrev pub OneResult : Type 0
OneResult = (p : Parts) (g h : Grounded) → IsGrounded p g → IsGrounded p h → g ≡ h

-- a closed pair of lists that is in every closed pair is the least one
abbrev pub SoundIsLeast : Type 0
SoundIsLeast =
    (p : Parts) (reached : List Atom) (kept : List Call)
    → IsDerivable p reached kept → IsClosedLists p reached kept → IsLeastPair p reached kept

-- what is made of the least pair, in order, is what grounding gives
abbrev pub LeastIsGrounded : Type 0
LeastIsGrounded =
    (p : Parts) (reached : List Atom) (kept : List Call)
    → IsLeastPair p reached kept → IsSorted atom_less reached → IsSorted call_less kept
    → IsGrounded p (grounded_from p reached kept)

-- within limits the task is one within them
abbrev pub GroundedIsWithin : Type 0
GroundedIsWithin =
    (bounds : Bounds) (p : Parts) (g : Grounded) → IsGrounded p g → IsBounded bounds p g → is_within bounds.task g.task ≡ true

-- within the limits of what is encoded the task is a lawful one
abbrev pub GroundedIsTask : Type 0
GroundedIsTask = (p : Parts) (g : Grounded) → IsGrounded p g → IsWithin p g → is_task g.task ≡ true
