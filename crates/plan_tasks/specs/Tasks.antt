-- The task that two files are, and why they are none that can be answered.
use Rattle.std.specs.Prelude.{◌≡◌, ℕ, List, Option, Some, None, Ok, Err, IsTrue}
use Rattle.pd_sexp.specs.Tree.{Tree}
use Rattle.pd_sexp.specs.Fault.{syntax, deep, IsFault, Reads}
use Rattle.pd_sexp.specs.View.{view}
use Rattle.pd_sexp.specs.Word.{has_words}
use Rattle.pd_model.specs.WellFormed.{IsWellFormed}
use Rattle.pd_model.specs.declared.which.Which.{Which}
use Rattle.pd_model.specs.declared.which.Which.TheVariants as which
use Rattle.pd_model.specs.declared.parts.Parts.{Parts}
use Rattle.pd_task.specs.Reading.{reading}
use Rattle.pd_task.specs.declared.error.PddlError.{PddlError}
use Rattle.pd_task.specs.declared.error.PddlError.TheVariants as errors
use Rattle.grounding_defs.specs.Grounded.{Grounded, IsGrounded}
use Rattle.grounding_defs.specs.Limits.{IsWithin, IsOverTuples, IsOverFacts, IsOverActions, IsOverEffects}
use Rattle.plan_endings.specs.declared.ending.File.{File}
use Rattle.plan_endings.specs.declared.ending.File.TheVariants.{Domain, Problem, Plan}
use Rattle.plan_endings.specs.declared.ending.Limit.{Limit}
use Rattle.plan_endings.specs.declared.ending.Limit.TheVariants as limits
use Rattle.plan_endings.specs.declared.ending.Kind.{Kind}
use Rattle.plan_endings.specs.declared.ending.Kind.TheVariants.{Syntax, Deep, Shape, Unknown, Arity, Duplicate, Unsupported}
use Rattle.plan_endings.specs.declared.ending.Ending.{Ending}
use Rattle.plan_endings.specs.declared.ending.Ending.TheVariants.{Refused, TooMany}
use Rattle.plan_tasks.specs.declared.task.Reading.{Reading}
use Rattle.plan_tasks.specs.declared.task.Reading.TheVariants as readings

-- two files are a task
abbrev pub AreTask : List ℕ → List ℕ → Parts → Type 0
AreTask domain problem task = (first : Tree) × (second : Tree) × Reads domain first × Reads problem second × (reading first second ≡ Ok task)

-- a file has this fault as a tree
abbrev pub IsTreeFault : List ℕ → Kind → ℕ → Type 0
IsTreeFault bytes Syntax at = IsFault bytes (syntax at)
IsTreeFault bytes Deep at = IsFault bytes (deep at)
IsTreeFault bytes _ at = ⊥

-- what bytes are read as: a tree, or a fault
abbrev pub IsReading : List ℕ → Reading → Type 0
IsReading bytes (readings.Tree tree) = Reads bytes (view tree) × IsTrue (has_words (view tree))
IsReading bytes (readings.Fault kind at) = IsTreeFault bytes kind at

-- a file of a task, as an input
abbrev pub input_of : Which → File
input_of which.Domain = Domain
input_of which.Problem = Problem
input_of which.Plan = Plan

-- the ending that tells of a cause for which two trees are no task
abbrev pub refusal_of : PddlError → Option Ending
refusal_of (errors.Shape file at) = Some (Refused Shape (input_of file) at)
refusal_of (errors.Unknown file at) = Some (Refused Unknown (input_of file) at)
refusal_of (errors.Arity file at) = Some (Refused Arity (input_of file) at)
refusal_of (errors.Duplicate file at) = Some (Refused Duplicate (input_of file) at)
refusal_of (errors.Unsupported file at) = Some (Refused Unsupported (input_of file) at)
refusal_of errors.Memory = None

-- the ending tells of a fault that a file has as a tree
abbrev pub RefusesTree : List ℕ → File → Ending → Type 0
RefusesTree bytes file end = (kind : Kind) × (at : ℕ) × (end ≡ Refused kind file at) × IsTreeFault bytes kind at

-- the ending tells of the cause for which two trees are no task
abbrev pub RefusesTrees : Tree → Tree → Ending → Type 0
RefusesTrees first second end = (cause : PddlError) × (reading first second ≡ Err cause) × (refusal_of cause ≡ Some end)

-- why two files are no task: the trees before what they say, and of both the domain first
pub data RefusesTask (domain problem : List ℕ) (end : Ending) : Type 0 where
  domain_tree : RefusesTree domain Domain end → RefusesTask domain problem end
  problem_tree : (first : Tree) → Reads domain first → RefusesTree problem Problem end → RefusesTask domain problem end
  no_task : (first second : Tree) → Reads domain first → Reads problem second → RefusesTrees first second end → RefusesTask domain problem end

-- What two files decide that are only read: they are refused, or a task, of which the answer is this.
pub data OnceRead (domain problem : List ℕ) (answers : Parts → Ending → Type 0) (end : Ending) : Type 0 where
  not_read : RefusesTask domain problem end → OnceRead domain problem answers end
  read : (task : Parts) → AreTask domain problem task → answers task end → OnceRead domain problem answers end

-- a task is past a limit, with this count
abbrev pub IsOver : Limit → Parts → ℕ → Type 0
IsOver limits.Tuples task count = IsOverTuples task count
IsOver limits.Facts task count = IsOverFacts task count
IsOver limits.Actions task count = IsOverActions task count
IsOver limits.Effects task count = IsOverEffects task count

-- a task is past a limit, of which the ending tells
abbrev pub TellsOver : Parts → Ending → Type 0
TellsOver task end = (what : Limit) × (count : ℕ) × (end ≡ TooMany what count) × IsOver what task count

-- a task is well formed, and is grounded to this within all limits
pub record IsReady (task : Parts) (g : Grounded) : Type 0 where
  pub well : IsWellFormed task
  pub grounded : IsGrounded task g
  pub fits : IsWithin task g

-- why two files are no task that is grounded within the limits
pub data StopsTask (domain problem : List ℕ) (end : Ending) : Type 0 where
  refused : RefusesTask domain problem end → StopsTask domain problem end
  past : (task : Parts) → AreTask domain problem task → TellsOver task end → StopsTask domain problem end

-- What two files come to that are grounded: they are refused or past a limit, or a task and what it is grounded to, of which the
-- answer is this.
pub data OnceGrounded (domain problem : List ℕ) (answers : Parts → Grounded → Ending → Type 0) (end : Ending) : Type 0 where
  not_grounded : StopsTask domain problem end → OnceGrounded domain problem answers end
  grounded : (task : Parts) (g : Grounded) → AreTask domain problem task → IsReady task g → answers task g end → OnceGrounded domain problem answers end
