-- What the calls of the reader answer.
use Rattle.std.specs.Prelude.{Option, Some, None, Result}
use Rattle.pd_words.specs.First.{LeavesOr}
use Rattle.pd_plan.specs.Fault.{Fault, syntax, unknown, arity, mistyped}
use Rattle.pd_plan.specs.declared.fault.PlanFault.{PlanFault}
use Rattle.pd_plan.specs.declared.fault.PlanFault.TheVariants.{Syntax, Unknown, Arity, Mistyped, Memory}

-- the fault that was told; want of memory is none
abbrev pub fault_of : PlanFault → Option Fault
fault_of (Syntax at) = Some (syntax at)
fault_of (Unknown at) = Some (unknown at)
fault_of (Arity at) = Some (arity at)
fault_of (Mistyped at) = Some (mistyped at)
fault_of Memory = None

-- A call returned what reading gives, unless memory ran out.
abbrev pub Gives : {X : Type 0} → Result X Fault → Result X PlanFault → Type 0
Gives read result = LeavesOr fault_of read (λ x. x) result

-- The same, with the value seen through a view.
abbrev pub GivesAs : {X Y : Type 0} → (X → Y) → Result Y Fault → Result X PlanFault → Type 0
GivesAs view read result = LeavesOr fault_of read view result
