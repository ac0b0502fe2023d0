use Rattle.std.proofs.Common.{take}
use Rattle.std.specs.List.{list_any}
use Rattle.grounding_defs.specs.Instance.{changes_of}
use Rattle.grounding_defs.specs.Found.{deletes}
use Rattle.grounder.specs.own.Putting.{LeavesOut}
use Rattle.grounder.proofs.constant.leave_out_effect.Given as goal

abbrev pub invariant-loop-number : goal.invariant-loop-number
invariant-loop-number l =
    LeavesOut (λ a. list_any (deletes l.reached a) (take l.number (changes_of l.domains l.objects l.effect))) l.fn.constant l.constant
