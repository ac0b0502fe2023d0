use Rattle.std.proofs.Common.{take}
use Rattle.std.specs.List.{list_any, flat_map}
use Rattle.grounding_defs.specs.Instance.{changes_of}
use Rattle.grounding_defs.specs.Found.{deletes}
use Rattle.grounder.specs.own.Putting.{LeavesOut}
use Rattle.grounder.proofs.constant.leave_out_call.Given as goal

abbrev pub invariant-loop-effect : goal.invariant-loop-effect
invariant-loop-effect l =
    LeavesOut (λ a. list_any (deletes l.reached a) (flat_map (changes_of l.domains l.objects) (take l.effect-index l.effect-items))) l.fn.constant l.constant
