use Rattle.std.proofs.Common.{◌≡◌, ◌++◌, map, codes, drop}
use Rattle.std.specs.List.{flat_map}
use Rattle.pd_model.specs.Text.{object_name}
use Rattle.plan_report.proofs.task_names.push_objects.Given as goal

abbrev pub invariant-loop-object : goal.invariant-loop-object
invariant-loop-object l =
    l.initial.text.items ++ flat_map (λ o. codes " " ++ o) (map (object_name l.p) l.objects)
    ≡ l.text.items ++ flat_map (λ o. codes " " ++ o) (map (object_name l.p) (drop l.object-index l.objects))
