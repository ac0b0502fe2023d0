use Rattle.std.proofs.Common.{◌∙◌, map, ap}
use Rattle.std.proofs.lemmas.List.{map-append}
use Rattle.requests.specs.Arguments.{rule_for}
use Rattle.requests.proofs.building.put.Goals as goal

pub returns : goal.returns
returns c = ap (map rule_for) c.in_ok-extend_from_slice.ensures.items ∙ map-append rule_for c.args.into.now.items c.args.more.now
