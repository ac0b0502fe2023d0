use Rattle.std.proofs.Common.{length, refl}
use Rattle.step_laws.specs.Form.{OrderedTask, IsOrderedTask}
use Rattle.step_encoding.proofs.Whole.{members_fit, distinct_fit, apart_fit}
use Rattle.step_encoding.proofs.placed.Placed.new.Goals as goal

pub find-requires : goal.find-requires
find-requires g c =
    let form : OrderedTask = record { task = c.args.task.now; known = c.args.pairs.now; components = c.args.order.now } in
    let is : IsOrderedTask form = record { lawful = c.facts-facts.ensures.lawful; known = c.count-count.ensures.lawful; facts = c.requires.facts; hold = c.requires.hold; published = c.requires.published } in
    record {
      members = members_fit form is (length form.task.actions) refl;
      distinct = distinct_fit form is;
      apart = apart_fit form is;
    }
