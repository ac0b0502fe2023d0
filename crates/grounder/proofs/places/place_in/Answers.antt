use Rattle.pd_model.specs.Instance.{instance}
use Rattle.grounder.proofs.Placed.{told_place}
use Rattle.grounder.proofs.places.place_in.Goals as goal

pub returns : goal.returns
returns c = told_place c.args.facts.now (instance c.args.objects.now c.args.pattern.now) c.place.result c.requires c.place.ensures
