use Rattle.pd_model.proofs.published.States.{stepped_alike}
use Rattle.pd_model.specs.Exec.{gains, deletes}
use Rattle.pd_model.proofs.run.apply.Goals as goal

pub returns : goal.returns
returns c =
    let p = c.args.p.now in
    let s = c.args.state.now in
    let objects = c.args.objects.now in
    let effects = c.args.effects.now in
    stepped_alike s c.subtract.new.self c.unite.new.self (gains p s objects effects) (deletes p s objects effects) _ _ c.in_ok-gains.ensures c.in_ok-deletes.ensures c.subtract.ensures c.in_ok-unite.ensures
