use Rattle.std.proofs.Common.{◌≡◌, drop}
use Rattle.pd_model.specs.Instance.{all_hold}
use Rattle.pd_model.proofs.instance.are_true.Given as goal

abbrev pub invariant-loop-cond : goal.invariant-loop-cond
invariant-loop-cond l = all_hold l.state l.objects (drop l.cond-index l.conds) ≡ all_hold l.state l.objects l.conds
