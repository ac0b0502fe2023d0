use Rattle.std.proofs.Common.{sym, subst}
use Rattle.gt_core.specs.Literal.{is_in}
use Rattle.never_check.specs.declared.left.Left.{Left}
use Rattle.never_check.specs.Left.{TellsLeft}
use Rattle.never_check.proofs.LeftLaw.{tells}
use Rattle.never_check.proofs.left.left_of.Goals as goal

pub returns : goal.returns
returns c = subst (λ (o : Left). TellsLeft (is_in c.args.trail.now.literals) c.args.clause.now o) (sym c.look_through.ensures) (tells (is_in c.args.trail.now.literals) c.args.clause.now)
