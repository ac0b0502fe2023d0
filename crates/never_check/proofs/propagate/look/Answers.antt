use Rattle.never_check.proofs.Grown.{either_way}
use Rattle.never_check.proofs.Looking.{one_below, looked_nothing, looked_clash, looked_one, looked_more}
use Rattle.never_check.proofs.propagate.look.Goals as goal

pub add-requires : goal.add-requires
add-requires c = one_below c.args.trail.now.literals c.args.clause.now _ c.in-One.lit c.requires c.in-One.ensures

pub returns-in-Nothing-clause-told : goal.returns-in-Nothing-clause-told
returns-in-Nothing-clause-told c = looked_nothing c.args.trail.now.literals c.args.clause.now c.in-Nothing.ensures

pub returns-in_ok-clashes-in-One-clause-told : goal.returns-in_ok-clashes-in-One-clause-told
returns-in_ok-clashes-in-One-clause-told c =
    let old = c.args.trail.now.literals in
    let clause = c.args.clause.now in
    either_way c.in_ok-clashes-in-One.clashes (looked_clash old clause c.in-One.lit c.in-One.ensures) (looked_one old clause c.add.new.trail.literals c.in-One.lit c.in-One.ensures) c.in_ok-clashes-in-One.ensures.told

pub returns-in-More-clause-told : goal.returns-in-More-clause-told
returns-in-More-clause-told c = looked_more c.args.trail.now.literals c.args.clause.now c.in-More.ensures
