use Rattle.std.proofs.Common.{◌*◌}
use Rattle.bit_sets.specs.Rows.{row_has}
use Rattle.implied_literals.specs.Rows.{clause_in}
use Rattle.implied_literals.proofs.Renewing.{first_were}
use Rattle.implied_literals.proofs.again.first_known.Goals as goal

pub renew_known-requires-clause-were : goal.renew_known-requires-clause-were
renew_known-requires-clause-were c =
    let nothing = c.in_ok-known.ensures in
    first_were (clause_in c.args.clauses.now) (row_has c.new-stale.result) (2 * c.args.facts) (row_has c.args.asked.now) c.in_ok-known.known c.requires.clauses.within nothing.none nothing.long c.requires.asked nothing.asked nothing.other
