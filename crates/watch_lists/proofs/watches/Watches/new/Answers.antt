use Rattle.std.proofs.Common.{arith, ◌∙◌, ap}
use Rattle.watch_lists.specs.Pending.{without_reasons}
use Rattle.watch_lists.proofs.Firsts.{known}
use Rattle.watch_lists.proofs.Knowns.{known_new}
use Rattle.watch_lists.proofs.watches.Watches.new.Goals as goal

pub invariant_of-result : goal.invariant_of-result
invariant_of-result c = (
  known c.in_ok-propagator.propagator c.next-first.new.self c.next-first.result c.next-first.ensures.first c.next-first.ensures.same,
  known_new c.next-first.new.self c.args.formula.now.variables c.args.formula.now.clauses c.in_ok-known.known.items
      (c.next-first.ensures.same ∙ c.in_ok-propagator.ensures)
      (omega (arith, c.in_ok-known.ensures, c.variables.ensures.value)),
)

pub returns : goal.returns
returns c = ap without_reasons (c.next-first.ensures.same ∙ c.in_ok-propagator.ensures)
