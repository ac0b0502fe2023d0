use Rattle.std.proofs.Common.{arith, ◌*◌, sym, ◌∙◌}
use Rattle.clause_base.specs.Clause.{has_literal}
use Rattle.bit_sets.specs.Layered.{words_have}
use Rattle.propagation.proofs.Asks.{clash}
use Rattle.propagation.proofs.AsksKept.{asks_put}
use Rattle.propagation.proofs.Paired.{pair_within, pair_ask}
use Rattle.propagation.proofs.Visits.{grows_insert, own_insert}
use Rattle.propagation.proofs.marks.mark.Goals as goal

pub is_true-requires : goal.is_true-requires
is_true-requires c = (pair_within c.args.store.now.clauses (2 * c.args.assignment.now.variables) c.args.falsified c.args.pair c.requires.fit c.requires.exact).0

pub put-requires-clause-number : goal.put-requires-clause-number
put-requires-clause-number c = omega (arith, (pair_within c.args.store.now.clauses (2 * c.args.assignment.now.variables) c.args.falsified c.args.pair c.requires.fit c.requires.exact).1, c.requires.asks.room)

pub put-requires-clause-ask : goal.put-requires-clause-ask
put-requires-clause-ask c = omega (arith, (pair_within c.args.store.now.clauses (2 * c.args.assignment.now.variables) c.args.falsified c.args.pair c.requires.fit c.requires.exact).1, c.requires.asks.long)

pub returns-then-is_true-clause-in_set : goal.returns-then-is_true-clause-in_set
returns-then-is_true-clause-in_set c p = clash (sym (sym c.is_true.ensures ∙ c.if-is_true.true) ∙ p)

pub returns-clause-in_set : goal.returns-clause-in_set
returns-clause-in_set c p = own_insert (words_have c.args.pending.now.numbers) (words_have c.put.new.self.numbers) c.args.pair.number c.put.ensures.has

pub returns-clause-grows : goal.returns-clause-grows
returns-clause-grows c = grows_insert (words_have c.args.pending.now.numbers) (words_have c.put.new.self.numbers) c.args.pair.number c.put.ensures.has

pub returns-clause-asks : goal.returns-clause-asks
returns-clause-asks c =
    asks_put c.args.store.now.clauses c.args.assignment.now.trail c.args.pair.number c.args.pair.other c.args.pending.now c.put.new.self c.requires.asks c.put.ensures
    (pair_within c.args.store.now.clauses (2 * c.args.assignment.now.variables) c.args.falsified c.args.pair c.requires.fit c.requires.exact).1
    (pair_ask c.args.store.now.clauses (has_literal c.args.assignment.now.trail) c.args.falsified c.args.pair c.requires.exact c.requires.falsified)
