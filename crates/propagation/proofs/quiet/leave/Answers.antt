-- leave
use Rattle.std.proofs.Common.{ℕ, Option, refl, sym, subst}
use Rattle.bit_sets.specs.Layered.{words_have}
use Rattle.propagation.specs.own.Asks.{IsWithoutOne}
use Rattle.propagation.proofs.Asks.{clash}
use Rattle.propagation.proofs.AsksKept.{without_none}
use Rattle.propagation.proofs.Gone.{least_none}
use Rattle.propagation.proofs.quiet.leave.Goals as goal

pub returns-in-Some-clause-flagged : goal.returns-in-Some-clause-flagged
returns-in-Some-clause-flagged c = record { flag = _; is = refl; none = λ e. clash (sym e) }

pub returns-in-Some-clause-without : goal.returns-in-Some-clause-without
returns-in-Some-clause-without c = subst (λ (r : Option ℕ). IsWithoutOne r c.args.pending.now c.take_least.new.self) (sym c.in-Some.is) c.take_least.ensures

pub returns-in-None-clause-flagged : goal.returns-in-None-clause-flagged
returns-in-None-clause-flagged c = record { flag = c.is_none.result; is = refl; none = least_none (words_have c.args.pending.now.numbers) c.least-least.result c.is_none.result c.least-least.ensures c.is_none.ensures }

pub returns-in-None-clause-without : goal.returns-in-None-clause-without
returns-in-None-clause-without c = without_none _ _
