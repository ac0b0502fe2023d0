use Rattle.std.proofs.Common.{ℕ, subst}
use Rattle.never_search.specs.Answer.{IsAnswer}
use Rattle.search_top.proofs.Knowing.{known_of, found_below}
use Rattle.search_top.proofs.explore.explored.Goals as goal

pub search-requires-clause-known : goal.search-requires-clause-known
search-requires-clause-known g c = known_of c.args.task.now c.in_ok-known.known c.in_ok-known.ensures.facts c.in_ok-known.ensures.greatest

pub returns-clause-explored : goal.returns-clause-explored
returns-clause-explored g c = (c.in_ok-known.known.clauses, c.in_ok-known.ensures.greatest, subst (λ (n : ℕ). IsAnswer c.args.task.now c.in_ok-known.known.clauses n c.in_ok-answer.answer) c.from.ensures c.in_ok-answer.ensures)

pub returns-clause-below : goal.returns-clause-below
returns-clause-below g c = found_below c.args.task.now c.in_ok-known.known.clauses _ _ c.in_ok-answer.answer.end c.in_ok-answer.ensures.ends
