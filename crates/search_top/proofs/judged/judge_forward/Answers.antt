use Rattle.std.proofs.Common.{ℕ, ap, ◌∙◌}
use Rattle.search_top.specs.Never.{said_forward}
use Rattle.search_top.proofs.Knowing.{known_of}
use Rattle.search_top.proofs.judged.judge_forward.Goals as goal

pub check_forward-requires-clause-known : goal.check_forward-requires-clause-known
check_forward-requires-clause-known g c = known_of c.args.task.now c.in_ok-known.known c.in_ok-known.ensures.facts c.in_ok-known.ensures.greatest

pub returns-clause-said : goal.returns-clause-said
returns-clause-said g c = (c.in_ok-known.known.clauses, c.in_ok-known.ensures.greatest, (c.in_ok-verdict.verdict, c.in_ok-verdict.ensures, c.said_forward.ensures ∙ ap (λ (n : ℕ). said_forward n c.in_ok-verdict.verdict) c.len.ensures))
