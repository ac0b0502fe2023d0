use Rattle.pd_plan.proofs.PlanTextLaw.{comment_then, call_then, call_line}
use Rattle.pd_plan.proofs.Spelled.{spelled}
use Rattle.pd_plan.proofs.plan_text.laws.Goals as goal

pub returns-clause-line : goal.returns-clause-line
returns-clause-line c p call well = call_line p well call

pub returns-clause-comment : goal.returns-clause-comment
returns-clause-comment c p = comment_then p

pub returns-clause-call : goal.returns-clause-call
returns-clause-call c p call rest calls well = call_then p well call rest calls

pub returns-clause-reads : goal.returns-clause-reads
returns-clause-reads c p bytes calls h = spelled p bytes calls (h 0)
