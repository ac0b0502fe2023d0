use Rattle.std.proofs.Common.{sym, ◌∙◌}
use Rattle.pd_sexp.specs.View.{view}
use Rattle.pd_task.specs.own.Tables.{domain_of}
use Rattle.pd_task.proofs.Formed.{read_formed}
use Rattle.pd_task.proofs.read_pddl.Goals as goal

pub new-requires : goal.new-requires
new-requires c =
    read_formed (view c.args.domain.now) (view c.args.problem.now) c.requires.domain c.requires.problem (domain_of c.in-Ok.tables) c.in-Ok-read_problem.parts c.in-Ok.ensures c.in-Ok-read_problem.ensures (sym c.few_parts.ensures ∙ c.if-not-few_parts.false)
