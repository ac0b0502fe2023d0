use Rattle.std.proofs.Common.{◌<◌, List, length, ap, sym, ◌∙◌, subst}
use Rattle.step_chains.specs.declared.link.Link.{Link}
use Rattle.step_chains.proofs.index.LinkIndex.mark.Goals as goal

pub mark_in-requires-clause-lit : goal.mark_in-requires-clause-lit
mark_in-requires-clause-lit c = subst (λ (xs : List (List Link)). c.args.lit < length xs) (sym c.self.view_is) c.requires.lit

pub returns-clause-long : goal.returns-clause-long
returns-clause-long c = c.mark_in.ensures.long ∙ ap length c.self.view_is

pub returns-clause-marks : goal.returns-clause-marks
returns-clause-marks c =
    rw (← c.self.view_is) c.mark_in.ensures.marks
