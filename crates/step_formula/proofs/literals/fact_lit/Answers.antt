use Rattle.step_formula.proofs.Bounds.{fact_small}
use Rattle.step_formula.proofs.literals.fact_lit.Goals as goal

pub of-requires : goal.of-requires
of-requires c = fact_small c.args.layout.now c.args.time c.args.fact _ c.variables-all.ensures.lawful c.requires.time c.requires.fact c.fact-variable.ensures

pub of-requires-else-value : goal.of-requires-else-value
of-requires-else-value c = fact_small c.args.layout.now c.args.time c.args.fact _ c.variables-all.ensures.lawful c.requires.time c.requires.fact c.fact-variable.ensures
