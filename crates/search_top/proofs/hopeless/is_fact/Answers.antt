use Rattle.std.proofs.Common.{sym, ◌∙◌}
use Rattle.search_top.proofs.Knowing.{found_at, not_at}
use Rattle.search_top.proofs.hopeless.is_fact.Goals as goal

pub returns-then-is_same : goal.returns-then-is_same
returns-then-is_same c = sym (found_at c.args.atom.now c.fact.result.now c.args.g.now.facts c.loop-f.f c.fact.ensures (sym c.is_same.ensures ∙ c.if-is_same.true)) ∙ c.loop-f.invariant

pub loop-f-preserved : goal.loop-f-preserved
loop-f-preserved c = not_at c.args.atom.now c.fact.result.now c.args.g.now.facts c.loop-f.f c.fact.ensures (sym c.is_same.ensures ∙ c.if-is_same.false) ∙ c.loop-f.invariant
