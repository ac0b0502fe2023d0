use Rattle.std.proofs.Common.{◌∙◌}
use Rattle.pd_model.specs.Text.{atom_text}
use Rattle.plan_report.proofs.TaskLines.{line_next}
use Rattle.plan_report.proofs.listings.push_facts.Goals as goal

pub loop-f-preserved : goal.loop-f-preserved
loop-f-preserved c =
    c.loop-f.invariant
    ∙ line_next (atom_text c.args.p.now) c.args.g.now.facts c.loop-f.f c.fact.result.now c.loop-f.text.items c.push_line_start.new.text.items c.push_atom.new.text.items c.extend_from_slice.new.self.items
    c.fact.ensures c.in_ok-push_line_start.ensures c.in_ok-push_atom.ensures c.in_ok-extend_from_slice.ensures.items
