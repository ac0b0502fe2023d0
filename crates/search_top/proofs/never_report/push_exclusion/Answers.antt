use Rattle.std.proofs.Common.{codes}
use Rattle.search_top.specs.Hopeless.{hopeless_text}
use Rattle.search_top.proofs.Lines.{pushed_three}
use Rattle.search_top.proofs.never_report.push_exclusion.Goals as goal

pub returns-in_ok-extend_from_slice-in-Hopeless-2 : goal.returns-in_ok-extend_from_slice-in-Hopeless-2
returns-in_ok-extend_from_slice-in-Hopeless-2 c =
    rw c.in-Hopeless.is
    (pushed_three c.args.text.now.items (codes "; no plan of any length: goal ") (hopeless_text c.args.p.now c.args.g.now c.args.p.now.goal) (codes " is never true") c.extend_from_slice-in-Hopeless.new.self.items c.push_hopeless.new.text.items c.extend_from_slice-in-Hopeless-2.new.self.items
    c.in_ok-extend_from_slice-in-Hopeless.ensures.items c.in_ok-push_hopeless-in-Hopeless.ensures c.in_ok-extend_from_slice-in-Hopeless-2.ensures.items)
