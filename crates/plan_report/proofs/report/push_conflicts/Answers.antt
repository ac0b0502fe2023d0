use Rattle.std.specs.Prelude.{codes, decimal}
use Rattle.plan_report.proofs.Pushed.{two_numbers}
use Rattle.plan_report.proofs.report.push_conflicts.Goals as goal

pub returns : goal.returns
returns c =
    two_numbers c.args.text.now.items c.extend_from_slice.new.self.items c.push_number.new.text.items c.extend_from_slice-2.new.self.items c.push_number-2.new.text.items c.extend_from_slice-3.new.self.items
    (codes "; conflicts ") (decimal c.args.sum) (codes " of ") (decimal c.args.budget) (codes "\n")
    c.in_ok-extend_from_slice.ensures.items c.in_ok-push_number.ensures c.in_ok-extend_from_slice-2.ensures.items c.in_ok-push_number-2.ensures c.in_ok-extend_from_slice-3.ensures.items
