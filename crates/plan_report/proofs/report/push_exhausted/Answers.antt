use Rattle.std.specs.Prelude.{codes, decimal}
use Rattle.plan_report.proofs.Pushed.{one_number}
use Rattle.plan_report.proofs.report.push_exhausted.Goals as goal

pub returns : goal.returns
returns c =
    one_number c.args.text.now.items c.extend_from_slice.new.self.items c.push_number.new.text.items c.extend_from_slice-2.new.self.items
    (codes "; exhausted at horizon ") (decimal c.args.horizon) (codes "\n")
    c.in_ok-extend_from_slice.ensures.items (rw c.from.ensures at c.in_ok-push_number.ensures) c.in_ok-extend_from_slice-2.ensures.items
