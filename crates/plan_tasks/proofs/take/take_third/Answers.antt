use Rattle.std.proofs.Common.{[]}
use Rattle.plan_endings.proofs.published.Stopped.{Stops-handed}
use Rattle.plan_tasks.specs.Limits.{file_in}
use Rattle.plan_tasks.specs.Files.{IsKept, IsWhole, Stops}
use Rattle.plan_tasks.proofs.published.Taking.{one_ends}
use Rattle.plan_tasks.proofs.take.take_third.Goals as goal

pub returns-in_err-read-in-Some-clause-ends : goal.returns-in_err-read-in-Some-clause-ends
returns-in_err-read-in-Some-clause-ends g c before rises =
    rw c.in-Some.is (Stops-handed _ _ (λ end h. (h.0, h.1, one_ends (Stops before (g.S.Shelf.failed c.read.new.shelf)) (IsKept IsWhole) (file_in c.args.file) 2 c.in-Some.name.now [] h.0 end h.2)) c.in_err-read-in-Some.field-0.0 c.from_residual.result c.from_residual.ensures.1 (c.in_err-read-in-Some.ensures.ends before rises))
