use Rattle.std.proofs.Common.{take}
use Rattle.std.specs.List.{AllZip}
use Rattle.poll_batch.specs.Batch.{KeptGives}
use Rattle.poll_batch.proofs.anew.run_anew.Given as goal

abbrev pub invariant-loop-one : goal.invariant-loop-one
invariant-loop-one g l = AllZip (KeptGives g.F.StepForm) (take l.one-index l.kept) l.ends.items
