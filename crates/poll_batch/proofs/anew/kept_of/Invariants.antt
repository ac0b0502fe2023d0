use Rattle.std.proofs.Common.{take}
use Rattle.std.specs.List.{AllByRecursion, AllZip}
use Rattle.poll_batch.specs.Batch.{IsFormed, IsKeptOf}
use Rattle.poll_batch.proofs.anew.kept_of.Given as goal

abbrev pub invariant-loop-race : goal.invariant-loop-race
invariant-loop-race g l = record {
  of : AllZip (IsKeptOf g.F.StepForm) (take l.race-index l.races) l.kept.items;
  formed : AllByRecursion (IsFormed g.F.StepForm) l.kept.items;
}
