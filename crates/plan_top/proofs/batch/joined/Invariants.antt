use Rattle.std.proofs.Common.{◌≡◌, ◌+◌, ◌++◌, List, length}
use Rattle.plan_endings.specs.Growing.{Has}
use Rattle.plan_endings.specs.declared.ending.Ending.{Ending}
use Rattle.plan_top.specs.own.Parts.{open_in, woven}
use Rattle.plan_top.proofs.batch.joined.Given as goal

abbrev pub invariant-loop-end : goal.invariant-loop-end
invariant-loop-end l = record {
  enough : open_in l.end-iterator.rest.items ≡ length l.others.items;
  woven : (parts : List Ending) × Has l.batch parts × (woven l.fn.ended.items l.fn.others.items ≡ parts ++ woven l.end-iterator.rest.items l.others.items) × (length parts + length l.end-iterator.rest.items ≡ length l.fn.ended.items);
}
