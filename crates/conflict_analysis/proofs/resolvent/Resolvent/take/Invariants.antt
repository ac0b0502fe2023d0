use Rattle.std.proofs.Common.{◌≡◌, ◌≤◌, length}
use Rattle.cdcl_tables.specs.Assignment.{literals}
use Rattle.bit_sets.specs.Layered.{words_have}
use Rattle.conflict_analysis.proofs.Marked.{IsTaken}
use Rattle.conflict_analysis.proofs.resolvent.Resolvent.take.Given as goal

abbrev pub invariant-loop-position : goal.invariant-loop-position
invariant-loop-position l = record {
  within : l.bound ≤ length l.trail.entries;
  size : length l.self-inside.marks.items ≡ length l.initial.self-inside.marks.items;
  room : length l.codes.words ≡ length l.initial.codes.words;
  taken : IsTaken (literals l.trail.entries) (words_have l.self-inside.marks.items) (words_have l.initial.self-inside.marks.items) (words_have l.codes.words) (words_have l.initial.codes.words) l.bound;
}

abbrev pub decreases-loop-position : goal.decreases-loop-position
decreases-loop-position l = l.bound
