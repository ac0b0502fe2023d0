use Rattle.std.proofs.Common.{◌<◌, length}
use Rattle.conflict_analysis.proofs.Sought.{IsSought}
use Rattle.conflict_analysis.proofs.latest.latest.Given as goal

-- what is marked before the bound is in the words below, or among the bits that are left of this one
abbrev pub invariant-loop-word : goal.invariant-loop-word
invariant-loop-word l = record {
  inside : l.place < length l.words;
  sought : IsSought l.words l.bound l.place l.word;
}

abbrev pub decreases-loop-word : goal.decreases-loop-word
decreases-loop-word l = l.place
