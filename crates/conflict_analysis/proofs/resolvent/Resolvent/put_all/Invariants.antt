use Rattle.std.proofs.Common.{◌≡◌, drop, fold}
use Rattle.containers.specs.Rising.{put}
use Rattle.conflict_analysis.specs.own.Resolvent.{literals, seen, AreMarks}
use Rattle.conflict_analysis.proofs.resolvent.Resolvent.put_all.Given as goal

abbrev pub invariant-loop-place : goal.invariant-loop-place
invariant-loop-place l = record {
  over : AreMarks l.trail l.self;
  rest : fold put (literals (seen l.trail l.initial.self)) l.lits ≡ fold put (literals (seen l.trail l.self)) (drop l.place l.lits);
}
