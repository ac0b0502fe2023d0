use Rattle.std.proofs.Common.{◌≡◌, fold, drop}
use Rattle.containers.specs.Rising.{put}
use Rattle.goal_choice.proofs.literals.Literals.put_all.Given as goal

abbrev pub invariant-loop-lit : goal.invariant-loop-lit
invariant-loop-lit l = record {
  rest : fold put l.initial.self.members l.lits ≡ fold put l.self.members (drop l.lit-index l.lits);
  facts : l.self.facts ≡ l.initial.self.facts;
}
