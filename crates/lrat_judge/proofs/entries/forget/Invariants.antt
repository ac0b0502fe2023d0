use Rattle.std.proofs.Common.{◌≡◌, List, drop, length}
use Rattle.clause_base.specs.declared.log.Entry.{Entry}
use Rattle.rup_check.specs.Taken.{HasTaken}
use Rattle.lrat_judge.specs.Judged.{HasCounted, counted}
use Rattle.lrat_judge.specs.Follow.{without}
use Rattle.lrat_judge.proofs.entries.forget.Given as goal

-- the formula is the same, the entries so far are counted, and what is to be dropped after them is what was to be dropped at first
abbrev pub invariant-loop-id : goal.invariant-loop-id
invariant-loop-id l = record {
  formula : l.checker.formula ≡ l.initial.checker.formula;
  has : HasCounted l.checker l.entries;
  exact : (log : List Entry) → HasTaken l.initial.checker log → l.initial.entries ≡ counted (length log)
      → (so_far : List Entry) × HasTaken l.checker so_far × (l.entries ≡ counted (length so_far))
      × (without l.initial.checker.formula l.ids l.line.ids.items log ≡ without l.initial.checker.formula l.ids (drop l.id-index l.line.ids.items) so_far);
}
