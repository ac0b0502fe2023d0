-- What a check of clauses is given.
use Rattle.std.specs.Prelude.{◌≡◌, ◌*◌, ◌≤◌, [], true, length}
use Rattle.std.specs.List.{AllByRecursion}
use Rattle.containers.specs.Limits.{certificate_bytes}
use Rattle.gt_core.specs.Clauses.{IsKnownClauses}
use Rattle.gt_core.specs.Lawful.{is_task}
use Rattle.never_check.specs.Follow.{AreBelow}
use Rattle.never_check.specs.Rules.{AreRules}
use Rattle.never_check.specs.declared.given.Given.{Given}
use Rattle.never_check.specs.declared.rules.Rules.{Rules}

-- a lawful task, its known clauses, and clauses over its facts
pub record AreGiven (given : Given) : Type 0 where
  pub lawful : is_task given.task.now ≡ true
  pub facts : given.known.now.facts ≡ given.task.now.facts
  pub known : IsKnownClauses given.known.now
  pub few : length given.clauses.now ≤ certificate_bytes
  pub over : AllByRecursion (AreBelow (2 * given.task.now.facts)) given.clauses.now

-- the same, with rules of the known clauses alone
pub record AreGivenPlain (plain : Rules) (given : Given) : Type 0 where
  pub rules : AreRules plain
  pub none : plain.clauses.now ≡ []
  pub lawful : is_task given.task.now ≡ true
  pub facts : plain.known.now.facts ≡ given.task.now.facts
  pub few : length given.clauses.now ≤ certificate_bytes
  pub over : AllByRecursion (AreBelow (2 * given.task.now.facts)) given.clauses.now
