use Rattle.std.proofs.Common.{◌≡◌, drop}
use Rattle.pd_words.specs.Names.{or_else, variable_number}
use Rattle.pd_words.proofs.scope.Scope.number.Given as goal

abbrev pub invariant-loop-level : goal.invariant-loop-level
invariant-loop-level l = or_else (variable_number l.name l.first (drop l.level-index l.level-items)) l.found ≡ variable_number l.name 0 l.level-items
