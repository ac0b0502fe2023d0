use Rattle.std.proofs.Common.{◌≡◌, ◌++◌, ℕ, List, drop, option_map}
use Rattle.lrat_judge.specs.Follow.{numbers_named}
use Rattle.lrat_judge.proofs.entries.read_hints.Given as goal

-- the numbers so far, and then those of the ids that are left
abbrev pub invariant-loop-id : goal.invariant-loop-id
invariant-loop-id l = numbers_named l.ids l.line.ids.items ≡ option_map (λ (ns : List ℕ). l.hints.items ++ ns) (numbers_named l.ids (drop l.id-index l.line.ids.items))
