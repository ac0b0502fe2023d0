use Rattle.std.specs.Prelude.{ℕ, ◌/◌, ◌<◌}
use Rattle.clause_base.specs.Derivation.{Effect as Meaning, Conflicts as conflicts, Forces as forces, Loose as loose}
use Rattle.rup_check.specs.declared.effect.Effect.{Effect}
use Rattle.rup_check.specs.declared.effect.Effect.TheVariants.{Conflicts, Forces, Loose}

-- what the checker's effect says, in the words of derivations
abbrev pub meaning : Effect → Meaning
meaning Conflicts = conflicts
meaning (Forces l) = forces l
meaning Loose = loose

-- a forced literal's variable is below a number
abbrev pub ForcesBelow : ℕ → Effect → Type 0
ForcesBelow n Conflicts = Unit {0}
ForcesBelow n (Forces l) = l / 2 < n
ForcesBelow n Loose = Unit {0}
