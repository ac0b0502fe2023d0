use Rattle.std.proofs.Common.{◌≡◌, ℕ, List, take}
use Rattle.pd_words.specs.Names.{number_of}
use Rattle.pd_plan.specs.own.Names.{looked_up}
use Rattle.pd_plan.proofs.names.NameNumbers.of_schemas.Given as goal
use Rattle.pd_model.specs.Names.{schema_names}

abbrev pub invariant-loop-i : goal.invariant-loop-i
invariant-loop-i l = (name : List ℕ) → looked_up l.numbers name ≡ number_of name (schema_names (take l.i l.schemas))
