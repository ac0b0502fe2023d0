-- An entry of a log where it stands.
use Rattle.std.specs.Prelude.{ℕ, List}
use Rattle.clause_base.specs.Clause.{IsClause}
use Rattle.clause_base.specs.declared.log.Entry.{Entry}
use Rattle.clause_base.specs.declared.log.Entry.TheVariants as entry
use Rattle.proof_log.specs.declared.reader.Step.{Step}
use Rattle.proof_log.specs.declared.reader.Step.TheVariants.{Learn, Drop}
use Rattle.proof_log.specs.declared.reader.Kind.{Kind}
use Rattle.proof_log.specs.declared.reader.Kind.TheVariants as kind

-- the entry
abbrev pub told : Step → Entry
told (Learn clause hints) = entry.Learn clause hints
told (Drop number) = entry.Drop number

-- its literals are a clause
abbrev pub IsLawful : Step → Type 0
IsLawful (Learn clause hints) = IsClause clause
IsLawful (Drop number) = Unit {0}

-- the entry that does this, with these literals and these hints if it learns a clause
abbrev pub told_by : Kind → List ℕ → List ℕ → Entry
told_by kind.Learn clause hints = entry.Learn clause hints
told_by (kind.Drop number) clause hints = entry.Drop number

-- the literals are a clause, if it learns one
abbrev pub IsLawfulBy : Kind → List ℕ → Type 0
IsLawfulBy kind.Learn clause = IsClause clause
IsLawfulBy (kind.Drop number) clause = Unit {0}
