-- What a reading says of a text.
use Rattle.std.specs.Prelude.{◌≡◌, ℕ, ◌*◌, ◌<◌, ◌≤◌, List, Result, Ok, Err, length}
use Rattle.std.specs.List.{AllByRecursion}
use Rattle.containers.specs.Limits.{certificate_bytes}
use Rattle.never_text.specs.declared.fault.Fault.{Fault}
use Rattle.never_text.specs.declared.read.Reading.{Reading}
use Rattle.never_text.specs.declared.read.Reading.TheVariants as reading
use Rattle.never_text.specs.Certificate.{Certificate, Forward, Backward, Weights, sum_of}

-- it is what the text is
abbrev pub IsReading : Reading → Result Certificate (ℕ × Fault) → Type 0
IsReading (reading.Forward clauses) told = told ≡ Ok (Forward clauses)
IsReading (reading.Backward clauses) told = told ≡ Ok (Backward clauses)
IsReading (reading.Weights weights) told = told ≡ Ok (Weights weights.items)
IsReading (reading.Faulty at fault) told = told ≡ Err (at, fault)

-- clauses over so many facts, which are not too many
pub record AreClauses (facts : ℕ) (clauses : List (List ℕ)) : Type 0 where
  pub few : length clauses ≤ certificate_bytes
  pub over : AllByRecursion (AllByRecursion (λ l. l < 2 * facts)) clauses

-- weights of literals of so many facts, whose sum is below 2 ^ 63
pub record AreWeighted (facts : ℕ) (weights : List (ℕ × ℕ)) : Type 0 where
  pub over : AllByRecursion (λ w. w.0 < 2 * facts) weights
  pub sum : sum_of weights < 9223372036854775808

-- what the checks ask for
abbrev pub IsUsable : ℕ → Reading → Type 0
IsUsable facts (reading.Forward clauses) = AreClauses facts clauses
IsUsable facts (reading.Backward clauses) = AreClauses facts clauses
IsUsable facts (reading.Weights weights) = AreWeighted facts weights.items
IsUsable facts (reading.Faulty at fault) = Unit {0}
