-- What a reader holds.
use Rattle.std.specs.Prelude.{◌≡◌, ℕ, ◌<◌, ◌≤◌, List, [], Option, Some, None, Result, Ok, Err, MatchOption}
use Rattle.never_text.specs.declared.fault.Fault.{Fault}
use Rattle.never_text.specs.declared.kind.Kind.{Kind}
use Rattle.never_text.specs.declared.kind.Kind.TheVariants as kind
use Rattle.never_text.specs.declared.reader.Reader.{Reader}
use Rattle.never_text.specs.Certificate.{Certificate, Nothing, Forward, Backward, Weights, sum_of}

-- what was told, by what the certificate is
abbrev pub told_of : Option Kind → List (List ℕ) → List (ℕ × ℕ) → Certificate
told_of None clauses weights = Nothing
told_of (Some kind.Forward) clauses weights = Forward clauses
told_of (Some kind.Backward) clauses weights = Backward clauses
told_of (Some kind.Weights) clauses weights = Weights weights

-- what a reader holds of it
abbrev pub told_by : Reader → Certificate
told_by reader = told_of reader.kind reader.clauses reader.weights.items

-- an answer is the fault that was to come, or none where this was to come
abbrev pub AnswersTo : Result Certificate Fault → Certificate → Option Fault → Type 0
AnswersTo told new o = MatchOption o (told ≡ Ok new) (λ fault. told ≡ Err fault)

-- nothing is held before it is said what the certificate is, and the sum is that of the weights
pub record IsReader (reader : Reader) : Type 0 where
  pub few : reader.facts ≤ 1073741824
  pub clauses : reader.kind ≡ None → reader.clauses ≡ []
  pub weights : reader.kind ≡ None → reader.weights.items ≡ []
  pub sum : sum_of reader.weights.items ≡ reader.sum
  pub small : reader.sum < 9223372036854775808
