-- Numbers of few digits, by the values of these.
use Rattle.std.specs.Prelude.{ℕ, ◌-◌, ◌+◌, ◌*◌, ◌++◌, List, map, take, fold, replicate}

-- the values of digits, so many from the first on, with zeros before them: eight in all
abbrev pub eight_of : ℕ → List ℕ → List ℕ
eight_of count bytes = replicate (8 - count) 0 ++ map (λ b. b - 48) (take count bytes)

-- the number that digits of these values write
abbrev pub told_by : List ℕ → ℕ
told_by digits = fold (λ n digit. n * 10 + digit) 0 digits
