-- What the calls of a shelf and of a sink leave behind.
use Rattle.std.specs.Prelude.{◌≡◌, ◌<◌, ◌≤◌, ◌⊎◌, ◌+◌, ◌-◌, ◌^◌, ℕ, List, [], ◌∷◌, ◌++◌, length, take, min, count_by}
use Rattle.std.specs.Prelude.{Bool, true, false, IsTrue, Option, Some, None, IfSome, option_map, Result, OnErr}
use Rattle.std.specs.List.{AllByRecursion}
use Rattle.std.specs.Str.{bytes_eq}

-- the list of faults is as it was, or has this name once more, at its end
abbrev pub Notes : List (List ℕ) → List (List ℕ) → List ℕ → Type 0
Notes old new name = (new ≡ old) ⊎ (new ≡ old ++ name ∷ [])

-- the count of faults for a name: how often it stands in the list
abbrev pub fault_count : List ℕ → List (List ℕ) → ℕ
fault_count name faults = count_by (bytes_eq name) faults

-- the count of faults for this name rose
abbrev pub FaultRose : List ℕ → List (List ℕ) → List (List ℕ) → Type 0
FaultRose name old new = fault_count name old < fault_count name new

-- some bytes, or none, were appended
abbrev pub Took : List ℕ → List ℕ → Type 0
Took old new = (bytes : List ℕ) × (new ≡ old ++ bytes)

-- the file has at most so many bytes, and all of them were appended
abbrev pub TookWhole : ℕ → List ℕ → List ℕ → List ℕ → Type 0
TookWhole most old new file = (length file ≤ most) × (new ≡ old ++ file)

-- the file has more bytes than these, and so many of its first ones were appended
abbrev pub TookFirst : ℕ → List ℕ → List ℕ → List ℕ → Type 0
TookFirst most old new file = (most < length file) × (new ≡ old ++ take most file)

-- what a shelf handed over: the name, whether it was all of the file, and the bytes
abbrev pub Heard : Type 0
Heard = List ℕ × (Bool × List ℕ)

-- all of a file was handed over under its name
abbrev pub whole : List ℕ → List ℕ → Heard
whole name bytes = (name, (true, bytes))

-- some bytes were appended, and what was handed over is what it was, followed by them under this name
abbrev pub Hears : Bool → List Heard → List Heard → List ℕ → List ℕ → List ℕ → Type 0
Hears whole old new name before after = (bytes : List ℕ) × (after ≡ before ++ bytes) × (new ≡ old ++ (name, (whole, bytes)) ∷ [])

-- the bytes are the file's, all of it, or a front and not all
abbrev pub IsSo : List ℕ → Bool → List ℕ → Type 0
IsSo file true bytes = bytes ≡ file
IsSo file false bytes = (length bytes < length file) × (bytes ≡ take (length bytes) file)

-- what was handed over is what is told of its name, where that is told, and the name is not told to be missing
abbrev pub IsAsTold : (List ℕ → Option (List ℕ)) → (List ℕ → Bool) → Heard → Type 0
IsAsTold told lacks heard = (IsTrue (lacks heard.0) → ⊥) × IfSome (told heard.0) (λ file. IsSo file heard.1.0 heard.1.1)

-- what was handed over is what it was, and maybe more, each as it is told
abbrev pub Agrees : (List ℕ → Option (List ℕ)) → (List ℕ → Bool) → List Heard → List Heard → Type 0
Agrees told lacks old new = (took : List Heard) × (new ≡ old ++ took) × AllByRecursion (IsAsTold told lacks) took

-- what a sink has taken once it took these bytes too, where it tells that
abbrev pub appended : Option (List ℕ) → List ℕ → Option (List ℕ)
appended old bytes = option_map (λ before. before ++ bytes) old

-- some front of the text was taken, where the sink tells that
abbrev pub TakesFront : Option (List ℕ) → Option (List ℕ) → List ℕ → Type 0
TakesFront old new text = (count : ℕ) × (count ≤ length text) × (new ≡ appended old (take count text))

-- the count rose, or stands at its last value
abbrev pub Rose : ℕ → ℕ → Type 0
Rose before now = min (before + 1) (2 ^ 64 - 1) ≤ now

-- the count never falls, and an error comes only where it rose or stands at its last value
pub record HasCause {T E : Type 0} (before now : ℕ) (result : Result T E) : Type 0 where
  pub later : before ≤ now
  pub failed : OnErr result (Rose before now)
