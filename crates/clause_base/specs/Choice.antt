use Rattle.std.specs.Prelude.{◌≡◌, ℕ, ◌+◌, ◌/◌, List, [], ◌∷◌, Bool, true, false, All, Option, Some, None, slice_get, IsSome}
use Rattle.std.specs.Bool.{beq}
use Rattle.clause_base.specs.Literal.{literal_of}

-- what is known of each variable: true, false or not given
abbrev pub Known : Type 0
Known = List (Option Bool)

-- no choice exactly where every variable has a value, and else a literal whose variable is one of these and has none
abbrev pub IsOpenChoice : Known → Option ℕ → Type 0
IsOpenChoice values None = All (λ value. IsSome value) values
IsOpenChoice values (Some l) = slice_get values (l / 2) ≡ Some None

-- the least variable without a value, where the first of these variables has number v
abbrev pub least_open_from : ℕ → Known → Option ℕ
least_open_from v [] = None
least_open_from v (None ∷ values) = Some v
least_open_from v (Some b ∷ values) = least_open_from (v + 1) values

-- the least variable without a value
abbrev pub least_open : Known → Option ℕ
least_open values = least_open_from 0 values

-- whether two values are the same
abbrev pub same_value : Option Bool → Option Bool → Bool
same_value None None = true
same_value (Some a) (Some b) = beq a b
same_value a b = false

-- the least variable without a value, made false; the first of these variables has number v
abbrev pub plain_choice_from : ℕ → Known → Option ℕ
plain_choice_from v [] = None
plain_choice_from v (None ∷ values) = Some (literal_of v false)
plain_choice_from v (Some b ∷ values) = plain_choice_from (v + 1) values

-- the least variable without a value, made false
abbrev pub plain_choice : Known → Option ℕ
plain_choice values = plain_choice_from 0 values
