-- The walk from the goals at the last time to the initial state (Rintanen, Artificial Intelligence 193, 2012).
use Rattle.std.specs.Prelude.{ℕ, zero, suc, ◌%◌, ◌/◌, ◌==◌, List, [], ◌∷◌, ◌++◌, Bool, true, false, not, Option, Some, None, if◌then◌else◌, nat_le, fold, slice_get, slice_index_or}
use Rattle.formula_defs.specs.Layout.{Layout, fact_at}
use Rattle.clause_base.specs.Literal.{literal_of}
use Rattle.containers.specs.Rising.{put}
use Rattle.clause_base.specs.Choice.{Known, same_value}
use Rattle.goal_choice.specs.Means.{Supporter, Means, variable_from, start_of}

-- a variable has this value, or where this is none, has none; past the last one there is no variable
abbrev pub is_value : Option (Option Bool) → Option Bool → Bool
is_value None value = false
is_value (Some given) value = same_value given value

-- a variable is known to be so
abbrev pub has_value : Known → ℕ → Option Bool → Bool
has_value values v value = is_value (slice_get values v) value

-- a fact literal is false at a time
abbrev pub is_false_at : Layout → Known → ℕ → ℕ → Bool
is_false_at z values time l = has_value values (fact_at z time (l / 2)) (Some (not (l % 2 == 0)))

-- of two supporters the one with the lesser variable; the first where they have the same
abbrev pub lesser : Supporter → Option Supporter → Option Supporter
lesser s None = Some s
lesser s (Some r) = if nat_le s.variable r.variable then Some s else Some r

-- of the supporters whose variable has a value in the step that begins at a variable, that with the least variable
abbrev pub least_with : Known → Option Bool → ℕ → List Supporter → Option Supporter
least_with values value start [] = None
least_with values value start (s ∷ rest) =
    if has_value values (variable_from start s) value then lesser s (least_with values value start rest) else least_with values value start rest

-- what literals that are wanted after a step ask for: a choice, or that other literals are wanted before the step
pub data Support : Type 0 where
  Chooses : ℕ → Support
  Wants : List ℕ → Support

-- for a literal that no supporter in the step makes true: the choice of this supporter, which is then made true, or else that
-- the literal holds before
abbrev pub support_without : ℕ → ℕ → Option Supporter → Support
support_without start l (Some s) = Chooses (literal_of (variable_from start s) true)
support_without start l None = Wants (l ∷ [])

-- what a literal asks for that is wanted after a step: where a supporter is true, what the least of these needs; else, where the
-- literal is false before the step, the least supporter without a value
abbrev pub support_among : Known → ℕ → Bool → ℕ → List Supporter → Support
support_among values start is_false l supporters =
    elim (least_with values (Some true) start supporters) [
      | Some s ↦ Wants s.needs
      | None ↦ support_without start l (if is_false then least_with values None start supporters else None)
    ]

-- what a wanted literal asks for at a time
abbrev pub support_of : Means → Known → ℕ → ℕ → Support
support_of m values t l = support_among values (start_of m.layout t) (is_false_at m.layout values t l) l (slice_index_or m.supporters l [])

-- of two supports the first choice, or all that they want
abbrev pub both : Support → Support → Support
both (Chooses c) w = Chooses c
both (Wants ks) (Chooses c) = Chooses c
both (Wants ks) (Wants ms) = Wants (ks ++ ms)

-- what literals ask for, in their order
abbrev pub supports : (ℕ → Support) → List ℕ → Support
supports support [] = Wants []
supports support (l ∷ ls) = both (support l) (supports support ls)

-- the walk from a time down to the initial state, where at this time some literals are wanted; what is wanted before a step is
-- looked at in rising order
abbrev pub walk : (ℕ → ℕ → Support) → ℕ → List ℕ → Option ℕ
walk support zero wanted = None
walk support (suc t) wanted = elim (supports (support t) wanted) [ Chooses c ↦ Some c | Wants ls ↦ walk support t (fold put [] ls) ]
