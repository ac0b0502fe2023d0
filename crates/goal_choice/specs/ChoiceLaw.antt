-- The choice is open, whatever the supporters are.
use Rattle.std.proofs.Common.{arith, ◌≡◌, ℕ, zero, suc, ◌*◌, ◌/◌, List, [], ◌∷◌, Bool, true, false, Option, Some, None, if◌then◌else◌, fold, nat_le, refl, ap, ◌∙◌, slice_index_or}
use Rattle.std.specs.List.{slice_get}
use Rattle.containers.specs.Rising.{put}
use Rattle.clause_base.specs.Choice.{Known, IsOpenChoice}
use Rattle.clause_base.specs.ChoiceLaw.{plain_choice-open}
use Rattle.goal_choice.specs.Means.{Supporter, Means, variable_from, start_of}
use Rattle.goal_choice.specs.Walk.{is_value, has_value, is_false_at, lesser, least_with, Support, Chooses, Wants, support_without, support_of, both, supports, walk}
use Rattle.goal_choice.specs.Choice.{or_plain, choice_by}

-- a choice, where there is one, is of a variable without a value
abbrev IsOpen : Known → Option ℕ → Type 0
IsOpen values None = Unit {0}
IsOpen values (Some c) = slice_get values (c / 2) ≡ Some None

-- a support that is a decision decides a variable without a value
abbrev IsOpenSupport : Known → Support → Type 0
IsOpenSupport values (Chooses c) = slice_get values (c / 2) ≡ Some None
IsOpenSupport values (Wants ls) = Unit {0}

-- the variable of a supporter that was found has no value
abbrev IsOpenSupporter : Known → ℕ → Option Supporter → Type 0
IsOpenSupporter values start None = Unit {0}
IsOpenSupporter values start (Some s) = slice_get values (variable_from start s) ≡ Some None

no_value : (o : Option (Option Bool)) → is_value o None ≡ true → o ≡ Some None
no_value None e = cc
no_value (Some None) e = refl
no_value (Some (Some b)) e = cc

lesser_open : (values : Known) (start : ℕ) (s : Supporter) (o : Option Supporter) → slice_get values (variable_from start s) ≡ Some None → IsOpenSupporter values start o → IsOpenSupporter values start (lesser s o)
lesser_open values start s None h k = h
lesser_open values start s (Some r) h k = by (nat_le s.variable r.variable)
  where
    by : (b : Bool) → IsOpenSupporter values start (if b then Some s else Some r)
    by true = h
    by false = k

least_open : (values : Known) (start : ℕ) (ss : List Supporter) → IsOpenSupporter values start (least_with values None start ss)
least_open values start [] = tt
least_open values start (s ∷ ss) = by (has_value values (variable_from start s) None) refl (least_open values start ss)
  where
    by : (b : Bool) → has_value values (variable_from start s) None ≡ b → IsOpenSupporter values start (least_with values None start ss) → IsOpenSupporter values start (if b then lesser s (least_with values None start ss) else least_with values None start ss)
    by true e h = lesser_open values start s (least_with values None start ss) (no_value (slice_get values (variable_from start s)) e) h
    by false e h = h

without_open : (values : Known) (start l : ℕ) (o : Option Supporter) → IsOpenSupporter values start o → IsOpenSupport values (support_without start l o)
without_open values start l None h = tt
without_open values start l (Some s) h = let e : (2 * variable_from start s) / 2 ≡ variable_from start s = omega arith in ap (slice_get values) e ∙ h

among_open : (values : Known) (start : ℕ) (f : Bool) (l : ℕ) (ss : List Supporter) (o : Option Supporter) → IsOpenSupport values (elim o [ Some s ↦ Wants s.needs | None ↦ support_without start l (if f then least_with values None start ss else None) ])
among_open values start f l ss (Some s) = tt
among_open values start true l ss None = without_open values start l (least_with values None start ss) (least_open values start ss)
among_open values start false l ss None = tt

both_open : (values : Known) (v w : Support) → IsOpenSupport values v → IsOpenSupport values w → IsOpenSupport values (both v w)
both_open values (Chooses c) w h k = h
both_open values (Wants ks) (Chooses c) h k = k
both_open values (Wants ks) (Wants ms) h k = tt

supports_open : (values : Known) (support : ℕ → Support) → ((l : ℕ) → IsOpenSupport values (support l)) → (ls : List ℕ) → IsOpenSupport values (supports support ls)
supports_open values support h [] = tt
supports_open values support h (l ∷ ls) = both_open values (support l) (supports support ls) (h l) (supports_open values support h ls)

walk_open : (values : Known) (support : ℕ → ℕ → Support) → ((t l : ℕ) → IsOpenSupport values (support t l)) → (t : ℕ) (wanted : List ℕ) → IsOpen values (walk support t wanted)
walk_open values support h zero wanted = tt
walk_open values support h (suc t) wanted = by (supports (support t) wanted) (supports_open values (support t) (h t) wanted) (λ ls. walk_open values support h t (fold put [] ls))
  where
    by : (w : Support) → IsOpenSupport values w → ((ls : List ℕ) → IsOpen values (walk support t (fold put [] ls))) → IsOpen values (elim w [ Chooses c ↦ Some c | Wants ls ↦ walk support t (fold put [] ls) ])
    by (Chooses c) k on = k
    by (Wants ls) k on = on ls

or_open : (values : Known) (o : Option ℕ) → IsOpen values o → IsOpenChoice values (or_plain values o)
or_open values None h = plain_choice-open values
or_open values (Some c) h = h

-- the law: what the choice decides is a variable without a value
pub choice-open : (m : Means) (values : Known) → IsOpenChoice values (choice_by m values)
choice-open m values =
    or_open values (walk (support_of m values) m.layout.horizon m.goal) (walk_open values (support_of m values) (λ t l. one_open t l) m.layout.horizon m.goal)
  where
    one_open : (t l : ℕ) → IsOpenSupport values (support_of m values t l)
    one_open t l =
        let ss = slice_index_or m.supporters l [] in
        among_open values (start_of m.layout t) (is_false_at m.layout values t l) l ss (least_with values (Some true) (start_of m.layout t) ss)
