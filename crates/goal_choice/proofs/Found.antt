-- Supporters by their variables: the least that is found.
use Rattle.std.proofs.Common.{arith, ◌≡◌, ℕ, zero, suc, ◌+◌, ◌≤◌, ◌<◌, List, [], ◌∷◌, ◌++◌, map, length, length-append, get_or, Bool, true, false, Option, Some, None, refl, sym, ap, ◌∙◌, subst, if◌then◌else◌}
use Rattle.std.proofs.lemmas.Bool.Decides.{nat_tests}
use Rattle.std.proofs.Math.ListN.{get_or-map}
use Rattle.std.specs.Prelude.{nat_le}
use Rattle.std.specs.Ordering.{is_le, is_some_and, nat_cmp}
use Rattle.std.specs.List.{AllByRecursion, IsAllAdjacentAnswer}
use Rattle.std.proofs.lemmas.List.Sorted.{non_decreasing_from_is_sorted}
use Rattle.std.specs.List.Sorted.{IsNonDecreasing}
use Rattle.clause_base.specs.Choice.{Known}
use Rattle.formula_defs.specs.Layout.{Layout}
use Rattle.goal_choice.specs.Means.{Supporter, Means}
use Rattle.goal_choice.specs.Walk.{has_value, least_with, lesser}
use Rattle.goal_choice.specs.own.Needs.{supporter_in, supporters_in}
use Rattle.goal_choice.specs.own.Search.{lesser_variable, least_variable, AreMarked}

-- of two variables the first, where it is not greater
lesser_is : (v : ℕ) (o : Option ℕ) → ((w : ℕ) → o ≡ Some w → v ≤ w) → lesser_variable v o ≡ v
lesser_is v None h = refl
lesser_is v (Some w) h = let le : v ≤ w = h w refl in let test : nat_le v w ≡ true = grind (arith, nat_tests) in ap (λ (b : Bool). if b then v else w) test

-- what holds of all variables holds of the least one
abbrev Holds : (ℕ → Type 0) → Option ℕ → Type 0
Holds P None = Unit {0}
Holds P (Some v) = P v

lesser_holds : (P : ℕ → Type 0) (v : ℕ) (o : Option ℕ) → P v → Holds P o → P (lesser_variable v o)
lesser_holds P v None h k = h
lesser_holds P v (Some w) h k = by (nat_le v w)
  where
    by : (b : Bool) → P (if b then v else w)
    by true = h
    by false = k

least_holds : (P : ℕ → Type 0) (values : Known) (value : Option Bool) (start : ℕ) (vs : List ℕ) → AllByRecursion P vs → Holds P (least_variable values value start vs)
least_holds P values value start [] a = tt
least_holds P values value start (v ∷ vs) a = by (has_value values (start + v) value) (least_holds P values value start vs a.1)
  where
    by : (b : Bool) → Holds P (least_variable values value start vs) → Holds P (if b then Some (lesser_variable v (least_variable values value start vs)) else least_variable values value start vs)
    by true h = lesser_holds P v (least_variable values value start vs) a.0 h
    by false h = h

pub least_variable_is : (P : ℕ → Type 0) (values : Known) (value : Option Bool) (start : ℕ) (vs : List ℕ) (v : ℕ) → AllByRecursion P vs → Some v ≡ least_variable values value start vs → P v
least_variable_is P values value start vs v a e = subst (Holds P) (sym e) (least_holds P values value start vs a)

-- each of the numbers behind one that do not fall
rest_above : (v : ℕ) (vs : List ℕ) → ((j : ℕ) (d : ℕ) → j < length vs → v ≤ get_or vs j d) → AllByRecursion (λ w. v ≤ w) vs
rest_above v [] h = tt
rest_above v (w ∷ vs) h = (h 0 0 (omega arith), rest_above v vs (λ j d l. h (suc j) d (omega arith)))

-- the first that is found is the least
pub first_least : (values : Known) (value : Option Bool) (start v : ℕ) (rest : List ℕ) → IsNonDecreasing (v ∷ rest) → has_value values (start + v) value ≡ true → least_variable values value start (v ∷ rest) ≡ Some v
first_least values value start v rest a h =
    let above = rest_above v rest (λ j d l. a 0 (suc j) d (omega arith) (omega arith)) in
    ap (λ (b : Bool). if b then Some (lesser_variable v (least_variable values value start rest)) else least_variable values value start rest) h
    ∙ ap (λ (n : ℕ). Some n) (lesser_is v (least_variable values value start rest) (λ w q. least_variable_is (λ n. v ≤ n) values value start rest w above (sym q)))

-- the supporter of a variable that was found
abbrev pub found : List (List ℕ) → Option ℕ → Option Supporter
found needs None = None
found needs (Some v) = Some (supporter_in needs v)

lesser_found : (needs : List (List ℕ)) (v : ℕ) (o : Option ℕ) → lesser (supporter_in needs v) (found needs o) ≡ Some (supporter_in needs (lesser_variable v o))
lesser_found needs v None = refl
lesser_found needs v (Some w) = by (nat_le v w)
  where
    by : (b : Bool) → (if b then Some (supporter_in needs v) else Some (supporter_in needs w)) ≡ Some (supporter_in needs (if b then v else w))
    by true = refl
    by false = refl

-- the least supporter is that of the least variable
pub least_found : (needs : List (List ℕ)) (values : Known) (value : Option Bool) (start : ℕ) (vs : List ℕ) → least_with values value start (map (supporter_in needs) vs) ≡ found needs (least_variable values value start vs)
least_found needs values value start [] = refl
least_found needs values value start (v ∷ vs) = by (has_value values (start + v) value) (least_found needs values value start vs)
  where
    by : (b : Bool) → least_with values value start (map (supporter_in needs) vs) ≡ found needs (least_variable values value start vs)
        → (if b then lesser (supporter_in needs v) (least_with values value start (map (supporter_in needs) vs)) else least_with values value start (map (supporter_in needs) vs))
        ≡ found needs (if b then Some (lesser_variable v (least_variable values value start vs)) else least_variable values value start vs)
    by true h = ap (lesser (supporter_in needs v)) h ∙ lesser_found needs v (least_variable values value start vs)
    by false h = h

-- what holds of the supporters holds of their variables
pub of_variables : (P : Supporter → Type 0) (needs : List (List ℕ)) (vs : List ℕ) → AllByRecursion P (map (supporter_in needs) vs) → AllByRecursion (λ v. P (supporter_in needs v)) vs
of_variables P needs [] a = tt
of_variables P needs (v ∷ vs) a = (a.0, of_variables P needs vs a.1)

-- the supporters of a literal, by their variables
pub row : (needs variables : List (List ℕ)) (l : ℕ) → get_or (supporters_in needs variables) l [] ≡ map (supporter_in needs) (get_or variables l [])
row needs variables l = get_or-map (map (supporter_in needs)) variables l []

-- one more list with its mark
each_more : (marks : List Bool) (lists : List (List ℕ)) (b : Bool) (ls : List ℕ) → length marks ≡ length lists → ((l : ℕ) → get_or marks l false ≡ true → IsNonDecreasing (get_or lists l [])) → (b ≡ true → IsNonDecreasing ls)
    → (l : ℕ) → get_or (marks ++ b ∷ []) l false ≡ true → IsNonDecreasing (get_or (lists ++ ls ∷ []) l [])
each_more [] [] b ls e a h zero t = h t
each_more [] [] b ls e a h (suc l) t = cc
each_more [] (x ∷ xs) b ls e a h l t = absurd (omega (arith, e))
each_more (m ∷ ms) [] b ls e a h l t = absurd (omega (arith, e))
each_more (m ∷ ms) (x ∷ xs) b ls e a h zero t = a 0 t
each_more (m ∷ ms) (x ∷ xs) b ls e a h (suc l) t = each_more ms xs b ls (omega (arith, e)) (λ k. a (suc k)) h l t

pub marked_more : (marks : List Bool) (lists : List (List ℕ)) (b : Bool) (ls : List ℕ) → AreMarked marks lists → (b ≡ true → IsNonDecreasing ls) → AreMarked (marks ++ b ∷ []) (lists ++ ls ∷ [])
marked_more marks lists b ls a h = record {
  long = let e = a.long in let m = length-append marks (b ∷ []) in let n = length-append lists (ls ∷ []) in omega (arith, e, m, n);
  each = each_more marks lists b ls a.long a.each h;
}

-- what a test of the order of a list says
pub rising_if : (ls : List ℕ) (b : Bool) → IsAllAdjacentAnswer (λ x y t. is_some_and is_le (Some (nat_cmp x y)) ≡ t) ls b → b ≡ true → IsNonDecreasing ls
rising_if ls true h e = non_decreasing_from_is_sorted ls true h
rising_if ls false h e = cc

-- the supporters of a literal, as contracts see them
pub seen_row : (m : Means) (z : Layout) (goal : List ℕ) (needs variables : List (List ℕ)) (l : ℕ) (vs : List ℕ) → (let x : Means = record { layout = z; goal = goal; supporters = supporters_in needs variables } in x) ≡ m → vs ≡ get_or variables l [] → get_or m.supporters l [] ≡ map (supporter_in needs) vs
seen_row m z goal needs variables l vs e v = ap (λ (x : Means). get_or x.supporters l []) (sym e) ∙ row needs variables l ∙ ap (map (supporter_in needs)) (sym v)
