-- Where the entry stands that made a literal false, and where the current level begins.
use Rattle.std.proofs.Common.{arith, ◌≡◌, ltb, ℕ, ◌+◌, ◌-◌, ◌/◌, ◌<◌, List, length, take, get_or, true, sym, ap, ◌∙◌, subst, refl}
use Rattle.std.specs.Prelude.{nat_le}
use Rattle.std.proofs.lemmas.Bool.Decides.{nat_tests}
use Rattle.clause_base.specs.Literal.{opposite}
use Rattle.cdcl_defs.specs.declared.trail.Assigned.{Assigned}
use Rattle.cdcl_defs.specs.State.{is_on, decision_count}
use Rattle.cdcl_defs.specs.Learn.{level_of}
use Rattle.cdcl_defs.proofs.published.Tests.{same_test}
use Rattle.cdcl_tables.specs.Assignment.{literals}
use Rattle.cdcl_tables.specs.Mirrored.{TrailView, IsLookedUp, IsPlaced, IsStart, AreApart, starts_from}
use Rattle.cdcl_tables.proofs.published.Assignments.{has_is, place_in}
use Rattle.cdcl_tables.proofs.published.Levels.{decisions_of, is_last}
use Rattle.cdcl_tables.proofs.published.Mirrors.{half_opposite, on_below, level_by}

-- the position of a false literal is that of the entry that made it so, and tells its level
abbrev pub IsFound : TrailView → ℕ → ℕ → Type 0
IsFound w l p = (l / 2 < w.variables) × (p < length w.entries) × (get_or (literals w.entries) p 0 ≡ opposite l) × (decision_count (take (p + 1) w.entries) ≡ level_of w.entries l)

found : (n v l : ℕ) (es : List Assigned) (positions : List ℕ) (start : ℕ) → IsLookedUp n es positions start → is_on es (opposite l) ≡ true → v ≡ l / 2
    → IsFound (record { variables = n; entries = es }) l (get_or positions v 0)
found n v l es positions start m on half =
    let h = on_below n es m.below (opposite l) on in
    let b : l / 2 < n = omega (arith, h, half_opposite l) in
    let place : get_or positions (l / 2) 0 ≡ get_or positions v 0 = ap (λ (v : ℕ). get_or positions v 0) (sym half) in
    let same : get_or positions (opposite l / 2) 0 ≡ get_or positions v 0 = ap (λ (v : ℕ). get_or positions v 0) (half_opposite l) ∙ place in
    let at = level_by n es positions l m.placed on in
    let w = place_in n (literals es) positions (opposite l) m.placed (has_is es (opposite l) ∙ on) in (
      b,
      subst (λ (p : ℕ). p < length es) place at.0,
      subst (λ (p : ℕ). get_or (literals es) p 0 ≡ opposite l) same w.1,
      subst (λ (p : ℕ). decision_count (take (p + 1) es) ≡ level_of es l) place at.1,
    )

pub found_view : (n v l : ℕ) (es : List Assigned) (positions : List ℕ) (start : ℕ) (w : TrailView) → IsLookedUp n es positions start
    → (let x : TrailView = record { variables = n; entries = es } in x) ≡ w → is_on w.entries (opposite l) ≡ true → v ≡ l / 2
    → IsFound w l (get_or positions v 0)
found_view n v l es positions start w m view on half =
    let here : is_on es (opposite l) ≡ true = ap (λ (w : TrailView). is_on w.entries (opposite l)) view ∙ on in
    subst (λ (w : TrailView). IsFound w l (get_or positions v 0)) view (found n v l es positions start m here half)

-- two positions of one literal are one, since its variable has one
pub placed_apart : (n : ℕ) (trail positions : List ℕ) → IsPlaced n trail positions → AreApart trail
placed_apart n trail positions m i j h k e = sym (m.positions_are i h) ∙ ap (λ (x : ℕ). get_or positions (x / 2) 0) e ∙ m.positions_are j k

le_is_lt : (a b : ℕ) → nat_le a b ≡ ltb a (b + 1)
le_is_lt a b = grind (arith, nat_tests)

-- without a decision all entries are of the current level
pub start_none : (es : List Assigned) → decision_count es ≡ 0 → IsStart es 0
start_none es none p h =
    let few = decisions_of (p + 1) es in
    let low : nat_le 0 p ≡ true = grind (arith, nat_tests) in
    low ∙ sym (same_test (decision_count (take (p + 1) es)) (decision_count es) (omega (arith, none, few)))

-- else those from the last decision on
pub start_last : (es : List Assigned) (last : ℕ) → 0 < length (starts_from 0 es) → last ≡ get_or (starts_from 0 es) (length (starts_from 0 es) - 1) 0 → IsStart es last
start_last es last some e p h = le_is_lt last p ∙ is_last (p + 1) last (decision_count (take (p + 1) es)) es some e refl
