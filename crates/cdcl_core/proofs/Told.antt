-- What the chooser of a solver was told: the values of the literals on a trail, and what stays as the trail changes.
use Rattle.std.proofs.Common.{arith, ◌≡◌, ◌==◌, ℕ, zero, suc, ◌+◌, ◌*◌, ◌/◌, ◌%◌, ◌<◌, List, [], ◌∷◌, ◌++◌, length, take, get_or, min, reverse, Bool, true, false, ◌||◌, Option, Some, None, refl, sym, ap, ◌∙◌, subst, if◌then◌else◌, ◌⊎◌, inl, inr, Result, Ok, Err, OnOk, OnErr}
use Rattle.std.proofs.lemmas.Bool.{cases_eq}
use Rattle.std.proofs.lemmas.Bool.Decides.{nat_tests}
use Rattle.std.proofs.lemmas.List.{take-take, take-append-le, map-append, length-append, length-map, get_or-map}
use Rattle.std.proofs.Math.Seq.{take-suc}
use Rattle.clause_base.specs.Told.{told_value, told_from, told_values}
use Rattle.clause_base.specs.Literal.{opposite}
use Rattle.cdcl_defs.specs.declared.trail.Assigned.{Assigned}
use Rattle.cdcl_defs.specs.declared.event.Event.{Event}
use Rattle.cdcl_defs.specs.declared.event.Event.TheVariants.{Conflict, Force, Decide, Finish}
use Rattle.cdcl_defs.specs.State.{State, is_on, value_of, values_from, values_of}
use Rattle.cdcl_defs.specs.Learn.{backtracked, backjump_level, learned}
use Rattle.cdcl_defs.specs.Run.{apply, trail_after, is_restart, is_conflict}
use Rattle.cdcl_defs.specs.Trail.{IsTrail}
use Rattle.cdcl_defs.proofs.published.Trails.{trail_apart, is_on-reverse, backtracked_is}
use Rattle.cdcl_core.specs.own.Search.{SearchView}
use Rattle.cdcl_tables.specs.Assignment.{literals}
use Rattle.cdcl_core.specs.own.Told.{IsToldUpTo}

-- no literal of a variable is on a trail together with its opposite
abbrev IsApart : List Assigned → ℕ → Type 0
IsApart trail v = is_on trail (2 * v) ≡ true → is_on trail (2 * v + 1) ≡ true → ⊥

later : (b c : Bool) → c ≡ true → (b || c) ≡ true
later true true e = refl
later true false e = refl
later false c e = e

-- what the first literal of a variable says is what the trail says of it
value_same : (trail : List Assigned) (v : ℕ) → IsApart trail v → told_value (literals trail) v ≡ value_of trail v
value_same [] v h = refl
value_same (a ∷ trail) v h =
    by (cases_eq (a.literal / 2) v) (cases_eq (a.literal % 2) 0) (value_same trail v (λ e f. h (later (a.literal == 2 * v) (is_on trail (2 * v)) e) (later (a.literal == 2 * v + 1) (is_on trail (2 * v + 1)) f)))
  where
    odd : (b : Bool) → is_on trail (2 * v) ≡ b → a.literal ≡ 2 * v + 1 → is_on trail (2 * v) ≡ false
    odd true e q = let f : (a.literal == 2 * v + 1) ≡ true = grind (arith, nat_tests) in absurd (h (later (a.literal == 2 * v) (is_on trail (2 * v)) e) (rw f refl))
    odd false e q = e

    by : (a.literal / 2 ≡ v) ⊎ (a.literal / 2 ≡ v → ⊥) → (a.literal % 2 ≡ 0) ⊎ (a.literal % 2 ≡ 0 → ⊥) → told_value (literals trail) v ≡ value_of trail v → told_value (literals (a ∷ trail)) v ≡ value_of (a ∷ trail) v
    by (inl q) (inl e) r =
        let x : a.literal ≡ 2 * v = omega (arith, q, e) in
        let s : (a.literal / 2 == v) ≡ true = grind (arith, nat_tests) in
        let t : (a.literal % 2 == 0) ≡ true = grind (arith, nat_tests) in
        let u : (a.literal == 2 * v) ≡ true = grind (arith, nat_tests) in
        rw (s, t, u) refl
    by (inl q) (inr d) r =
        let x : a.literal ≡ 2 * v + 1 = omega (arith, q, d) in
        let s : (a.literal / 2 == v) ≡ true = grind (arith, nat_tests) in
        let t : (a.literal % 2 == 0) ≡ false = grind (arith, nat_tests) in
        let u : (a.literal == 2 * v) ≡ false = grind (arith, nat_tests) in
        let w : (a.literal == 2 * v + 1) ≡ true = grind (arith, nat_tests) in
        let y = odd (is_on trail (2 * v)) refl x in
        rw (s, t, u, w, y) refl
    by (inr d) o r =
        let s : (a.literal / 2 == v) ≡ false = grind (arith, nat_tests) in
        let u : (a.literal == 2 * v) ≡ false = grind (arith, nat_tests) in
        let w : (a.literal == 2 * v + 1) ≡ false = grind (arith, nat_tests) in
        rw (s, u, w) r

from_same : (trail : List Assigned) (v n : ℕ) → ((w : ℕ) → told_value (literals trail) w ≡ value_of trail w) → told_from (literals trail) v n ≡ values_from trail v n
from_same trail v zero h = refl
from_same trail v (suc n) h = let here = h v in let rest = from_same trail (v + 1) n h in cc

-- so are the values of all variables
pub told_are_values : (named : ℕ → Option (List ℕ)) (n : ℕ) (trail : List Assigned) → IsTrail named (reverse trail) → told_values n (literals trail) ≡ values_of n trail
told_are_values named n trail t = from_same trail 0 n (λ v. value_same trail v (apart v))
  where
    apart : (v : ℕ) → IsApart trail v
    apart v e f =
        let o : opposite (2 * v) ≡ 2 * v + 1 = grind arith in
        trail_apart named (reverse trail) (2 * v) t (is_on-reverse trail (2 * v) ∙ e) (ap (is_on (reverse trail)) o ∙ is_on-reverse trail (2 * v + 1) ∙ f)

-- What was told stands as the trail grows.
grown : (knows : List ℕ → Type 0) (kept : ℕ) (trail rest : List Assigned) → IsToldUpTo knows kept trail → IsToldUpTo knows kept (trail ++ rest)
grown knows kept trail rest i =
    let w = i.within in
    let long = length-append trail rest in
    record {
      told = i.told;
      known = i.known;
      within = omega (arith, w, long);
      same = i.same ∙ sym (ap (take kept) (map-append (λ (a : Assigned). a.literal) trail rest) ∙ take-append-le kept (literals trail) (literals rest) (let l = length-map trail (λ (a : Assigned). a.literal) in omega (arith, l, w)));
    }

-- and as it goes back
shrunk : (knows : List ℕ → Type 0) (kept : ℕ) (trail rest : List Assigned) → IsToldUpTo knows kept (trail ++ rest) → IsToldUpTo knows (min kept (length trail)) trail
shrunk knows kept trail rest i =
    let k = min kept (length trail) in
    record {
      told = i.told;
      known = i.known;
      within = omega arith;
      same =
          sym (take-take (min kept (length trail)) kept i.told (omega arith))
          ∙ ap (take (min kept (length trail))) i.same
          ∙ take-take (min kept (length trail)) kept (literals (trail ++ rest)) (omega arith)
          ∙ ap (take (min kept (length trail))) (map-append (λ (a : Assigned). a.literal) trail rest)
          ∙ take-append-le (min kept (length trail)) (literals trail) (literals rest) (let l = length-map trail (λ (a : Assigned). a.literal) in omega (arith, l));
    }

same_length : (knows : List ℕ → Type 0) (kept : ℕ) (trail : List Assigned) → IsToldUpTo knows kept trail → IsToldUpTo knows (min kept (length trail)) trail
same_length knows kept trail i = let w = i.within in let m : min kept (length trail) ≡ kept = omega (arith, w) in subst (λ (k : ℕ). IsToldUpTo knows k trail) (sym m) i

gone_back : (knows : List ℕ → Type 0) (kept : ℕ) (s : State) (clause : List ℕ) → IsToldUpTo knows kept s.trail → IsToldUpTo knows (min kept (length (trail_after s clause))) (trail_after s clause)
gone_back knows kept s clause i = by (length clause == 0) (if is_restart s then 0 else backjump_level s.trail clause)
  where
    by : (b : Bool) (level : ℕ) → IsToldUpTo knows (min kept (length (if b then s.trail else backtracked level s.trail))) (if b then s.trail else backtracked level s.trail)
    by true level = same_length knows kept s.trail i
    by false level = let r = backtracked_is level s.trail in shrunk knows kept (backtracked level s.trail) r.0 (subst (IsToldUpTo knows kept) r.1 i)

-- what was told stands after an event: only a conflict takes literals back
abbrev pub kept_after : Event → ℕ → ℕ → ℕ
kept_after e kept length = if is_conflict e then min kept length else kept

told_after : (knows : List ℕ → Type 0) (kept : ℕ) (s : State) (e : Event) → IsToldUpTo knows kept s.trail → IsToldUpTo knows (kept_after e kept (length (apply s e).trail)) (apply s e).trail
told_after knows kept s (Conflict n) i = gone_back knows kept s (learned s.clauses s.trail n).clause i
told_after knows kept s (Force l n) i = grown knows kept s.trail (record { literal = l; reason = Some n } ∷ []) i
told_after knows kept s (Decide l) i = grown knows kept s.trail (record { literal = l; reason = None } ∷ []) i
told_after knows kept s Finish i = i

-- and after what an event leaves, where there was memory
pub told_on : {T E : Type 0} → (knows : List ℕ → Type 0) (kept now : ℕ) (e : Event) (old new : SearchView) (r : Result T E) → OnOk r (new ≡ record old { state = apply old.state e }) → OnErr r (new.spoilt ≡ true) → now ≡ kept_after e kept (length new.state.trail)
    → (old.spoilt ≡ false → IsToldUpTo knows kept old.state.trail) → new.spoilt ≡ false → IsToldUpTo knows now new.state.trail
told_on knows kept now e old new (Ok x) ok err m h sane =
    let s : old.spoilt ≡ false = sym (ap (λ (v : SearchView). v.spoilt) ok) ∙ sane in
    let t : apply old.state e ≡ new.state = sym (ap (λ (v : SearchView). v.state) ok) in
    subst (λ (k : ℕ). IsToldUpTo knows k new.state.trail) (sym m) (subst (λ (x : State). IsToldUpTo knows (kept_after e kept (length x.trail)) x.trail) t (told_after knows kept old.state e (h s)))
told_on knows kept now e old new (Err x) ok err m h sane = let z : true ≡ false = sym err ∙ sane in cc

-- one more literal on a trail
pub next_told : (trail : List Assigned) (i : ℕ) (a : Assigned) → i < length trail → a ≡ get_or trail i a → take (i + 1) (literals trail) ≡ take i (literals trail) ++ a.literal ∷ []
next_told trail i a h e =
    let s : i + 1 ≡ suc i = omega arith in
    let long = length-map trail (λ (b : Assigned). b.literal) in
    let at : get_or (literals trail) i a.literal ≡ a.literal = get_or-map (λ (b : Assigned). b.literal) trail i a a.literal h ∙ ap (λ (b : Assigned). b.literal) (sym e) in
    ap (λ (k : ℕ). take k (literals trail)) s ∙ take-suc (literals trail) i a.literal (omega (arith, long, h)) ∙ ap (λ (x : ℕ). take i (literals trail) ++ x ∷ []) at
