-- What is kept of a walk stands where one more literal is told, and where the last one is taken back.
use Rattle.std.proofs.Common.{arith, ◌≡◌, ◌==◌, ℕ, suc, ◌-◌, ◌/◌, ◌%◌, ◌<◌, ◌≤◌, List, [], ◌∷◌, ◌++◌, length, take, set, get_or, Bool, false, Option, Some, None, refl, sym, ap, ◌∙◌, subst}
use Rattle.std.specs.Prelude.{max}
use Rattle.std.proofs.lemmas.List.Elements.{All-append, All-take, All-nil, All-cons, All-get_or}
use Rattle.std.proofs.Math.Seq.{take-suc}
use Rattle.std.proofs.lemmas.List.{take_all}
use Rattle.clause_base.specs.Choice.{Known}
use Rattle.clause_base.specs.Told.{told_value, told_values}
use Rattle.clause_base.proofs.published.ToldLemmas.{told_same, told_set, more_elsewhere, more_given, more_open}
use Rattle.formula_defs.specs.Layout.{variables}
use Rattle.goal_choice.specs.own.Kept.{WalkView, IsWalk, IsSameFrom}
use Rattle.goal_choice.specs.own.Told.{ToldView, IsTold, walk_of}
use Rattle.goal_choice.proofs.Kept.{seen_on}

-- a walk that came down to a time came down to each later one
pub raised : (w : WalkView) (low : ℕ) → IsWalk w → w.low ≤ low → low ≤ w.means.layout.horizon → IsWalk (record w { low = low })
raised w low k h top = record {
  means = k.means;
  fits = k.fits;
  long = k.long;
  facts = k.facts;
  low = top;
  goal = k.goal;
  within = λ t a b. k.within t (omega (arith, a, h)) b;
  each = λ t a b. k.each t (omega (arith, a, h)) b;
}

-- one more literal is told
pub told_more : (v : ToldView) (l low end : ℕ) → IsWalk (walk_of v) → l / 2 < variables v.means.layout → ((Some (l % 2 == 0) ≡ Some false → told_value v.told (l / 2) ≡ None) → IsSameFrom (walk_of v) (l / 2) (Some (l % 2 == 0)) end) → v.low ≤ low → end ≤ low → low ≤ v.means.layout.horizon
    → IsWalk (walk_of (record v { told = v.told ++ l ∷ []; low = low }))
told_more v l low end i below u a b top = by (told_value v.told (l / 2)) refl
  where
    by : (o : Option Bool) → told_value v.told (l / 2) ≡ o → IsWalk (walk_of (record v { told = v.told ++ l ∷ []; low = low }))
    by None e =
        let n = variables v.means.layout in
        let s : told_values n (v.told ++ l ∷ []) ≡ set (told_values n v.told) (l / 2) (Some (l % 2 == 0)) =
        told_set n (l / 2) (v.told ++ l ∷ []) v.told (λ w d. more_elsewhere v.told l w d) below ∙ ap (set (told_values n v.told) (l / 2)) (more_open v.told l e) in
        subst (λ (x : Known). IsWalk (record { means = v.means; seen = x; wanted = v.wanted; low = low })) (sym s) (seen_on (walk_of v) (l / 2) low end (Some (l % 2 == 0)) i (u (λ _. e)) a b top)
    by (Some x) e =
        subst (λ (x : Known). IsWalk (record { means = v.means; seen = x; wanted = v.wanted; low = low })) (sym (told_same (variables v.means.layout) (v.told ++ l ∷ []) v.told (more_given v.told l x e))) (raised (walk_of v) low i a top)

-- the last one is taken back
pub told_less : (v : ToldView) (ls : List ℕ) (l low end : ℕ) → v.told ≡ ls ++ l ∷ [] → IsWalk (walk_of v) → l / 2 < variables v.means.layout → IsSameFrom (walk_of v) (l / 2) None end → v.low ≤ low → end ≤ low → low ≤ v.means.layout.horizon
    → IsWalk (walk_of (record v { told = ls; low = low }))
told_less v ls l low end is i below u a b top = by (told_value ls (l / 2)) refl
  where
    by : (o : Option Bool) → told_value ls (l / 2) ≡ o → IsWalk (walk_of (record v { told = ls; low = low }))
    by None e =
        let n = variables v.means.layout in
        let s : told_values n ls ≡ set (told_values n v.told) (l / 2) None =
        told_set n (l / 2) ls (ls ++ l ∷ []) (λ w d. sym (more_elsewhere ls l w d)) below ∙ ap (set (told_values n (ls ++ l ∷ [])) (l / 2)) e ∙ ap (λ (ks : List ℕ). set (told_values n ks) (l / 2) None) (sym is) in
        subst (λ (x : Known). IsWalk (record { means = v.means; seen = x; wanted = v.wanted; low = low })) (sym s) (seen_on (walk_of v) (l / 2) low end None i u a b top)
    by (Some x) e =
        let n = variables v.means.layout in
        let s : told_values n ls ≡ told_values n v.told = sym (told_same n (ls ++ l ∷ []) ls (more_given ls l x e)) ∙ ap (told_values n) (sym is) in
        subst (λ (x : Known). IsWalk (record { means = v.means; seen = x; wanted = v.wanted; low = low })) (sym s) (raised (walk_of v) low i a top)

-- the same by what is kept
pub tell_keeps : (v w : ToldView) (l x low end facts room capacity : ℕ) (b : Bool) (own : List ℕ) → v ≡ w → IsTold v facts room → x ≡ l / 2 → b ≡ (l % 2 == 0) → ((Some b ≡ Some false → told_value w.told x ≡ None) → IsSameFrom (walk_of w) x (Some b) end) → low ≡ max v.low end → end ≤ v.means.layout.horizon → l / 2 < variables v.means.layout → own ≡ v.told ++ l ∷ [] → room ≤ capacity
    → IsTold (record v { told = own; low = low }) facts capacity
tell_keeps v w l x low end facts room capacity b own e i is positive u m top below o c =
    let u1 = subst (λ (z : ToldView). (Some b ≡ Some false → told_value z.told x ≡ None) → IsSameFrom (walk_of z) x (Some b) end) (sym e) u in
    let u2 = subst (λ (y : ℕ). (Some b ≡ Some false → told_value v.told y ≡ None) → IsSameFrom (walk_of v) y (Some b) end) is u1 in
    let u3 = subst (λ (y : Bool). (Some y ≡ Some false → told_value v.told (l / 2) ≡ None) → IsSameFrom (walk_of v) (l / 2) (Some y) end) positive u2 in
    let r = i.room in
    let t = i.walk.low in
    subst (λ (ks : List ℕ). IsTold (record v { told = ks; low = low }) facts capacity) (sym o) (record {
      walk = told_more v l low end i.walk below u3 (omega (arith, m)) (omega (arith, m)) (omega (arith, m, top, t));
      below = All-append (λ k. k / 2 < variables v.means.layout) v.told (l ∷ []) i.below (All-cons (λ k. k / 2 < variables v.means.layout) l [] below (All-nil (λ k. k / 2 < variables v.means.layout)));
      room = omega (arith, r, c);
      before = i.before;
    })

-- all but the last literal, and that one
last_is : (ls : List ℕ) (l : ℕ) → 0 < length ls → l ≡ get_or ls (length ls - 1) l → ls ≡ take (length ls - 1) ls ++ l ∷ []
last_is ls l h e =
    sym (take_all (suc (length ls - 1)) ls (omega (arith, h)))
    ∙ take-suc ls (length ls - 1) l (omega (arith, h))
    ∙ ap (λ (x : ℕ). take (length ls - 1) ls ++ x ∷ []) (sym e)

pub take_back_keeps : (v w : ToldView) (l x low end last facts room capacity : ℕ) (own : List ℕ) → v ≡ w → IsTold v facts room → 0 < length v.told → last ≡ length v.told - 1 → l ≡ get_or v.told last l → x ≡ l / 2 → ((None ≡ Some false → told_value w.told x ≡ None) → IsSameFrom (walk_of w) x None end) → low ≡ max v.low end → end ≤ v.means.layout.horizon → own ≡ take last v.told → room ≤ capacity
    → IsTold (record v { told = own; low = low }) facts capacity
take_back_keeps v w l x low end last facts room capacity own e i some at at_last is u m top o c =
    let n = length v.told - 1 in
    let here : l ≡ get_or v.told (length v.told - 1) l = at_last ∙ ap (λ (k : ℕ). get_or v.told k l) at in
    let below : l / 2 < variables v.means.layout = subst (λ (k : ℕ). k / 2 < variables v.means.layout) (sym here) (All-get_or (λ k. k / 2 < variables v.means.layout) v.told (length v.told - 1) l (omega (arith, some)) i.below) in
    let u1 = subst (λ (z : ToldView). (None ≡ Some false → told_value z.told x ≡ None) → IsSameFrom (walk_of z) x None end) (sym e) u in
    let u2 = subst (λ (y : ℕ). IsSameFrom (walk_of v) y None end) is (u1 (λ q. cc)) in
    let r = i.room in
    let t = i.walk.low in
    subst (λ (ks : List ℕ). IsTold (record v { told = ks; low = low }) facts capacity) (sym (o ∙ ap (λ (k : ℕ). take k v.told) at)) (record {
      walk = told_less v (take (length v.told - 1) v.told) l low end (last_is v.told l some here) i.walk below u2 (omega (arith, m)) (omega (arith, m)) (omega (arith, m, top, t));
      below = All-take (λ k. k / 2 < variables v.means.layout) (length v.told - 1) v.told i.below;
      room = omega (arith, r, c);
      before = i.before;
    })
