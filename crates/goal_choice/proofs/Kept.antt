-- What is kept of a walk stands where a value changes, and a step goes on from it.
use Rattle.std.proofs.Common.{arith, ◌≡◌, ℕ, zero, suc, ◌==◌, ◌+◌, ◌-◌, ◌*◌, ◌/◌, ◌%◌, ◌<◌, ◌≤◌, List, [], ◌∷◌, length, set, get_or, replicate, fold, Bool, true, false, Option, Some, None, refl, sym, ap, ◌∙◌, subst, if◌then◌else◌, ◌⊎◌, inl, inr}
use Rattle.std.proofs.lemmas.List.{length-set, length-replicate, get_or-set_same, get_or-set_other, get_or-replicate, get_or_default}
use Rattle.std.proofs.Math.Nat.{mul_comm, div-add-mod, mod-lt}
use Rattle.std.proofs.lemmas.Bool.{cases_eq, cases_lt}
use Rattle.std.specs.Prelude.{not}
use Rattle.std.specs.List.{slice_get, AllByRecursion}
use Rattle.containers.specs.Rising.{put}
use Rattle.clause_base.specs.Choice.{Known, same_value}
use Rattle.formula_defs.specs.Layout.{width, variables, fact_at}
use Rattle.formula_defs.proofs.published.LayoutLaw.{product_le}
use Rattle.goal_choice.specs.Means.{Means, start_of}
use Rattle.goal_choice.specs.Walk.{support_of, supports, walk}
use Rattle.goal_choice.specs.own.Supports.{IsStep}
use Rattle.goal_choice.specs.own.Members.{Literals, AreMeans, no_literals}
use Rattle.goal_choice.specs.own.Kept.{WalkView, IsWalk, IsPassed, IsSameFrom, set_at, walked}
use Rattle.goal_choice.proofs.Steps.{step_goes_on, step_chooses, put_rising}
use Rattle.goal_choice.proofs.Unread.{supports_same, each_literal, passed_elsewhere, passed_false, passed_fact, later_step, no_chain, before_facts, behind_steps, one_fact, made_false}

-- a variable gets a value, and the walk stands down to a time from which on its steps ask for the same
pub seen_on : (w : WalkView) (v low end : ℕ) (value : Option Bool) → IsWalk w → IsSameFrom w v value end → w.low ≤ low → end ≤ low → low ≤ w.means.layout.horizon → IsWalk (record w { seen = set w.seen v value; low = low })
seen_on w v low end value k u h e top = record {
  means = k.means;
  fits = length-set w.seen v value ∙ k.fits;
  long = k.long;
  facts = k.facts;
  low = top;
  goal = k.goal;
  within = λ t a b. k.within t (omega (arith, a, h)) b;
  each = λ t a b. after t b (k.each t (omega (arith, a, h)) b) (u t (omega (arith, a, e)) (omega (arith, a, h)) b);
}
  where
    after : (t : ℕ) → t < w.means.layout.horizon → IsStep (supports (support_of w.means w.seen t) (set_at w.wanted (t + 1)).members) None (set_at w.wanted t).members → AllByRecursion (IsPassed w.means w.seen (set w.seen v value) t) (set_at w.wanted (t + 1)).members → IsStep (supports (support_of w.means (set w.seen v value) t) (set_at w.wanted (t + 1)).members) None (set_at w.wanted t).members
    after t b s p = (s.0, supports_same w.means w.seen (set w.seen v value) t (set_at w.wanted (t + 1)).members s.0 s.1 p ∙ s.1, s.2)

-- the steps ask for the same where each literal of the facts does
same_by : (w : WalkView) (v low : ℕ) (value : Option Bool) → IsWalk w → ((t l : ℕ) → low ≤ t → t < w.means.layout.horizon → l / 2 < w.means.layout.facts → IsPassed w.means w.seen (set w.seen v value) t l) → IsSameFrom w v value low
same_by w v low value i h t a b c = each_literal (IsPassed w.means w.seen (set w.seen v value) t) w.means.layout.facts (set_at w.wanted (t + 1)).members (i.within (t + 1) (omega (arith, b)) (omega (arith, c))) (λ l f. h t l a c f)

-- a variable of a step is looked at by no later step
pub same_behind : (w : WalkView) (v q r : ℕ) (value : Option Bool) → IsWalk w → v < start_of w.means.layout w.means.layout.horizon → v ≡ q * width w.means.layout + r → r < width w.means.layout → IsSameFrom w v value (q + 1)
same_behind w v q r value i h e k = same_by w v (q + 1) value i (λ t l a c f. passed_elsewhere w.means w.seen v t l value i.means (λ j b. later_step w.means.layout v q r t j e k a) (behind_steps w.means.layout v t (l / 2) h))

-- a chain variable by none
pub same_chain : (w : WalkView) (v q r : ℕ) (value : Option Bool) → IsWalk w → v < start_of w.means.layout w.means.layout.horizon → v ≡ q * width w.means.layout + r → r < width w.means.layout → w.means.layout.actions + w.means.layout.conditional ≤ r → IsSameFrom w v value 0
same_chain w v q r value i h e k n = same_by w v 0 value i (λ t l a c f. passed_elsewhere w.means w.seen v t l value i.means (λ j b. no_chain w.means.layout v q r t j e k n b) (behind_steps w.means.layout v t (l / 2) h))

-- where an open variable of a step becomes false
pub same_false : (w : WalkView) (v : ℕ) (value : Option Bool) → IsWalk w → v < start_of w.means.layout w.means.layout.horizon → value ≡ Some false → slice_get w.seen v ≡ Some None → IsSameFrom w v value 0
same_false w v value i h e k = subst (λ (x : Option Bool). IsSameFrom w v x 0) (sym e) (same_by w v 0 (Some false) i (λ t l a c f. passed_false w.means w.seen v t l i.means k (behind_steps w.means.layout v t (l / 2) h)))

-- facts have variables
fact_seen : (w : WalkView) (time fact : ℕ) → IsWalk w → time ≤ w.means.layout.horizon → fact < w.means.layout.facts → fact_at w.means.layout time fact < length w.seen
fact_seen w time fact i h k =
    let fits = i.fits in
    let m = product_le (time + 1) (w.means.layout.horizon + 1) w.means.layout.facts (omega (arith, h)) in
    omega (arith, fits, m, k)

behind : (w : WalkView) (time fact t k : ℕ) → t < w.means.layout.horizon → k < w.means.layout.actions + w.means.layout.conditional → start_of w.means.layout t + k ≡ fact_at w.means.layout time fact → ⊥
behind w time fact t k top b same = before_facts w.means.layout (fact_at w.means.layout time fact) t k (omega arith) top b same

-- a fact at the last time is looked at by none
pub same_last : (w : WalkView) (time fact : ℕ) (value : Option Bool) → IsWalk w → w.means.layout.horizon ≤ time → fact < w.means.layout.facts → IsSameFrom w (fact_at w.means.layout time fact) value 0
same_last w time fact value i h k = same_by w (fact_at w.means.layout time fact) 0 value i (λ t l a c f. passed_elsewhere w.means w.seen (fact_at w.means.layout time fact) t l value i.means (λ j b. behind w time fact t j c b) (λ same. let e = (one_fact w.means.layout time fact t (l / 2) k f same).0 in omega (arith, e, h, c)))

-- a fact at a time by no step from the next time on
pub same_after : (w : WalkView) (time fact : ℕ) (value : Option Bool) → IsWalk w → fact < w.means.layout.facts → IsSameFrom w (fact_at w.means.layout time fact) value (time + 1)
same_after w time fact value i k = same_by w (fact_at w.means.layout time fact) (time + 1) value i (λ t l a c f. passed_elsewhere w.means w.seen (fact_at w.means.layout time fact) t l value i.means (λ j b. behind w time fact t j c b) (λ same. let e = (one_fact w.means.layout time fact t (l / 2) k f same).0 in omega (arith, e, a)))

-- where its value is taken back
pub same_open : (w : WalkView) (time fact : ℕ) (value : Option Bool) → IsWalk w → time ≤ w.means.layout.horizon → fact < w.means.layout.facts → value ≡ None → IsSameFrom w (fact_at w.means.layout time fact) value 0
same_open w time fact value i h k e = subst (λ (x : Option Bool). IsSameFrom w (fact_at w.means.layout time fact) x 0) (sym e) (same_by w (fact_at w.means.layout time fact) 0 None i (λ t l a c f. passed_fact w.means w.seen (fact_at w.means.layout time fact) t l None i.means (λ j b. behind w time fact t j c b) (fact_seen w time fact i h k) (λ same q. none_is_some (not (l % 2 == 0)) q)))
  where
    none_is_some : (b : Bool) → same_value None (Some b) ≡ true → ⊥
    none_is_some b q = cc

-- or makes a literal false that is not wanted
pub same_unwanted : (w : WalkView) (time fact n : ℕ) (value : Option Bool) (given : Bool) → IsWalk w → time < w.means.layout.horizon → fact < w.means.layout.facts → value ≡ Some given → n ≡ (if given then 1 else 0) → AllByRecursion (λ l. l ≡ 2 * fact + n → ⊥) (set_at w.wanted (time + 1)).members → IsSameFrom w (fact_at w.means.layout time fact) value 0
same_unwanted w time fact n value given i h k e m out = subst (λ (x : Option Bool). IsSameFrom w (fact_at w.means.layout time fact) x 0) (sym e) steps
  where
    passed : (t l : ℕ) → t < w.means.layout.horizon → (fact_at w.means.layout t (l / 2) ≡ fact_at w.means.layout time fact → same_value (Some given) (Some (not (l % 2 == 0))) ≡ true → ⊥) → IsPassed w.means w.seen (set w.seen (fact_at w.means.layout time fact) (Some given)) t l
    passed t l c g = passed_fact w.means w.seen (fact_at w.means.layout time fact) t l (Some given) i.means (λ j b. behind w time fact t j c b) (fact_seen w time fact i (omega (arith, h)) k) g

    each_two : (t : ℕ) → t ≡ time → t < w.means.layout.horizon → (ls : List ℕ) → AllByRecursion (λ l. l / 2 < w.means.layout.facts) ls → AllByRecursion (λ l. l ≡ 2 * fact + n → ⊥) ls → AllByRecursion (IsPassed w.means w.seen (set w.seen (fact_at w.means.layout time fact) (Some given)) t) ls
    each_two t q c [] a b = tt
    each_two t q c (l ∷ ls) a b = (passed t l c (λ same false_. b.0 (named l a.0 same false_)), each_two t q c ls a.1 b.1)
      where
        named : (l : ℕ) → l / 2 < w.means.layout.facts → fact_at w.means.layout t (l / 2) ≡ fact_at w.means.layout time fact → same_value (Some given) (Some (not (l % 2 == 0))) ≡ true → l ≡ 2 * fact + n
        named l f same false_ =
            let z = made_false l given n m false_ in
            let y = (one_fact w.means.layout time fact t (l / 2) k f same).1 in
            omega (arith, z, y)

    steps : IsSameFrom w (fact_at w.means.layout time fact) (Some given) 0
    steps t a b c = by (cases_eq t time)
      where
        row : AllByRecursion (λ l. l / 2 < w.means.layout.facts) (set_at w.wanted (t + 1)).members
        row = i.within (t + 1) (omega (arith, b)) (omega (arith, c))

        by : (t ≡ time) ⊎ (t ≡ time → ⊥) → AllByRecursion (IsPassed w.means w.seen (set w.seen (fact_at w.means.layout time fact) (Some given)) t) (set_at w.wanted (t + 1)).members
        by (inl q) = each_two t q c (set_at w.wanted (t + 1)).members row (subst (λ (j : ℕ). AllByRecursion (λ l. l ≡ 2 * fact + n → ⊥) (set_at w.wanted (j + 1)).members) (sym q) out)
        by (inr q) = each_literal (IsPassed w.means w.seen (set w.seen (fact_at w.means.layout time fact) (Some given)) t) w.means.layout.facts (set_at w.wanted (t + 1)).members row (λ l f. passed t l c (λ same false_. q (one_fact w.means.layout time fact t (l / 2) k f same).0))

-- the walk down to a time that is kept
walked_to : (w : WalkView) → IsWalk w → (k t : ℕ) → t + k ≡ w.means.layout.horizon → w.low ≤ t → walked w.means w.seen ≡ walk (support_of w.means w.seen) t (set_at w.wanted t).members
walked_to w i zero t e l =
    let top : t ≡ w.means.layout.horizon = omega (arith, e) in
    ap (walk (support_of w.means w.seen) w.means.layout.horizon) (sym i.goal) ∙ ap (λ (n : ℕ). walk (support_of w.means w.seen) n (set_at w.wanted n).members) (sym top)
walked_to w i (suc k) t e l =
    let next : suc t ≡ t + 1 = omega arith in
    walked_to w i k (suc t) (omega (arith, e)) (omega (arith, l))
    ∙ step_goes_on (support_of w.means w.seen) t (set_at w.wanted (suc t)).members (set_at w.wanted t).members (subst (λ (n : ℕ). IsStep (supports (support_of w.means w.seen t) (set_at w.wanted n).members) None (set_at w.wanted t).members) (sym next) (i.each t l (omega (arith, e))))

pub kept_walk : (w : WalkView) → IsWalk w → walked w.means w.seen ≡ walk (support_of w.means w.seen) w.low (set_at w.wanted w.low).members
kept_walk w i = let l = i.low in walked_to w i (w.means.layout.horizon - w.low) w.low (omega (arith, l)) (omega arith)

-- a step ends the walk with a choice
pub walk_chooses : (w : WalkView) (t c : ℕ) (before : List ℕ) → IsWalk w → t + 1 ≡ w.low → IsStep (supports (support_of w.means w.seen t) (set_at w.wanted w.low).members) (Some c) before → walked w.means w.seen ≡ Some c
walk_chooses w t c before i e s =
    let next : w.low ≡ suc t = omega (arith, e) in
    kept_walk w i
    ∙ ap (λ (n : ℕ). walk (support_of w.means w.seen) n (set_at w.wanted w.low).members) next
    ∙ step_chooses (support_of w.means w.seen) t c (set_at w.wanted w.low).members before s

-- or goes on to the time before it
pub walk_goes_on : (w : WalkView) (t : ℕ) (before : Literals) → IsWalk w → t + 1 ≡ w.low → IsStep (supports (support_of w.means w.seen t) (set_at w.wanted w.low).members) None before.members → before.facts ≡ w.means.layout.facts → AllByRecursion (λ l. l / 2 < w.means.layout.facts) before.members → IsWalk (record w { wanted = set w.wanted t before; low = t })
walk_goes_on w t before i e s f a =
    let top = i.low in
    let long = i.long in
    record {
      means = i.means;
      fits = i.fits;
      long = length-set w.wanted t before ∙ i.long;
      facts = λ j b. at (λ (x : Literals). x.facts ≡ w.means.layout.facts) j (omega (arith, b)) f (λ n. i.facts j b);
      low = omega (arith, top, e);
      goal = ap (λ (x : Literals). x.members) (other w.means.layout.horizon (λ q. omega (arith, q, top, e))) ∙ i.goal;
      within = λ j b c. at (λ (x : Literals). AllByRecursion (λ l. l / 2 < w.means.layout.facts) x.members) j (omega (arith, c)) a (λ n. i.within j (omega (arith, n, b, e)) c);
      each = λ j b c. steps j b c (cases_eq j t);
    }
  where
    other : (j : ℕ) → (j ≡ t → ⊥) → set_at (set w.wanted t before) j ≡ set_at w.wanted j
    other j n = get_or-set_other w.wanted t j before (no_literals 0) n

    same : set_at (set w.wanted t before) t ≡ before
    same = let long = i.long in let top = i.low in get_or-set_same w.wanted t before (no_literals 0) (omega (arith, long, top, e))

    at : (P : Literals → Type 0) (j : ℕ) → j ≤ w.means.layout.horizon → P before → ((j ≡ t → ⊥) → P (set_at w.wanted j)) → P (set_at (set w.wanted t before) j)
    at P j b h k = by (cases_eq j t)
      where
        by : (j ≡ t) ⊎ (j ≡ t → ⊥) → P (set_at (set w.wanted t before) j)
        by (inl q) = subst (λ (n : ℕ). P (set_at (set w.wanted t before) n)) (sym q) (subst P (sym same) h)
        by (inr q) = subst P (sym (other j q)) (k q)

    IsKept : ℕ → Literals → Literals → Type 0
    IsKept j x y = IsStep (supports (support_of w.means w.seen j) x.members) None y.members

    steps : (j : ℕ) → t ≤ j → j < w.means.layout.horizon → (j ≡ t) ⊎ (j ≡ t → ⊥) → IsKept j (set_at (set w.wanted t before) (j + 1)) (set_at (set w.wanted t before) j)
    steps j b c (inl q) =
        let next : w.low ≡ t + 1 = sym e in
        let first : IsKept t (set_at w.wanted (t + 1)) before = subst (λ (n : ℕ). IsKept t (set_at w.wanted n) before) next s in
        let second : IsKept t (set_at (set w.wanted t before) (t + 1)) (set_at (set w.wanted t before) t) = subst (λ (x : Literals). IsKept t x (set_at (set w.wanted t before) t)) (sym (other (t + 1) (λ z. omega (arith, z)))) (subst (IsKept t (set_at w.wanted (t + 1))) (sym same) first) in
        subst (λ (n : ℕ). IsKept n (set_at (set w.wanted t before) (n + 1)) (set_at (set w.wanted t before) n)) (sym q) second
    steps j b c (inr q) =
        subst (λ (x : Literals). IsKept j x (set_at (set w.wanted t before) j)) (sym (other (j + 1) (λ z. omega (arith, z, b)))) (subst (IsKept j (set_at w.wanted (j + 1))) (sym (other j q)) (i.each j (omega (arith, b, q, e)) c))

-- at the first time there is no choice
pub walk_ends : (w : WalkView) → IsWalk w → w.low ≡ 0 → walked w.means w.seen ≡ None
walk_ends w i e = kept_walk w i ∙ ap (λ (n : ℕ). walk (support_of w.means w.seen) n (set_at w.wanted w.low).members) e

-- before the first step the goal is wanted
pub new_walk : (m : Means) (seen : Known) (sets : List Literals) (goal : Literals) → AreMeans m → length seen ≡ variables m.layout → sets ≡ set (replicate (m.layout.horizon + 1) (no_literals m.layout.facts)) m.layout.horizon goal → goal.facts ≡ m.layout.facts → goal.members ≡ m.goal → IsWalk (record { means = m; seen = seen; wanted = sets; low = m.layout.horizon })
new_walk m seen sets goal a f e g h = record {
  means = a;
  fits = f;
  long = ap (λ (x : List Literals). length x) e ∙ length-set (replicate (m.layout.horizon + 1) (no_literals m.layout.facts)) m.layout.horizon goal ∙ length-replicate (m.layout.horizon + 1) (no_literals m.layout.facts);
  facts = λ t b. subst (λ (x : List Literals). (set_at x t).facts ≡ m.layout.facts) (sym e) (facts t b (cases_eq t m.layout.horizon));
  low = omega arith;
  goal = ap (λ (x : Literals). x.members) last ∙ h;
  within = λ t b c. let q : m.layout.horizon ≡ t = omega (arith, b, c) in subst (λ (k : ℕ). AllByRecursion (λ l. l / 2 < m.layout.facts) (set_at sets k).members) q (subst (AllByRecursion (λ l. l / 2 < m.layout.facts)) (sym (ap (λ (x : Literals). x.members) last ∙ h)) a.goal);
  each = λ t b c. absurd (omega (arith, b, c));
}
  where
    long_enough : m.layout.horizon < length (replicate (m.layout.horizon + 1) (no_literals m.layout.facts))
    long_enough = let l = length-replicate (m.layout.horizon + 1) (no_literals m.layout.facts) in omega (arith, l)

    last : set_at sets m.layout.horizon ≡ goal
    last = ap (λ (x : List Literals). set_at x m.layout.horizon) e ∙ get_or-set_same (replicate (m.layout.horizon + 1) (no_literals m.layout.facts)) m.layout.horizon goal (no_literals 0) long_enough

    facts : (t : ℕ) → t ≤ m.layout.horizon → (t ≡ m.layout.horizon) ⊎ (t ≡ m.layout.horizon → ⊥) → (set_at (set (replicate (m.layout.horizon + 1) (no_literals m.layout.facts)) m.layout.horizon goal) t).facts ≡ m.layout.facts
    facts t b (inl q) = ap (λ (k : ℕ). (set_at (set (replicate (m.layout.horizon + 1) (no_literals m.layout.facts)) m.layout.horizon goal) k).facts) q ∙ ap (λ (x : Literals). x.facts) (get_or-set_same (replicate (m.layout.horizon + 1) (no_literals m.layout.facts)) m.layout.horizon goal (no_literals 0) long_enough) ∙ g
    facts t b (inr q) = ap (λ (x : Literals). x.facts) (get_or-set_other (replicate (m.layout.horizon + 1) (no_literals m.layout.facts)) m.layout.horizon t goal (no_literals 0) q ∙ get_or-replicate (m.layout.horizon + 1) t (no_literals m.layout.facts) (no_literals 0) (omega (arith, b)))

row_is : (m : Means) (seen : Known) (sets : List Literals) (low : ℕ) (row : Literals) → IsWalk (record { means = m; seen = seen; wanted = sets; low = low }) → row ≡ get_or sets low row → row ≡ set_at sets low
row_is m seen sets low row i e = let long = i.long in let top = i.low in e ∙ get_or_default sets low row (no_literals 0) (omega (arith, long, top))

pub chooses : (m : Means) (seen : Known) (sets : List Literals) (low c : ℕ) (row before : Literals) (w : WalkView) → (let x : WalkView = record { means = m; seen = seen; wanted = sets; low = low } in x) ≡ w → IsWalk (record { means = m; seen = seen; wanted = sets; low = low }) → 0 < low → row ≡ get_or sets low row → IsStep (supports (support_of m seen (low - 1)) row.members) (Some c) before.members → walked w.means w.seen ≡ Some c
chooses m seen sets low c row before w e i h r s =
    subst (λ (x : WalkView). walked x.means x.seen ≡ Some c) e
    (walk_chooses (record { means = m; seen = seen; wanted = sets; low = low }) (low - 1) c before.members i (omega (arith, h)) (subst (λ (x : Literals). IsStep (supports (support_of m seen (low - 1)) x.members) (Some c) before.members) (row_is m seen sets low row i r) s))

pub goes_on : (m : Means) (seen : Known) (sets : List Literals) (low : ℕ) (row before after x : Literals) → IsWalk (record { means = m; seen = seen; wanted = sets; low = low }) → 0 < low → row ≡ get_or sets low row → IsStep (supports (support_of m seen (low - 1)) row.members) None after.members → x ≡ after → after.facts ≡ before.facts → before.facts ≡ m.layout.facts → AllByRecursion (λ l. l / 2 < after.facts) after.members → IsWalk (record { means = m; seen = seen; wanted = set sets (low - 1) x; low = low - 1 })
goes_on m seen sets low row before after x i h r s e f g a =
    let facts : x.facts ≡ m.layout.facts = ap (λ (y : Literals). y.facts) e ∙ f ∙ g in
    walk_goes_on (record { means = m; seen = seen; wanted = sets; low = low }) (low - 1) x i (omega (arith, h))
    (subst (λ (y : Literals). IsStep (supports (support_of m seen (low - 1)) (set_at sets low).members) None y.members) (sym e) (subst (λ (y : Literals). IsStep (supports (support_of m seen (low - 1)) y.members) None after.members) (row_is m seen sets low row i r) s))
    facts
    (subst (λ (n : ℕ). AllByRecursion (λ l. l / 2 < n) x.members) facts (subst (λ (y : Literals). AllByRecursion (λ l. l / 2 < y.facts) y.members) (sym e) a))

pub other_facts : (m : Means) (seen : Known) (sets : List Literals) (low : ℕ) (y old : Literals) → IsWalk (record { means = m; seen = seen; wanted = sets; low = low }) → 0 < low → y ≡ old → old ≡ get_or sets (low - 1) old → y.facts ≡ m.layout.facts
other_facts m seen sets low y old i h e r =
    let long = i.long in
    let top = i.low in
    ap (λ (x : Literals). x.facts) (e ∙ r ∙ get_or_default sets (low - 1) old (no_literals 0) (omega (arith, long, top))) ∙ i.facts (low - 1) (omega (arith, top))

-- what stands from a time on that the walk has not come below
pub same_low : (w : WalkView) (v low : ℕ) (value : Option Bool) → IsSameFrom w v value low → low ≤ w.low → IsSameFrom w v value 0
same_low w v low value h le t a b c = h t (omega (arith, le, b)) b c

-- a place among steps of so many variables
pub placed : (v w : ℕ) → 0 < w → (v ≡ v / w * w + v % w) × (v % w < w)
placed v w h = let m = mul_comm w (v / w) in (omega (arith, div-add-mod v w, m), mod-lt v h)

pub has_width : (v h w : ℕ) → v < h * w → 0 < w
has_width v h zero l = absurd (omega (arith, l))
has_width v h (suc w) l = omega arith

pub step_chain : (w : WalkView) (v n steps : ℕ) (value : Option Bool) → IsWalk w → steps ≡ start_of w.means.layout w.means.layout.horizon → v < steps → n ≡ width w.means.layout → w.means.layout.actions + w.means.layout.conditional ≤ v % n → IsSameFrom w v value 0
step_chain w v n steps value i s h e k =
    let less : v < start_of w.means.layout w.means.layout.horizon = omega (arith, s, h) in
    let p = placed v (width w.means.layout) (has_width v w.means.layout.horizon (width w.means.layout) less) in
    same_chain w v (v / width w.means.layout) (v % width w.means.layout) value i less p.0 p.1 (subst (λ (x : ℕ). w.means.layout.actions + w.means.layout.conditional ≤ v % x) e k)

pub step_behind : (w : WalkView) (v n steps : ℕ) (value : Option Bool) → IsWalk w → steps ≡ start_of w.means.layout w.means.layout.horizon → v < steps → n ≡ width w.means.layout → IsSameFrom w v value (v / n + 1)
step_behind w v n steps value i s h e =
    let less : v < start_of w.means.layout w.means.layout.horizon = omega (arith, s, h) in
    let p = placed v (width w.means.layout) (has_width v w.means.layout.horizon (width w.means.layout) less) in
    subst (λ (x : ℕ). IsSameFrom w v value (v / x + 1)) (sym e) (same_behind w v (v / width w.means.layout) (v % width w.means.layout) value i less p.0 p.1)

-- a variable of a step that the walk has not come to
pub step_below : (w : WalkView) (v steps first : ℕ) (value : Option Bool) → IsWalk w → steps ≡ start_of w.means.layout w.means.layout.horizon → v < steps → first ≡ start_of w.means.layout w.low → v < first → IsSameFrom w v value 0
step_below w v steps first value i s h f k = same_low w v (v / width w.means.layout + 1) value (step_behind w v (width w.means.layout) steps value i s h refl) (by (cases_lt (v / width w.means.layout) w.low))
  where
    by : (v / width w.means.layout < w.low) ⊎ (w.low ≤ v / width w.means.layout) → v / width w.means.layout + 1 ≤ w.low
    by (inl l) = omega (arith, l)
    by (inr l) =
        let less : v < start_of w.means.layout w.low = omega (arith, f, k) in
        let p = placed v (width w.means.layout) (has_width v w.low (width w.means.layout) less) in
        let m = product_le w.low (v / width w.means.layout) (width w.means.layout) l in
        let q = p.0 in
        absurd (omega (arith, m, q, less))

pub step_false : (w : WalkView) (v steps : ℕ) (value : Option Bool) → IsWalk w → steps ≡ start_of w.means.layout w.means.layout.horizon → v < steps → value ≡ Some false → slice_get w.seen v ≡ Some None → IsSameFrom w v value 0
step_false w v steps value i s h e k = same_false w v value i (omega (arith, s, h)) e k

-- what is kept before the first step
pub begun : (m : Means) (seen : Known) (items : List Literals) (h facts : ℕ) (place goal : Literals) (ls : List ℕ) → AreMeans m → h ≡ m.layout.horizon → facts ≡ m.layout.facts → length seen ≡ variables m.layout → items ≡ replicate (h + 1) (no_literals facts) → place ≡ get_or items h place → goal ≡ record place { members = fold put place.members ls } → ls ≡ m.goal → IsWalk (record { means = m; seen = seen; wanted = set items h goal; low = h })
begun m seen items h facts place goal ls a e f n k p g l =
    subst (λ (x : ℕ). IsWalk (record { means = m; seen = seen; wanted = set items x goal; low = x })) (sym e)
    (new_walk m seen (set items m.layout.horizon goal) goal a n
    (ap (λ (x : List Literals). set x m.layout.horizon goal) (k ∙ ap (λ (x : ℕ). replicate (x + 1) (no_literals facts)) e ∙ ap (λ (x : ℕ). replicate (m.layout.horizon + 1) (no_literals x)) f))
    (ap (λ (x : Literals). x.facts) g ∙ ap (λ (x : Literals). x.facts) empty ∙ f)
    (ap (λ (x : Literals). x.members) g ∙ ap (λ (x : Literals). fold put x.members ls) empty ∙ ap (λ (xs : List ℕ). fold put [] xs) l ∙ put_rising m.goal a.rising))
  where
    empty : place ≡ no_literals facts
    empty =
        p ∙ ap (λ (x : List Literals). get_or x h place) k ∙ get_or-replicate (h + 1) h (no_literals facts) place (omega arith)
