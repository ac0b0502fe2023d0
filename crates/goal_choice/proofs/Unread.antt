-- A step that the walk went over asks for the same, though a value has changed.
use Rattle.std.proofs.Common.{arith, ◌≡◌, ◌==◌, ℕ, zero, suc, ◌+◌, ◌*◌, ◌/◌, ◌%◌, ◌<◌, ◌≤◌, List, [], ◌∷◌, length, set, Bool, true, false, Option, Some, None, if◌then◌else◌, nat_le, refl, sym, ap, ◌∙◌, ◌⊎◌, inl, inr}
use Rattle.std.proofs.lemmas.Bool.{cases_lt, cases_eq}
use Rattle.std.proofs.lemmas.Bool.Decides.{nat_tests}
use Rattle.std.proofs.lemmas.Option.{slice_get_within}
use Rattle.std.specs.Prelude.{slice_index_or, not}
use Rattle.std.specs.List.{slice_get, AllByRecursion}
use Rattle.clause_base.specs.Choice.{Known, same_value}
use Rattle.formula_defs.specs.Layout.{Layout, width, fact_at}
use Rattle.formula_defs.proofs.published.LayoutLaw.{product_le}
use Rattle.goal_choice.specs.Means.{Supporter, Means, variable_from, start_of}
use Rattle.goal_choice.specs.Walk.{Support, Chooses, Wants, has_value, is_value, is_false_at, lesser, least_with, support_without, support_of, both, supports}
use Rattle.goal_choice.specs.own.Members.{IsWithin, AreMeans}
use Rattle.goal_choice.specs.own.Kept.{IsPassed}

-- another variable keeps its value
pub get_other : (values : Known) (v w : ℕ) (value : Option Bool) → (w ≡ v → ⊥) → slice_get (set values v value) w ≡ slice_get values w
get_other [] v w value h = refl
get_other (x ∷ values) zero zero value h = absurd (h refl)
get_other (x ∷ values) zero (suc w) value h = refl
get_other (x ∷ values) (suc v) zero value h = refl
get_other (x ∷ values) (suc v) (suc w) value h = get_other values v w value (λ e. h (ap suc e))

-- and one that is set has its new one
pub get_set : (values : Known) (v : ℕ) (value : Option Bool) → v < length values → slice_get (set values v value) v ≡ Some value
get_set [] v value h = absurd (omega arith)
get_set (y ∷ values) zero value h = refl
get_set (y ∷ values) (suc v) value h = get_set values v value (omega (arith, h))

value_same : (values : Known) (v w : ℕ) (value asked : Option Bool) → (w ≡ v → ⊥) → has_value (set values v value) w asked ≡ has_value values w asked
value_same values v w value asked h = ap (λ (o : Option (Option Bool)). is_value o asked) (get_other values v w value h)

-- Where the same supporters are true, the least one is the same.
least_held : (before after : Known) (start : ℕ) (asked : Option Bool) (ss : List Supporter) → AllByRecursion (λ s. has_value after (variable_from start s) asked ≡ has_value before (variable_from start s) asked) ss → least_with after asked start ss ≡ least_with before asked start ss
least_held before after start asked [] a = refl
least_held before after start asked (s ∷ ss) a =
    ap (λ (b : Bool). if b then lesser s (least_with after asked start ss) else least_with after asked start ss) a.0
    ∙ ap (λ (o : Option Supporter). if has_value before (variable_from start s) asked then lesser s o else o) (least_held before after start asked ss a.1)

lesser_some : (s : Supporter) (o : Option Supporter) → lesser s o ≡ None → ⊥
lesser_some s None e = cc
lesser_some s (Some r) e = by (nat_le s.variable r.variable) e
  where
    by : (b : Bool) → (if b then Some s else Some r) ≡ None → ⊥
    by true e = cc
    by false e = cc

-- Where none was open and none has become so, none is.
least_unset : (before after : Known) (start : ℕ) (asked : Option Bool) (ss : List Supporter) → AllByRecursion (λ s. has_value after (variable_from start s) asked ≡ true → has_value before (variable_from start s) asked ≡ true) ss → least_with before asked start ss ≡ None → least_with after asked start ss ≡ None
least_unset before after start asked [] a e = refl
least_unset before after start asked (s ∷ ss) a e = by (has_value before (variable_from start s) asked) (has_value after (variable_from start s) asked) a.0 (least_unset before after start asked ss a.1) e
  where
    by : (b c : Bool) → (c ≡ true → b ≡ true) → (least_with before asked start ss ≡ None → least_with after asked start ss ≡ None) → (if b then lesser s (least_with before asked start ss) else least_with before asked start ss) ≡ None → (if c then lesser s (least_with after asked start ss) else least_with after asked start ss) ≡ None
    by true c f r h = absurd (lesser_some s (least_with before asked start ss) h)
    by false true f r h = let t = f refl in cc
    by false false f r h = r h

-- what a literal asks for by the least true supporter and the least open one
abbrev asks : ℕ → ℕ → Bool → Option Supporter → Option Supporter → Support
asks start l is_false held unset = elim held [ Some s ↦ Wants s.needs | None ↦ support_without start l (if is_false then unset else None) ]

still : (start l : ℕ) (f g : Bool) (held u w : Option Supporter) (ks : List ℕ) → asks start l f held u ≡ Wants ks → (g ≡ true → f ≡ true) → (u ≡ None → w ≡ None) → asks start l g held w ≡ asks start l f held u
still start l f g (Some s) u w ks e h k = refl
still start l true true None None w ks e h k = ap (support_without start l) (k refl)
still start l true true None (Some s) w ks e h k = cc
still start l true false None None w ks e h k = refl
still start l true false None (Some s) w ks e h k = cc
still start l false true None u w ks e h k = let t = h refl in cc
still start l false false None u w ks e h k = refl

-- a literal that wants others asks for the same
support_same : (m : Means) (before after : Known) (t l : ℕ) (ks : List ℕ) → support_of m before t l ≡ Wants ks → IsPassed m before after t l → support_of m after t l ≡ support_of m before t l
support_same m before after t l ks e p =
    let ss = slice_index_or m.supporters l [] in
    let start = start_of m.layout t in
    ap (λ (o : Option Supporter). asks start l (is_false_at m.layout after t l) o (least_with after None start ss)) (least_held before after start (Some true) ss p.held)
    ∙ still start l (is_false_at m.layout before t l) (is_false_at m.layout after t l) (least_with before (Some true) start ss) (least_with before None start ss) (least_with after None start ss) ks e p.fact (least_unset before after start None ss p.unset)

-- each of the literals wants others, where all together do
first_wants : (v w : Support) (ks : List ℕ) → both v w ≡ Wants ks → (ms : List ℕ) × (v ≡ Wants ms)
first_wants (Chooses c) w ks e = cc
first_wants (Wants ms) w ks e = (ms, refl)

rest_wants : (v w : Support) (ks : List ℕ) → both v w ≡ Wants ks → (ms : List ℕ) × (w ≡ Wants ms)
rest_wants (Chooses c) w ks e = cc
rest_wants (Wants ms) (Chooses c) ks e = cc
rest_wants (Wants ms) (Wants ns) ks e = (ns, refl)

-- so do literals
pub supports_same : (m : Means) (before after : Known) (t : ℕ) (ls ks : List ℕ) → supports (support_of m before t) ls ≡ Wants ks → AllByRecursion (IsPassed m before after t) ls → supports (support_of m after t) ls ≡ supports (support_of m before t) ls
supports_same m before after t [] ks e a = refl
supports_same m before after t (l ∷ ls) ks e a =
    let first = first_wants (support_of m before t l) (supports (support_of m before t) ls) ks e in
    let rest = rest_wants (support_of m before t l) (supports (support_of m before t) ls) ks e in
    ap (λ (w : Support). both w (supports (support_of m after t) ls)) (support_same m before after t l first.0 first.1 a.0)
    ∙ ap (both (support_of m before t l)) (supports_same m before after t ls rest.0 rest.1 a.1)

-- what holds of the literals of the facts holds of some
pub each_literal : (P : ℕ → Type 0) (facts : ℕ) (ls : List ℕ) → AllByRecursion (λ l. l / 2 < facts) ls → ((l : ℕ) → l / 2 < facts → P l) → AllByRecursion P ls
each_literal P facts [] a h = tt
each_literal P facts (l ∷ ls) a h = (h l a.0, each_literal P facts ls a.1 h)

-- a property of all variables of actions and conditional effects in a step holds of the supporters
pub each_supporter : (P : Supporter → Type 0) (z : Layout) (ss : List Supporter) → AllByRecursion (IsWithin z) ss → ((s : Supporter) → s.variable < z.actions + z.conditional → P s) → AllByRecursion P ss
each_supporter P z [] a h = tt
each_supporter P z (s ∷ ss) a h = (h s a.0.variable, each_supporter P z ss a.1 h)

-- a literal is passed where the variable is none that its support looks at
pub passed_elsewhere : (m : Means) (values : Known) (v t l : ℕ) (value : Option Bool) → AreMeans m → ((k : ℕ) → k < m.layout.actions + m.layout.conditional → start_of m.layout t + k ≡ v → ⊥) → (fact_at m.layout t (l / 2) ≡ v → ⊥) → IsPassed m values (set values v value) t l
passed_elsewhere m values v t l value a h k = record {
  held = each_supporter _ m.layout (slice_index_or m.supporters l []) (a.each l) (λ s b. value_same values v (variable_from (start_of m.layout t) s) value (Some true) (h s.variable b));
  unset = each_supporter _ m.layout (slice_index_or m.supporters l []) (a.each l) (λ s b e. sym (value_same values v (variable_from (start_of m.layout t) s) value None (h s.variable b)) ∙ e);
  fact = λ e. sym (value_same values v (fact_at m.layout t (l / 2)) value (Some (not (l % 2 == 0))) k) ∙ e;
}

-- where an open supporter becomes false
pub passed_false : (m : Means) (values : Known) (v t l : ℕ) → AreMeans m → slice_get values v ≡ Some None → (fact_at m.layout t (l / 2) ≡ v → ⊥) → IsPassed m values (set values v (Some false)) t l
passed_false m values v t l a h k = record {
  held = each_supporter _ m.layout (slice_index_or m.supporters l []) (a.each l) (λ s b. held (variable_from (start_of m.layout t) s) (cases_eq (variable_from (start_of m.layout t) s) v));
  unset = each_supporter _ m.layout (slice_index_or m.supporters l []) (a.each l) (λ s b e. unset (variable_from (start_of m.layout t) s) (cases_eq (variable_from (start_of m.layout t) s) v) e);
  fact = λ e. sym (value_same values v (fact_at m.layout t (l / 2)) (Some false) (Some (not (l % 2 == 0))) k) ∙ e;
}
  where
    here : slice_get (set values v (Some false)) v ≡ Some (Some false)
    here = get_set values v (Some false) (slice_get_within values v None h)

    held : (w : ℕ) → (w ≡ v) ⊎ (w ≡ v → ⊥) → has_value (set values v (Some false)) w (Some true) ≡ has_value values w (Some true)
    held w (inl q) = ap (λ (k : ℕ). has_value (set values v (Some false)) k (Some true)) q ∙ ap (λ (o : Option (Option Bool)). is_value o (Some true)) here ∙ sym (ap (λ (k : ℕ). has_value values k (Some true)) q ∙ ap (λ (o : Option (Option Bool)). is_value o (Some true)) h)
    held w (inr q) = value_same values v w (Some false) (Some true) q

    unset : (w : ℕ) → (w ≡ v) ⊎ (w ≡ v → ⊥) → has_value (set values v (Some false)) w None ≡ true → has_value values w None ≡ true
    unset w (inl q) e = ap (λ (k : ℕ). has_value values k None) q ∙ ap (λ (o : Option (Option Bool)). is_value o None) h
    unset w (inr q) e = sym (value_same values v w (Some false) None q) ∙ e

-- where a fact gets a value that does not make the literal false
pub passed_fact : (m : Means) (values : Known) (v t l : ℕ) (value : Option Bool) → AreMeans m → ((k : ℕ) → k < m.layout.actions + m.layout.conditional → start_of m.layout t + k ≡ v → ⊥) → v < length values → (fact_at m.layout t (l / 2) ≡ v → same_value value (Some (not (l % 2 == 0))) ≡ true → ⊥) → IsPassed m values (set values v value) t l
passed_fact m values v t l value a h g k = record {
  held = each_supporter _ m.layout (slice_index_or m.supporters l []) (a.each l) (λ s b. value_same values v (variable_from (start_of m.layout t) s) value (Some true) (h s.variable b));
  unset = each_supporter _ m.layout (slice_index_or m.supporters l []) (a.each l) (λ s b e. sym (value_same values v (variable_from (start_of m.layout t) s) value None (h s.variable b)) ∙ e);
  fact = λ e. fact (cases_eq (fact_at m.layout t (l / 2)) v) e;
}
  where
    fact : (fact_at m.layout t (l / 2) ≡ v) ⊎ (fact_at m.layout t (l / 2) ≡ v → ⊥) → is_false_at m.layout (set values v value) t l ≡ true → is_false_at m.layout values t l ≡ true
    fact (inl q) e = absurd (k q (sym (ap (λ (w : ℕ). has_value (set values v value) w (Some (not (l % 2 == 0)))) q ∙ ap (λ (o : Option (Option Bool)). is_value o (Some (not (l % 2 == 0)))) (get_set values v value g)) ∙ e))
    fact (inr q) e = sym (value_same values v (fact_at m.layout t (l / 2)) value (Some (not (l % 2 == 0))) q) ∙ e

-- the variables of a step begin behind those of an earlier one
pub later_step : (z : Layout) (v q r t k : ℕ) → v ≡ q * width z + r → r < width z → q + 1 ≤ t → start_of z t + k ≡ v → ⊥
later_step z v q r t k e h low same = let m = product_le (q + 1) t (width z) low in omega (arith, m, e, h, same)

-- none of them is a chain variable
pub no_chain : (z : Layout) (v q r t k : ℕ) → v ≡ q * width z + r → r < width z → z.actions + z.conditional ≤ r → k < z.actions + z.conditional → start_of z t + k ≡ v → ⊥
no_chain z v q r t k e h c b same = apart (width z) t q k r (omega (arith, b, c)) h (same ∙ e)
  where
    apart : (w t q j r : ℕ) → j < r → r < w → t * w + j ≡ q * w + r → ⊥
    apart w t q j r lt k same = by (cases_lt q t)
      where
        by : (q < t) ⊎ (t ≤ q) → ⊥
        by (inl le) = let m = product_le (q + 1) t w (omega (arith, le)) in omega (arith, m, same, lt, k)
        by (inr le) = let m = product_le t q w le in omega (arith, m, same, lt)

-- they are before those of the facts
pub before_facts : (z : Layout) (v t k : ℕ) → start_of z z.horizon ≤ v → t < z.horizon → k < z.actions + z.conditional → start_of z t + k ≡ v → ⊥
before_facts z v t k h top b same = let m = product_le (t + 1) z.horizon (width z) (omega (arith, top)) in omega (arith, m, h, b, same)

-- which are none of a step's
pub behind_steps : (z : Layout) (v t f : ℕ) → v < start_of z z.horizon → fact_at z t f ≡ v → ⊥
behind_steps z v t f h same = omega (arith, h, same)

-- a variable is that of one fact at one time
pub one_fact : (z : Layout) (time fact t f : ℕ) → fact < z.facts → f < z.facts → fact_at z t f ≡ fact_at z time fact → (t ≡ time) × (f ≡ fact)
one_fact z time fact t f h k same = by (cases_lt t time) (cases_lt time t)
  where
    by : (t < time) ⊎ (time ≤ t) → (time < t) ⊎ (t ≤ time) → (t ≡ time) × (f ≡ fact)
    by (inl a) b = let m = product_le (t + 1) time z.facts (omega (arith, a)) in absurd (omega (arith, m, same, h, k))
    by (inr a) (inl b) = let m = product_le (time + 1) t z.facts (omega (arith, b)) in absurd (omega (arith, m, same, h, k))
    by (inr a) (inr b) =
        let e : t ≡ time = omega (arith, a, b) in
        let m = ap (λ (n : ℕ). n * z.facts) e in
        (e, omega (arith, m, same))

-- the literal that a value makes false
pub made_false : (l : ℕ) (given : Bool) (n : ℕ) → n ≡ (if given then 1 else 0) → same_value (Some given) (Some (not (l % 2 == 0))) ≡ true → l ≡ 2 * (l / 2) + n
made_false l given n e h = by (l % 2 == 0) refl given e h
  where
    by : (b : Bool) → (l % 2 == 0) ≡ b → (g : Bool) → n ≡ (if g then 1 else 0) → same_value (Some g) (Some (not b)) ≡ true → l ≡ 2 * (l / 2) + n
    by true q true e h = cc
    by true q false e h = let r : l % 2 ≡ 0 = grind (arith, nat_tests) in omega (arith, r, e)
    by false q true e h = let r : (l % 2 ≡ 0 → ⊥) = λ z. grind (arith, nat_tests) in odd r
      where
        odd : (l % 2 ≡ 0 → ⊥) → l ≡ 2 * (l / 2) + n
        odd r = omega (arith, r, e)
    by false q false e h = cc
