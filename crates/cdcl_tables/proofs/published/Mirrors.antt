-- A trail beside its tables.
use Rattle.std.proofs.Common.{arith, ◌≡◌, ◌≢◌, ◌==◌, ℕ, zero, suc, ◌+◌, ◌-◌, ◌*◌, ◌/◌, ◌%◌, ◌<◌, ◌≤◌, List, [], ◌∷◌, ◌++◌, length, take, drop, reverse, set, get_or, Bool, true, false, not, ◌||◌, refl, sym, ap, ◌∙◌, subst, if◌then◌else◌, Option, Some, None, ◌⊎◌, inl, inr, All, zero-add, replicate}
use Rattle.std.specs.List.{slice_get}
use Rattle.std.proofs.Math.Nat.{eq-or-lt_of_le}
use Rattle.std.proofs.lemmas.List.{reverse-append, length-reverse, length-map, length_push, map_push, take-append-drop, get_or_default}
use Rattle.std.proofs.Math.Seq.{take-suc}
use Rattle.std.proofs.lemmas.List.Elements.{All-push, All-take, All-from_recursion}
use Rattle.std.proofs.lemmas.Option.{slice_get-get_or}
use Rattle.std.proofs.lemmas.Bool.{cases_lt}
use Rattle.std.proofs.lemmas.Bool.Decides.{nat_tests}
use Rattle.cdcl_defs.specs.declared.trail.Assigned.{Assigned}
use Rattle.clause_base.specs.Choice.{Known, same_value}
use Rattle.clause_base.specs.ValueTruths.{says}
use Rattle.cdcl_defs.specs.State.{is_on, value_of, values_of, values_from, decision_count}
use Rattle.clause_base.specs.Literal.{opposite}
use Rattle.cdcl_defs.specs.Learn.{level_of, backtracked}
use Rattle.cdcl_defs.proofs.published.Measure.{open_count, open_count-le, count_lt, is_on-more, length-values_from, values_from-at}
use Rattle.cdcl_defs.proofs.published.Tests.{or_true}
use Rattle.cdcl_defs.proofs.published.Trails.{is_on-reverse}
use Rattle.cdcl_tables.specs.Assignment.{IsAssignment, literals}
use Rattle.cdcl_tables.specs.Mirrored.{TrailView, IsMirrored, IsOnce, IsPlaced, starts_from, begun}
use Rattle.cdcl_tables.proofs.published.Assignments.{has_is, place_in, placed_push, placed_take}
use Rattle.cdcl_tables.proofs.published.Levels.{starts_len, starts-push, starts-take, starts_within, decisions_le, level_at, back_at, decisions_at}

value_of-reverse : (es : List Assigned) (v : ℕ) → value_of (reverse es) v ≡ value_of es v
value_of-reverse es v = rw (is_on-reverse es (2 * v), is_on-reverse es (2 * v + 1))

abbrev pub ForAll : ℕ → List Assigned → Type 0
ForAll n es = (l : ℕ) → is_on es l ≡ true → l / 2 < n

-- a trail has no more entries than there are variables
count_fits : (n : ℕ) (es : List Assigned) → IsOnce es → ForAll n es → length es + open_count (reverse es) 0 n ≤ n
count_fits n [] o b = rw zero-add (open_count-le [] 0 n)
count_fits n (a ∷ es) o b =
    let r : reverse (a ∷ es) ≡ reverse es ++ a ∷ [] = reverse-append (a ∷ []) es in
    let h = count_fits n es o.1 (λ l e. b l (rw e (or_true (a.literal == l)))) in
    let own : (a.literal == a.literal) ≡ true = grind (arith, nat_tests) in
    let m : a.literal / 2 < n = b a.literal (rw own) in
    let f = count_lt (reverse es) a 0 n (value_of-reverse es (a.literal / 2) ∙ o.0) (omega arith) (omega (arith, m)) in
    let g : open_count (reverse (a ∷ es)) 0 n ≡ open_count (reverse es ++ a ∷ []) 0 n = ap (λ (t : List Assigned). open_count t 0 n) r in
    omega (arith, h, f, g)

pub on_below : (n : ℕ) (es : List Assigned) → All (λ a. a.literal / 2 < n) es → ForAll n es
on_below n [] b l e = cc
on_below n (a ∷ es) b l e = by (a.literal == l) refl (on_below n es (λ k d h. b (suc k) d (omega arith)) l) (b 0 a (omega arith))
  where
    by : (s : Bool) → (a.literal == l) ≡ s → (is_on es l ≡ true → l / 2 < n) → a.literal / 2 < n → l / 2 < n
    by true f on h = let t : a.literal ≡ l = grind (arith, nat_tests) in subst (λ (k : ℕ). k / 2 < n) t h
    by false f on h = on (ap (λ (c : Bool). c || is_on es l) (sym f) ∙ e)

-- no variable past the last one has a value
off_past : (n : ℕ) (es : List Assigned) → All (λ a. a.literal / 2 < n) es → (l : ℕ) → n ≤ l / 2 → is_on es l ≡ false
off_past n es b l h = by (is_on es l) refl
  where
    by : (s : Bool) → is_on es l ≡ s → is_on es l ≡ false
    by true e = let k = on_below n es b l e in absurd (omega (arith, k, h))
    by false e = e

none_past : (n : ℕ) (es : List Assigned) (vs : Known) (ss : List ℕ) (v : ℕ) → IsMirrored n es vs ss → n ≤ v → value_of es v ≡ None
none_past n es vs ss v m h =
    ap (λ (s : Bool). if s then Some true else if is_on es (2 * v + 1) then Some false else None) (off_past n es m.below (2 * v) (omega (arith, h)))
    ∙ ap (λ (s : Bool). if s then Some false else None) (off_past n es m.below (2 * v + 1) (omega (arith, h)))

-- a trail has at most as many entries as there are variables
pub entries_fit : (n : ℕ) (es : List Assigned) (vs : Known) (ss : List ℕ) → IsMirrored n es vs ss → length es ≤ n
entries_fit n es vs ss m =
    let b = on_below n es m.below in
    let h = count_fits n (reverse es) m.once (λ l e. b l (sym (is_on-reverse es l) ∙ e)) in
    omega (arith, h, length-reverse es)

-- the values where one variable's changes
values_set : (t u : List Assigned) (w : ℕ) (o : Option Bool) → value_of u w ≡ o → ((x : ℕ) → (x ≡ w → ⊥) → value_of u x ≡ value_of t x) → (v n : ℕ) → v ≤ w
    → values_from u v n ≡ set (values_from t v n) (w - v) o
values_set t u w o e f v zero h = refl
values_set t u w o e f v (suc n) h = by (eq-or-lt_of_le h) (λ (k : v + 1 ≤ w). values_set t u w o e f (v + 1) n k)
  where
    past : (v' n' : ℕ) → w < v' → values_from u v' n' ≡ values_from t v' n'
    past v' zero l = refl
    past v' (suc n') l = ap (λ (x : Option Bool). x ∷ values_from u (v' + 1) n') (f v' (λ (z : v' ≡ w). absurd (omega arith)))
        ∙ ap (λ (xs : Known). value_of t v' ∷ xs) (past (v' + 1) n' (omega arith))

    by : (v ≡ w) ⊎ (v < w) → (v + 1 ≤ w → values_from u (v + 1) n ≡ set (values_from t (v + 1) n) (w - (v + 1)) o) → values_from u v (suc n) ≡ set (values_from t v (suc n)) (w - v) o
    by (inl s) on =
        let z : w - v ≡ 0 = omega arith in
        rw z (ap (λ (x : Option Bool). x ∷ values_from u (v + 1) n) (ap (value_of u) s ∙ e) ∙ ap (λ (xs : Known). o ∷ xs) (past (v + 1) n (omega arith)))
    by (inr m) on =
        let z : w - v ≡ suc (w - (v + 1)) = omega arith in
        rw z (ap (λ (x : Option Bool). x ∷ values_from u (v + 1) n) (f v (λ (k : v ≡ w). absurd (omega arith))) ∙ ap (λ (xs : Known). value_of t v ∷ xs) (on (omega arith)))

values_set_at : (t u : List Assigned) (w n : ℕ) (o : Option Bool) → value_of u w ≡ o → ((x : ℕ) → (x ≡ w → ⊥) → value_of u x ≡ value_of t x) → values_of n u ≡ set (values_of n t) w o
values_set_at t u w n o e f =
    let z : w - 0 ≡ w = omega arith in
    values_set t u w o e f 0 n (omega arith) ∙ ap (λ (i : ℕ). set (values_of n t) i o) z

or_off : (a b : Bool) → b ≡ false → (a || b) ≡ a
or_off true b e = refl
or_off false b e = e

not_of : (m : ℕ) (l x b : ℕ) → (x ≡ l / 2 → ⊥) → m ≡ 2 * x + b → b < 2 → (l == m) ≡ false
not_of m l x b h e s = by (l == m) refl
  where
    by : (c : Bool) → (l == m) ≡ c → c ≡ false
    by true f = let t : l ≡ m = grind (arith, nat_tests) in let u : x ≡ l / 2 = omega arith in absurd (h u)
    by false f = refl

pub value_of-other : (es : List Assigned) (a : Assigned) (x : ℕ) → (x ≡ a.literal / 2 → ⊥) → value_of (es ++ a ∷ []) x ≡ value_of es x
value_of-other es a x h =
    let p : (a.literal == 2 * x) ≡ false = not_of (2 * x) a.literal x 0 h (omega arith) (omega arith) in
    let q : (a.literal == 2 * x + 1) ≡ false = not_of (2 * x + 1) a.literal x 1 h (omega arith) (omega arith) in
    rw (is_on-more es a (2 * x), is_on-more es a (2 * x + 1), or_off (is_on es (2 * x)) (a.literal == 2 * x) p, or_off (is_on es (2 * x + 1)) (a.literal == 2 * x + 1) q)

own_by : (p q r s even : Bool) → (if p then Some true else if q then Some false else None) ≡ None → r ≡ even → s ≡ not even
    → (if p || r then Some true else if q || s then Some false else None) ≡ Some even
own_by true q r s even e f g = cc
own_by false true r s even e f g = cc
own_by false false r s true e f g = rw f
own_by false false r s false e f g = rw (f, g)

pub value_of-own : (es : List Assigned) (a : Assigned) → value_of es (a.literal / 2) ≡ None → value_of (es ++ a ∷ []) (a.literal / 2) ≡ Some (a.literal % 2 == 0)
value_of-own es a e =
    let v = a.literal / 2 in
    rw (is_on-more es a (2 * v), is_on-more es a (2 * v + 1))
    (own_by (is_on es (2 * v)) (is_on es (2 * v + 1)) (a.literal == 2 * v) (a.literal == 2 * v + 1) (a.literal % 2 == 0) e (grind (arith, nat_tests)) (grind (arith, nat_tests)))

is_none_by : (p q : Bool) → (if p then Some true else if q then Some false else None) ≡ None → (p ≡ false) × (q ≡ false)
is_none_by true q h = cc
is_none_by false true h = cc
is_none_by false false h = (refl, refl)

-- a literal on the trail has another variable than an open one
other_variable : (es : List Assigned) (l w : ℕ) → value_of es w ≡ None → is_on es l ≡ true → (l / 2 ≡ w → ⊥)
other_variable es l w e o s =
    let p = is_none_by (is_on es (2 * w)) (is_on es (2 * w + 1)) e in
    by (l % 2 == 0) refl p
  where
    by : (even : Bool) → (l % 2 == 0) ≡ even → (is_on es (2 * w) ≡ false) × (is_on es (2 * w + 1) ≡ false) → ⊥
    by true f p = let t : l ≡ 2 * w = grind (arith, nat_tests) in let z : is_on es l ≡ false = ap (is_on es) t ∙ p.0 in cc
    by false f p = let t : l ≡ 2 * w + 1 = grind (arith, nat_tests) in let z : is_on es l ≡ false = ap (is_on es) t ∙ p.1 in cc

pub off_of_none : (es : List Assigned) (l : ℕ) → value_of es (l / 2) ≡ None → is_on es l ≡ false
off_of_none es l e = by (is_on es l) refl
  where
    by : (b : Bool) → is_on es l ≡ b → b ≡ false
    by true f = absurd (other_variable es l (l / 2) e f refl)
    by false f = refl

pub backtracked_all : (t : ℕ) (xs : List Assigned) → decision_count xs ≤ t → backtracked t xs ≡ xs
backtracked_all t [] h = refl
backtracked_all t (b ∷ xs) h = by b.reason (t == 0) refl h (λ (s : ℕ). backtracked_all s xs)
  where
    by : (o : Option ℕ) (z : Bool) → (t == 0) ≡ z → elim o as (λ _. ℕ) [ None ↦ 1 + decision_count xs | Some r ↦ decision_count xs ] ≤ t
        → ((s : ℕ) → decision_count xs ≤ s → backtracked s xs ≡ xs)
        → elim o as (λ _. List Assigned) [ Some r ↦ b ∷ backtracked t xs | None ↦ if z then [] else b ∷ backtracked (t - 1) xs ] ≡ b ∷ xs
    by None true f k on = absurd (let y : t ≡ 0 = grind (arith, nat_tests) in omega (arith, y, k))
    by None false f k on = ap (λ (ys : List Assigned). b ∷ ys) (on (t - 1) (omega (arith, k)))
    by (Some r) z f k on = ap (λ (ys : List Assigned). b ∷ ys) (on t k)

values_at : (es : List Assigned) (v n k : ℕ) (d : Option Bool) → k < n → get_or (values_from es v n) k d ≡ value_of es (v + k)
values_at es v zero k d h = absurd (omega arith)
values_at es v (suc n) zero d h = let s : v ≡ v + 0 = omega arith in ap (value_of es) s
values_at es v (suc n) (suc k) d h = let s : v + 1 + k ≡ v + suc k = omega arith in values_at es (v + 1) n k d (omega arith) ∙ ap (value_of es) s

pub value_at : (n : ℕ) (es : List Assigned) (vs : Known) (ss : List ℕ) (v : ℕ) (d : Option Bool) → IsMirrored n es vs ss → v < n → get_or vs v d ≡ value_of es v
value_at n es vs ss v d m h = ap (λ (xs : Known). get_or xs v d) m.values_are ∙ values_at es 0 n v d h ∙ ap (value_of es) (zero-add v)

pub values_len : (n : ℕ) (es : List Assigned) (vs : Known) (ss : List ℕ) → IsMirrored n es vs ss → length vs ≡ n
values_len n es vs ss m = ap (λ (xs : Known). length xs) m.values_are ∙ length-values_from es 0 n

-- what the table of values has is what the trail says
value_got : (n : ℕ) (es : List Assigned) (vs : Known) (ss : List ℕ) (v : ℕ) (o : Option Bool) → IsMirrored n es vs ss → slice_get vs v ≡ Some o → value_of es v ≡ o
value_got n es vs ss v o m e =
    let h = values_from-at es 0 n v o (ap (λ (xs : Known). slice_get xs v) (sym m.values_are) ∙ e) in rw zero-add at h.1

-- of any number, past the variables too
pub value_read : (n : ℕ) (es : List Assigned) (vs : Known) (ss : List ℕ) (v : ℕ) (o : Option Bool) → IsMirrored n es vs ss → (v < length vs → slice_get vs v ≡ Some o) → (length vs ≤ v → o ≡ None)
    → o ≡ value_of es v
value_read n es vs ss v o m within past = by (cases_lt v (length vs))
  where
    by : (v < length vs) ⊎ (length vs ≤ v) → o ≡ value_of es v
    by (inl h) = sym (value_got n es vs ss v o m (within h))
    by (inr h) = past h ∙ sym (none_past n es vs ss v m (omega (arith, values_len n es vs ss m, h)))

pub half_opposite : (l : ℕ) → opposite l / 2 ≡ l / 2
half_opposite l = grind (arith, nat_tests)

-- a false literal is of one of the variables
pub false_below : (n : ℕ) (es : List Assigned) (vs : Known) (ss : List ℕ) (l : ℕ) → IsMirrored n es vs ss → is_on es (opposite l) ≡ true → l / 2 < n
false_below n es vs ss l m e = let h = on_below n es m.below (opposite l) e in omega (arith, h, half_opposite l)

-- The values with one entry more.
values_push : (n : ℕ) (es : List Assigned) (a : Assigned) → value_of es (a.literal / 2) ≡ None → set (values_of n es) (a.literal / 2) (Some (a.literal % 2 == 0)) ≡ values_of n (es ++ a ∷ [])
values_push n es a e = sym (values_set_at es (es ++ a ∷ []) (a.literal / 2) n (Some (a.literal % 2 == 0)) (value_of-own es a e) (value_of-other es a))

-- one more entry
pub mirrored_push : (n : ℕ) (es : List Assigned) (vs : Known) (ss : List ℕ) (a : Assigned) → IsMirrored n es vs ss → a.literal / 2 < n → value_of es (a.literal / 2) ≡ None
    → IsMirrored n (es ++ a ∷ []) (set vs (a.literal / 2) (Some (a.literal % 2 == 0))) (ss ++ begun a.reason (length es))
mirrored_push n es vs ss a m b e = record {
  values_are = ap (λ (xs : Known). set xs (a.literal / 2) (Some (a.literal % 2 == 0))) m.values_are ∙ values_push n es a e;
  starts_are =
      ap (λ (xs : List ℕ). xs ++ begun a.reason (length es)) m.starts_are
      ∙ ap (λ (k : ℕ). starts_from 0 es ++ begun a.reason k) (sym (zero-add (length es)))
      ∙ sym (starts-push 0 es a);
  below = All-push (λ x. x.literal / 2 < n) es a m.below b;
  once = subst IsOnce (sym (reverse-append es (a ∷ []))) (value_of-reverse es (a.literal / 2) ∙ e, m.once);
  small = m.small;
}

-- the first entries of a trail without a variable twice are such a trail
once_rest : (zs ws : List Assigned) → IsOnce (zs ++ ws) → IsOnce ws
once_rest [] ws o = o
once_rest (z ∷ zs) ws o = once_rest zs ws o.1

once_take : (k : ℕ) (es : List Assigned) → IsOnce (reverse es) → IsOnce (reverse (take k es))
once_take k es o =
    once_rest (reverse (drop k es)) (reverse (take k es)) (subst IsOnce (ap (λ (xs : List Assigned). reverse xs) (sym (take-append-drop k es)) ∙ reverse-append (take k es) (drop k es)) o)

-- the first entries
pub mirrored_take : (n k : ℕ) (es : List Assigned) (vs : Known) (ss : List ℕ) → IsMirrored n es vs ss → IsMirrored n (take k es) (values_of n (take k es)) (take (decision_count (take k es)) ss)
mirrored_take n k es vs ss m = record {
  values_are = refl;
  starts_are = ap (take (decision_count (take k es))) m.starts_are ∙ sym (starts-take 0 k es);
  below = All-take (λ x. x.literal / 2 < n) k es m.below;
  once = once_take k es m.once;
  small = m.small;
}

-- an entry is of a variable, which has its value with it and none without it
pub record IsLast (n p : ℕ) (es : List Assigned) (l : ℕ) : Type 0 where
  pub below : l / 2 < n
  pub given : slice_get (values_of n (take (suc p) es)) (l / 2) ≡ Some (Some (l % 2 == 0))
  pub taken : set (values_of n (take (suc p) es)) (l / 2) None ≡ values_of n (take p es)

value_get : (n : ℕ) (xs : List Assigned) (v : ℕ) → v < n → slice_get (values_of n xs) v ≡ Some (value_of xs v)
value_get n xs v h =
    slice_get-get_or (values_of n xs) v None (omega (arith, h, length-values_from xs 0 n))
    ∙ ap (λ (o : Option Bool). Some o) (values_at xs 0 n v None h ∙ ap (value_of xs) (zero-add v))

pub last_at : (n p : ℕ) (es : List Assigned) (d : Assigned) → All (λ x. x.literal / 2 < n) es → IsOnce (reverse es) → p < length es → IsLast n p es (get_or es p d).literal
last_at n p es d below once h =
    let a : Assigned = get_or es p d in
    let split : take (suc p) es ≡ take p es ++ a ∷ [] = take-suc es p d h in
    let open_here = subst IsOnce (ap (λ (xs : List Assigned). reverse xs) split ∙ reverse-append (take p es) (a ∷ [])) (once_take (suc p) es once) in
    let none : value_of (take p es) (a.literal / 2) ≡ None = sym (value_of-reverse (take p es) (a.literal / 2)) ∙ open_here.0 in
    let within : a.literal / 2 < n = below p d h in
    record {
      below = within;
      given = ap (λ (xs : List Assigned). slice_get (values_of n xs) (a.literal / 2)) split ∙ value_get n (take p es ++ a ∷ []) (a.literal / 2) within
          ∙ ap (λ (o : Option Bool). Some o) (value_of-own (take p es) a none);
      taken = ap (λ (xs : List Assigned). set (values_of n xs) (a.literal / 2) None) split
          ∙ sym (values_set_at (take p es ++ a ∷ []) (take p es) (a.literal / 2) n None none (λ x h. sym (value_of-other (take p es) a x h)));
    }

abbrev pub no_value : Option Bool
no_value = None

-- at first no variable has a value
replicated_from : (v n : ℕ) → replicate n no_value ≡ values_from [] v n
replicated_from v zero = refl
replicated_from v (suc n) = ap (λ (xs : Known). None ∷ xs) (replicated_from (v + 1) n)

pub mirrored_new : (n : ℕ) (es : List Assigned) (vs : Known) (ss : List ℕ) → n ≤ 2147483647 → es ≡ [] → vs ≡ replicate n no_value → ss ≡ [] → IsMirrored n es vs ss
mirrored_new n es vs ss s e v l = rw (e, l) (record {
  values_are = v ∙ replicated_from 0 n;
  starts_are = refl;
  below = All-from_recursion (λ x. x.literal / 2 < n) [] tt;
  once = tt;
  small = s;
})

-- Of a literal and its negation one is true at most.
apart_opposite : (l : ℕ) → l ≢ opposite l
apart_opposite l h = odd (l % 2 == 0) refl h
  where
    odd : (b : Bool) → (l % 2 == 0) ≡ b → l ≢ (if b then l + 1 else l - 1)
    odd true f h = omega (arith, h)
    odd false f h = let t : l % 2 ≢ 0 = grind (arith, nat_tests) in omega (arith, h, t)

one_of : (es : List Assigned) (l : ℕ) → IsOnce es → is_on es l ≡ true → is_on es (opposite l) ≡ false
one_of [] l o e = cc
one_of (a ∷ es) l o e = by (a.literal == l) refl (a.literal == opposite l) refl e (one_of es l o.1)
  where
    by : (p : Bool) → (a.literal == l) ≡ p → (q : Bool) → (a.literal == opposite l) ≡ q → (p || is_on es l) ≡ true → (is_on es l ≡ true → is_on es (opposite l) ≡ false)
        → (q || is_on es (opposite l)) ≡ false
    by true f true g h on =
        let s : a.literal ≡ l = grind (arith, nat_tests) in
        let t : a.literal ≡ opposite l = grind (arith, nat_tests) in
        absurd (apart_opposite l (sym s ∙ t))
    by true f false g h on =
        let s : a.literal ≡ l = grind (arith, nat_tests) in
        off_of_none es (opposite l) (ap (value_of es) (half_opposite l ∙ ap (λ (x : ℕ). x / 2) (sym s)) ∙ o.0)
    by false f true g h on =
        let t : a.literal ≡ opposite l = grind (arith, nat_tests) in
        absurd (other_variable es l (l / 2) (ap (value_of es) (sym (ap (λ (x : ℕ). x / 2) t ∙ half_opposite l)) ∙ o.0) h refl)
    by false f false g h on = on h

-- the values say of each literal whether it is on the trail
pub says_on : (n : ℕ) (es : List Assigned) (vs : Known) (ss : List ℕ) (l : ℕ) → IsMirrored n es vs ss → l / 2 < n → says vs l ≡ is_on es l
says_on n es vs ss l m h =
    ap (λ (o : Option Bool). same_value o (Some (l % 2 == 0))) (value_at n es vs ss (l / 2) None m h)
    ∙ by (l % 2 == 0) refl (is_on es (2 * (l / 2))) refl (is_on es (2 * (l / 2) + 1)) refl
  where
    by : (b : Bool) → (l % 2 == 0) ≡ b → (p : Bool) → is_on es (2 * (l / 2)) ≡ p → (q : Bool) → is_on es (2 * (l / 2) + 1) ≡ q → same_value (value_of es (l / 2)) (Some b) ≡ is_on es l
    by true f true g q k =
        let t : 2 * (l / 2) ≡ l = grind (arith, nat_tests) in
        rw g (sym g ∙ ap (is_on es) t)
    by true f false g true k =
        let t : 2 * (l / 2) ≡ l = grind (arith, nat_tests) in
        rw (g, k) (sym g ∙ ap (is_on es) t)
    by true f false g false k =
        let t : 2 * (l / 2) ≡ l = grind (arith, nat_tests) in
        rw (g, k) (sym g ∙ ap (is_on es) t)
    by false f true g q k =
        let t : opposite (2 * (l / 2)) ≡ l = grind (arith, nat_tests) in
        let once_here = one_of (reverse es) (2 * (l / 2)) m.once (is_on-reverse es (2 * (l / 2)) ∙ g) in
        rw g (sym once_here ∙ is_on-reverse es (opposite (2 * (l / 2))) ∙ ap (is_on es) t)
    by false f false g true k =
        let t : 2 * (l / 2) + 1 ≡ l = grind (arith, nat_tests) in
        rw (g, k) (sym k ∙ ap (is_on es) t)
    by false f false g false k =
        let t : 2 * (l / 2) + 1 ≡ l = grind (arith, nat_tests) in
        rw (g, k) (sym k ∙ ap (is_on es) t)

-- what a trail says, from its tables
pub assigned : (n : ℕ) (es : List Assigned) (vs : Known) (ss positions : List ℕ) (on : List Bool) → IsMirrored n es vs ss → IsPlaced n (literals es) positions → length on ≡ 2 * n
    → ((l : ℕ) → l < 2 * n → get_or on l false ≡ says vs l) → IsAssignment n (literals es) on positions
assigned n es vs ss positions on m p size says_are =
    let long = length-map es (λ (x : Assigned). x.literal) in
    let fit = entries_fit n es vs ss m in
    record {
      small = m.small;
      short = omega (arith, long, fit);
      positions_size = p.size;
      on_size = size;
      truths = λ l h. says_are l h ∙ says_on n es vs ss l m (omega (arith, h)) ∙ sym (has_is es l);
      below = λ i h. below_at es i m.below h;
      positions_are = p.positions_are;
    }
  where
    below_at : (es : List Assigned) (i : ℕ) → All (λ x. x.literal / 2 < n) es → i < length (literals es) → get_or (literals es) i 0 < 2 * n
    below_at [] i b h = absurd (omega (arith, h))
    below_at (a ∷ es) zero b h = let w = b 0 a (omega arith) in omega (arith, w)
    below_at (a ∷ es) (suc i) b h = below_at es i (λ k d m. b (suc k) d (omega (arith, m))) (omega (arith, h))

-- the level of a false literal is that of the entries up to its negation
pub level_by : (n : ℕ) (es : List Assigned) (positions : List ℕ) (l : ℕ) → IsPlaced n (literals es) positions → is_on es (opposite l) ≡ true
    → (get_or positions (l / 2) 0 < length es) × (decision_count (take (get_or positions (l / 2) 0 + 1) es) ≡ level_of es l)
level_by n es positions l p e =
    let w = place_in n (literals es) positions (opposite l) p (has_is es (opposite l) ∙ e) in
    let half : get_or positions (opposite l / 2) 0 ≡ get_or positions (l / 2) 0 = ap (λ (v : ℕ). get_or positions v 0) (half_opposite l) in
    let long = length-map es (λ (x : Assigned). x.literal) in
    let at = level_at 0 (get_or positions (opposite l / 2) 0) (opposite l) es w.0 w.1 w.2 in
    let next : suc (get_or positions (opposite l / 2) 0) ≡ get_or positions (l / 2) 0 + 1 = omega (arith, half) in
    (omega (arith, w.0, half, long), ap (λ (k : ℕ). decision_count (take k es)) (sym next) ∙ sym (zero-add (decision_count (take (suc (get_or positions (opposite l / 2) 0)) es))) ∙ sym at)

-- there are as many beginnings as decisions, and no more than there are variables
pub starts_fit : (n : ℕ) (es : List Assigned) (vs : Known) (ss : List ℕ) → IsMirrored n es vs ss → (length ss ≡ decision_count es) × (length ss ≤ n)
starts_fit n es vs ss m =
    let same : length ss ≡ decision_count es = ap (λ (xs : List ℕ). length xs) m.starts_are ∙ starts_len 0 es in
    let d = decisions_le es in
    let h = entries_fit n es vs ss m in
    (same, omega (arith, same, d, h))

-- What the calls of a trail ask for.

-- an open variable's value
pub open_got : (n : ℕ) (es : List Assigned) (vs : Known) (ss : List ℕ) (v : ℕ) → IsMirrored n es vs ss → v < n → value_of es v ≡ None → slice_get vs v ≡ Some None
open_got n es vs ss v m h e = ap (λ (xs : Known). slice_get xs v) m.values_are ∙ value_get n es v h ∙ ap (λ (o : Option Bool). Some o) e

-- there is room for one more entry, and for one more beginning
pub room : (n : ℕ) (es : List Assigned) (vs : Known) (ss : List ℕ) (a : Assigned) → IsMirrored n es vs ss → a.literal / 2 < n → value_of es (a.literal / 2) ≡ None → (length es < n) × (length ss < n)
room n es vs ss a m b e =
    let h = entries_fit n (es ++ a ∷ []) (set vs (a.literal / 2) (Some (a.literal % 2 == 0))) (ss ++ begun a.reason (length es)) (mirrored_push n es vs ss a m b e) in
    let d = decisions_le es in
    let s = starts_fit n es vs ss m in
    (omega (arith, h, length_push es a), omega (arith, h, length_push es a, d, s.0))

-- one entry more has its position
pub entry_push : (n : ℕ) (es : List Assigned) (positions : List ℕ) (a : Assigned) → IsPlaced n (literals es) positions → a.literal / 2 < n → value_of es (a.literal / 2) ≡ None
    → IsPlaced n (literals (es ++ a ∷ [])) (set positions (a.literal / 2) (length es))
entry_push n es positions a p b e =
    let long : length (literals es) ≡ length es = length-map es (λ (x : Assigned). x.literal) in
    subst (λ (xs : List ℕ). IsPlaced n xs (set positions (a.literal / 2) (length es))) (sym (map_push (λ (x : Assigned). x.literal) es a))
    (subst (λ (k : ℕ). IsPlaced n (literals es ++ a.literal ∷ []) (set positions (a.literal / 2) k)) long
    (placed_push n (literals es) positions a.literal p b (has_is es a.literal ∙ off_of_none es a.literal e)
    (has_is es (opposite a.literal) ∙ off_of_none es (opposite a.literal) (ap (value_of es) (half_opposite a.literal) ∙ e))))

literals_take : (k : ℕ) (es : List Assigned) → take k (literals es) ≡ literals (take k es)
literals_take zero es = refl
literals_take (suc k) [] = refl
literals_take (suc k) (a ∷ es) = ap (λ (xs : List ℕ). a.literal ∷ xs) (literals_take k es)

-- what a lent table of entries has
pub given_by : (n : ℕ) (es now : List Assigned) (vs : Known) (ss : List ℕ) → IsMirrored n es vs ss → now ≡ es
    → (vs ≡ values_of (length vs) now) × All (λ a. a.literal / 2 < length vs) now × IsOnce (reverse now)
given_by n es now vs ss m e =
    let l = values_len n es vs ss m in (
      m.values_are ∙ ap (λ (k : ℕ). values_of k es) (sym l) ∙ ap (λ (xs : List Assigned). values_of (length vs) xs) (sym e),
      subst (λ (xs : List Assigned). All (λ a. a.literal / 2 < length vs) xs) (sym e) (λ k d h. let w = m.below k d h in omega (arith, w, l)),
      subst (λ (xs : List Assigned). IsOnce (reverse xs)) (sym e) m.once,
    )

-- the tables of the first entries
pub kept_by : (n k level : ℕ) (es now new_es : List Assigned) (vs new_vs : Known) (ss new_ss positions : List ℕ) → IsMirrored n es vs ss → IsPlaced n (literals es) positions → now ≡ es
    → new_es ≡ take k es → new_vs ≡ values_of (length vs) (take k now) → new_ss ≡ take level ss → level ≡ decision_count (take k es)
    → IsMirrored n new_es new_vs new_ss × IsPlaced n (literals new_es) positions
kept_by n k level es now new_es vs new_vs ss new_ss positions m p e f g h i =
    let values : new_vs ≡ values_of n (take k es) = g ∙ ap (λ (x : ℕ). values_of x (take k now)) (values_len n es vs ss m) ∙ ap (λ (xs : List Assigned). values_of n (take k xs)) e in
    let starts : new_ss ≡ take (decision_count (take k es)) ss = h ∙ ap (λ (l : ℕ). take l ss) i in
    rw (f, values, starts) (mirrored_take n k es vs ss m, subst (λ (xs : List ℕ). IsPlaced n xs positions) (literals_take k es) (placed_take n k (literals es) positions p))

-- where a level begins that is above another one
pub back_by : (n level got : ℕ) (es : List Assigned) (vs : Known) (ss : List ℕ) → IsMirrored n es vs ss → level < decision_count es → got ≡ get_or ss level got
    → (got ≤ length es) × (level ≡ decision_count (take got es)) × (backtracked level es ≡ take got es)
back_by n level got es vs ss m h e =
    let fit = starts_fit n es vs ss m in
    let s : get_or (starts_from 0 es) level 0 ≡ got = ap (λ (xs : List ℕ). get_or xs level 0) (sym m.starts_are) ∙ get_or_default ss level 0 got (omega (arith, h, fit.0)) ∙ sym e in
    let w = starts_within 0 es level (omega (arith, h, starts_len 0 es)) in
    let z : got - 0 ≡ got = omega arith in (
      omega (arith, w.1, s),
      sym (decisions_at 0 level got es h s) ∙ ap (λ (k : ℕ). decision_count (take k es)) z,
      back_at 0 level got es h s ∙ ap (λ (k : ℕ). take k es) z,
    )

pub same_view : (n m : ℕ) (es fs : List Assigned) → n ≡ m → es ≡ fs
    → (let x : TrailView = record { variables = n; entries = es } in x) ≡ (let y : TrailView = record { variables = m; entries = fs } in y)
same_view n m es fs e f = cc

pub placed_new : (n : ℕ) (es : List Assigned) (positions : List ℕ) → es ≡ [] → length positions ≡ n → IsPlaced n (literals es) positions
placed_new n es positions e l = rw e (record {
  size = l;
  positions_are = λ i h. absurd (omega (arith, h));
})

pub back_view : (n level got current : ℕ) (es : List Assigned) (vs : Known) (ss : List ℕ) (w : TrailView) → IsMirrored n es vs ss
    → (let x : TrailView = record { variables = n; entries = es } in x) ≡ w → current ≡ decision_count w.entries → level < current → got ≡ get_or ss level got
    → (got ≤ length w.entries) × (level ≡ decision_count (take got w.entries)) × (backtracked level w.entries ≡ take got w.entries)
back_view n level got current es vs ss w m v c h e =
    let above : level < decision_count es = omega (arith, ap (λ (w : TrailView). decision_count w.entries) v, c, h) in
    subst (λ (w : TrailView). (got ≤ length w.entries) × (level ≡ decision_count (take got w.entries)) × (backtracked level w.entries ≡ take got w.entries)) v (back_by n level got es vs ss m above e)

-- where an entry stands that made a literal false, as it is read
pub level_view : (n got v l : ℕ) (es : List Assigned) (vs : Known) (ss positions : List ℕ) (w : TrailView) → IsMirrored n es vs ss → IsPlaced n (literals es) positions
    → (let x : TrailView = record { variables = n; entries = es } in x) ≡ w → is_on w.entries (opposite l) ≡ true → v ≡ l / 2 → got ≡ get_or positions v got
    → (l / 2 < n) × (got < length es) × (decision_count (take (got + 1) w.entries) ≡ level_of w.entries l)
level_view n got v l es vs ss positions w m p view on half read =
    let here : is_on es (opposite l) ≡ true = ap (λ (w : TrailView). is_on w.entries (opposite l)) view ∙ on in
    let b = false_below n es vs ss l m here in
    let size = p.size in
    let place : get_or positions (l / 2) 0 ≡ got =
    get_or_default positions (l / 2) 0 got (omega (arith, b, size)) ∙ ap (λ (v : ℕ). get_or positions v got) (sym half) ∙ sym read in
    let at = subst (λ (p : ℕ). (p < length es) × (decision_count (take (p + 1) es) ≡ level_of es l)) place (level_by n es positions l p here) in
    (b, at.0, ap (λ (w : TrailView). decision_count (take (got + 1) w.entries)) (sym view) ∙ at.1 ∙ ap (λ (w : TrailView). level_of w.entries l) view)
