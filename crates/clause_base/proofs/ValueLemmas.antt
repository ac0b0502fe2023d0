-- Values of variables kept as the truths of literals.
use Rattle.std.proofs.Common.{arith, ◌≡◌, ◌≢◌, ◌==◌, ℕ, zero, suc, ◌+◌, ◌*◌, ◌/◌, ◌%◌, ◌<◌, ◌≤◌, List, [], ◌∷◌, length, map, set, get_or, Bool, true, false, Option, Some, None, refl, sym, ap, ◌∙◌, subst, ◌⊎◌, inl, inr, if◌then◌else◌, replicate, length-set, get_or-set_same, get_or-set_other}
use Rattle.std.specs.Prelude.{IfSome, IfNone}
use Rattle.std.specs.Option.{option_map}
use Rattle.std.specs.List.{range_with_len, slice_get}
use Rattle.std.proofs.lemmas.List.{get_or_past, get_or_default}
use Rattle.std.proofs.lemmas.List.FromFn.{length-map-range_with_len, get_or-map-range_with_len}
use Rattle.std.proofs.lemmas.Option.{slice_get-get_or}
use Rattle.std.proofs.lemmas.Bool.Decides.{nat_tests}
use Rattle.clause_base.specs.Choice.{Known, same_value, least_open_from, least_open, plain_choice_from}
use Rattle.clause_base.specs.Literal.{literal_of}
use Rattle.clause_base.specs.ValueTruths.{says, value_at, values_of, AreGivenBelow, AreTruths}

-- the plain choice is the least open variable's
pub plain_choice-least : (v : ℕ) (values : Known) → plain_choice_from v values ≡ option_map (λ w. literal_of w false) (least_open_from v values)
plain_choice-least v [] = refl
plain_choice-least v (None ∷ values) = refl
plain_choice-least v (Some b ∷ values) = plain_choice-least (v + 1) values

-- Values by number.

length-values : (n : ℕ) (on : List Bool) → length (values_of n on) ≡ n
length-values n on = length-map-range_with_len (value_at on) 0 n

-- of a model as many
pub length-view : (n : ℕ) (on : List Bool) (now : Known) → values_of n on ≡ now → length now ≡ n
length-view n on now v = ap (λ (values : Known). length values) (sym v) ∙ length-values n on

-- a variable's literals have their places
pub variable_below : (n low v : ℕ) (on : List Bool) (now : Known) → AreTruths n low on → values_of n on ≡ now → v < length now → (v < n) × (2 * v + 1 < length on)
variable_below n low v on now r is within =
    let long = length-view n on now is in
    let size = r.size in
    (omega (arith, long, within), omega (arith, long, within, size))

zero_plus : (v : ℕ) → 0 + v ≡ v
zero_plus v = omega arith

pub values-get : (n v : ℕ) (on : List Bool) → v < n → slice_get (values_of n on) v ≡ Some (value_at on v)
values-get n v on h =
    let within : v < length (values_of n on) = omega (arith, length-values n on, h) in
    slice_get-get_or (values_of n on) v None within
    ∙ ap (λ (x : Option Bool). Some x) (get_or-map-range_with_len (value_at on) 0 n v v None h (zero_plus v))

pub below_or : (m n : ℕ) → (m < n) ⊎ (n ≤ m)
below_or m n = grind arith

same_or_apart : (m n : ℕ) → (m ≡ n) ⊎ (m ≢ n)
same_or_apart m n = grind arith

-- what is got of a model is what the table has
pub value_got : (n v : ℕ) (on : List Bool) (now : Known) (o : Option Bool) → values_of n on ≡ now → slice_get now v ≡ Some o → (v < n) × (value_at on v ≡ o)
value_got n v on now o is e = by (below_or v n)
  where
    long : length now ≡ n
    long = length-view n on now is

    past : (xs : Known) (k : ℕ) → length xs ≤ k → slice_get xs k ≡ None
    past [] k h = refl
    past (x ∷ xs) zero h = absurd (omega (arith, h))
    past (x ∷ xs) (suc k) h = past xs k (omega (arith, h))

    by : (v < n) ⊎ (n ≤ v) → (v < n) × (value_at on v ≡ o)
    by (inl h) =
        let s : Some (value_at on v) ≡ Some o = sym (values-get n v on h) ∙ ap (λ (values : Known). slice_get values v) is ∙ e in
        (h, cc)
    by (inr h) = let z = past now v (omega (arith, long, h)) in absurd (let w : ⊥ = cc in w)

-- and the literal that was asked for has its place
pub literal_got : (n low l : ℕ) (on : List Bool) (now : Known) (o : Option Bool) → AreTruths n low on → values_of n on ≡ now → slice_get now (l / 2) ≡ Some o
    → (l / 2 < n) × (value_at on (l / 2) ≡ o) × (l < length on)
literal_got n low l on now o r is e =
    let got = value_got n (l / 2) on now o is e in
    let size = r.size in
    (got.0, got.1, omega (arith, got.0, size))

-- the value of a variable by what is known of its literals
pub true_at : (on : List Bool) (v : ℕ) → get_or on (2 * v) false ≡ true → value_at on v ≡ Some true
true_at on v e = rw e

pub false_at : (on : List Bool) (v : ℕ) → get_or on (2 * v) false ≡ false → get_or on (2 * v + 1) false ≡ true → value_at on v ≡ Some false
false_at on v e f = rw (e, f)

pub none_at : (on : List Bool) (v : ℕ) → get_or on (2 * v) false ≡ false → get_or on (2 * v + 1) false ≡ false → value_at on v ≡ None
none_at on v e f = rw (e, f)

-- what was read of a table and tested
pub read_at : (on : List Bool) (i : ℕ) (got b : Bool) → i < length on → got ≡ get_or on i got → got ≡ b → get_or on i false ≡ b
read_at on i got b h e f = get_or_default on i false got h ∙ sym e ∙ f

-- so the value of a variable is read
pub values_read : (n v : ℕ) (on : List Bool) (now : Known) {o : Option Bool} → values_of n on ≡ now → v < n → value_at on v ≡ o → slice_get now v ≡ Some o
values_read n v on now is below at =
    ap (λ (values : Known). slice_get values v) (sym is) ∙ values-get n v on below ∙ ap (λ (x : Option Bool). Some x) at

-- and that of one whose first literal is not true
pub off_read : (n v : ℕ) (on : List Bool) (now : Known) (a b x : Bool) → values_of n on ≡ now → v < n → length on ≡ 2 * n → a ≡ get_or on (2 * v) a
    → b ≡ get_or on (2 * v + 1) b → a ≡ false → b ≡ x → slice_get now v ≡ Some (if x then Some false else None)
off_read n v on now a b x is below size ea eb fa fb =
    values_read n v on now is below
    (by x (read_at on (2 * v) a false (omega (arith, below, size)) ea fa) (read_at on (2 * v + 1) b x (omega (arith, below, size)) eb fb))
  where
    by : (x : Bool) → get_or on (2 * v) false ≡ false → get_or on (2 * v + 1) false ≡ x → value_at on v ≡ (if x then Some false else None)
    by true f s = false_at on v f s
    by false f s = none_at on v f s

-- past the last variable too
pub values-at : (n low v : ℕ) (on : List Bool) → AreTruths n low on → get_or (values_of n on) v None ≡ value_at on v
values-at n low v on r = by (below_or v n)
  where
    by : (v < n) ⊎ (n ≤ v) → get_or (values_of n on) v None ≡ value_at on v
    by (inl h) = get_or-map-range_with_len (value_at on) 0 n v v None h (zero_plus v)
    by (inr h) =
        let size = r.size in
        get_or_past (values_of n on) v None (omega (arith, length-values n on, h))
        ∙ sym (none_at on v (get_or_past on (2 * v) false (omega (arith, size, h))) (get_or_past on (2 * v + 1) false (omega (arith, size, h))))

-- the table says of each literal what the values say
pub truth_is : (n low : ℕ) (on : List Bool) (now : Known) → AreTruths n low on → values_of n on ≡ now → (l : ℕ) → get_or on l false ≡ says now l
truth_is n low on now r is l =
    by (l % 2 == 0) refl (get_or on (2 * (l / 2)) false) refl (get_or on (2 * (l / 2) + 1) false) refl
    ∙ ap (λ (o : Option Bool). same_value o (Some (l % 2 == 0))) (sym (values-at n low (l / 2) on r))
    ∙ ap (λ (values : Known). says values l) is
  where
    by : (e : Bool) → (l % 2 == 0) ≡ e → (p : Bool) → get_or on (2 * (l / 2)) false ≡ p → (q : Bool) → get_or on (2 * (l / 2) + 1) false ≡ q
        → get_or on l false ≡ same_value (value_at on (l / 2)) (Some (l % 2 == 0))
    by true f true g q h =
        let t : l ≡ 2 * (l / 2) = grind (arith, nat_tests) in
        rw (f, g) (ap (λ (k : ℕ). get_or on k false) t ∙ g)
    by true f false g true h =
        let t : l ≡ 2 * (l / 2) = grind (arith, nat_tests) in
        rw (f, g, h) (ap (λ (k : ℕ). get_or on k false) t ∙ g)
    by true f false g false h =
        let t : l ≡ 2 * (l / 2) = grind (arith, nat_tests) in
        rw (f, g, h) (ap (λ (k : ℕ). get_or on k false) t ∙ g)
    by false f true g q h =
        let t : l ≡ 2 * (l / 2) + 1 = grind (arith, nat_tests) in
        rw (f, g) (ap (λ (k : ℕ). get_or on k false) t ∙ r.one (l / 2) g)
    by false f false g true h =
        let t : l ≡ 2 * (l / 2) + 1 = grind (arith, nat_tests) in
        rw (f, g, h) (ap (λ (k : ℕ). get_or on k false) t ∙ h)
    by false f false g false h =
        let t : l ≡ 2 * (l / 2) + 1 = grind (arith, nat_tests) in
        rw (f, g, h) (ap (λ (k : ℕ). get_or on k false) t ∙ h)

-- one value is another one
set_in : (f g : ℕ → Option Bool) (x : Option Bool) (s n v : ℕ) → v < n → g (s + v) ≡ x → ((k : ℕ) → k ≢ s + v → g k ≡ f k) → map g (range_with_len s n) ≡ set (map f (range_with_len s n)) v x
set_in f g x s zero v h e d = absurd (omega arith)
set_in f g x s (suc n) zero h e d =
    let here : s + 0 ≡ s = omega arith in
    ap (λ (y : Option Bool). y ∷ map g (range_with_len (s + 1) n)) (ap g (sym here) ∙ e)
    ∙ ap (λ (ys : Known). x ∷ ys) (same_above f g (s + 1) n (λ k l. d k (λ z. omega (arith, z, l))))
  where
    same_above : (f g : ℕ → Option Bool) (s n : ℕ) → ((k : ℕ) → s ≤ k → g k ≡ f k) → map g (range_with_len s n) ≡ map f (range_with_len s n)
    same_above f g s zero h = refl
    same_above f g s (suc n) h = ap (λ (y : Option Bool). y ∷ map g (range_with_len (s + 1) n)) (h s (omega arith))
        ∙ ap (λ (ys : Known). f s ∷ ys) (same_above f g (s + 1) n (λ k l. h k (omega arith)))
set_in f g x s (suc n) (suc v) h e d =
    let next : s + 1 + v ≡ s + suc v = omega arith in
    ap (λ (y : Option Bool). y ∷ map g (range_with_len (s + 1) n)) (d s (λ z. omega (arith, z)))
    ∙ ap (λ (ys : Known). f s ∷ ys) (set_in f g x (s + 1) n v (omega arith) (ap g next ∙ e) (λ k z. d k (λ y. z (y ∙ sym next))))

-- Literals of one variable change.

abbrev pub IsElsewhere : ℕ → List Bool → List Bool → Type 0
IsElsewhere v on new = (l : ℕ) → l / 2 ≢ v → get_or new l false ≡ get_or on l false

pub values-set : (n v : ℕ) (on new : List Bool) (x : Option Bool) → v < n → IsElsewhere v on new → value_at new v ≡ x → values_of n new ≡ set (values_of n on) v x
values-set n v on new x h d e =
    set_in (value_at on) (value_at new) x 0 n v h (ap (value_at new) (zero_plus v) ∙ e)
    (λ k z. elsewhere k (d (2 * k) (λ y. z (omega (arith, y)))) (d (2 * k + 1) (λ y. z (omega (arith, y)))))
  where
    elsewhere : (k : ℕ) → get_or new (2 * k) false ≡ get_or on (2 * k) false → get_or new (2 * k + 1) false ≡ get_or on (2 * k + 1) false → value_at new k ≡ value_at on k
    elsewhere k p q = rw (p, q)

-- one table of truths from another one of the same length
pub truths_changed : (n low less v : ℕ) (on new : List Bool) → AreTruths n low on → length new ≡ length on → IsElsewhere v on new
    → (get_or new (2 * v) false ≡ true → get_or new (2 * v + 1) false ≡ false) → less ≤ low → (value_at new v ≡ None → less ≤ v) → AreTruths n less new
truths_changed n low less v on new r l d one a b =
    let size = r.size in
    let begins = r.begins in
    record {
      few = r.few;
      size = omega (arith, size, l);
      one = λ k. one_by k (same_or_apart k v);
      begins = omega (arith, begins, a);
      passed = λ k h. passed_by k h (same_or_apart k v);
    }
  where
    one_by : (k : ℕ) → (k ≡ v) ⊎ (k ≢ v) → get_or new (2 * k) false ≡ true → get_or new (2 * k + 1) false ≡ false
    one_by k (inl q) e = subst (λ (w : ℕ). get_or new (2 * w) false ≡ true → get_or new (2 * w + 1) false ≡ false) (sym q) one e
    one_by k (inr q) e =
        d (2 * k + 1) (λ y. q (omega (arith, y))) ∙ r.one k (sym (d (2 * k) (λ y. q (omega (arith, y)))) ∙ e)

    passed_by : (k : ℕ) → k < less → (k ≡ v) ⊎ (k ≢ v) → value_at new k ≡ None → ⊥
    passed_by k h (inl q) e = let z = b (ap (value_at new) (sym q) ∙ e) in omega (arith, z, q, h)
    passed_by k h (inr q) e =
        r.passed k (omega (arith, a, h)) (same k (d (2 * k) (λ y. q (omega (arith, y)))) (d (2 * k + 1) (λ y. q (omega (arith, y)))) ∙ e)
      where
        same : (k : ℕ) → get_or new (2 * k) false ≡ get_or on (2 * k) false → get_or new (2 * k + 1) false ≡ get_or on (2 * k + 1) false → value_at on k ≡ value_at new k
        same k p q = rw (p, q)

-- one write
pub elsewhere_set : (on : List Bool) (l : ℕ) (b : Bool) → IsElsewhere (l / 2) on (set on l b)
elsewhere_set on l b k d = get_or-set_other on l k b false (λ y. d (ap (λ (x : ℕ). x / 2) y))

pub elsewhere_both : (on : List Bool) (v : ℕ) (a b : Bool) → IsElsewhere v on (set (set on (2 * v) a) (2 * v + 1) b)
elsewhere_both on v a b k d =
    get_or-set_other (set on (2 * v) a) (2 * v + 1) k b false (λ y. d (omega (arith, y))) ∙ get_or-set_other on (2 * v) k a false (λ y. d (omega (arith, y)))

-- both literals of a variable are written
pub both_at : (on : List Bool) (v : ℕ) (a b : Bool) → 2 * v + 1 < length on
    → (let new : List Bool = set (set on (2 * v) a) (2 * v + 1) b in (length new ≡ length on) × (get_or new (2 * v) false ≡ a) × (get_or new (2 * v + 1) false ≡ b))
both_at on v a b h = (
  length-set (set on (2 * v) a) (2 * v + 1) b ∙ length-set on (2 * v) a,
  get_or-set_other (set on (2 * v) a) (2 * v + 1) (2 * v) b false (λ y. omega (arith, y)) ∙ get_or-set_same on (2 * v) a false (omega (arith, h)),
  get_or-set_same (set on (2 * v) a) (2 * v + 1) b false (omega (arith, h, length-set on (2 * v) a)),
)

-- both literals of a variable are written: its value, and what is kept
abbrev pub value_by : Bool → Bool → Option Bool
value_by a b = if a then Some true else if b then Some false else None

pub value_both : (n low less v : ℕ) (on : List Bool) (a b : Bool) → AreTruths n low on → v < n → (a ≡ true → b ≡ false) → less ≤ low → (value_by a b ≡ None → less ≤ v)
    → (values_of n (set (set on (2 * v) a) (2 * v + 1) b) ≡ set (values_of n on) v (value_by a b)) × AreTruths n less (set (set on (2 * v) a) (2 * v + 1) b)
value_both n low less v on a b r h one l m =
    let new : List Bool = set (set on (2 * v) a) (2 * v + 1) b in
    let size = r.size in
    let at = both_at on v a b (omega (arith, size, h)) in
    let value : value_at new v ≡ value_by a b = ap (λ (p : Bool). value_by p (get_or new (2 * v + 1) false)) at.1 ∙ ap (λ (q : Bool). value_by a q) at.2 in (
      values-set n v on new (value_by a b) h (elsewhere_both on v a b) value,
      truths_changed n low less v on new r at.0 (elsewhere_both on v a b) (λ e. at.2 ∙ one (sym at.1 ∙ e)) l (λ e. m (sym value ∙ e)),
    )

-- the truths of both literals of an open variable
open_by : (p q : Bool) → (if p then Some true else if q then Some false else None) ≡ None → (p ≡ false) × (q ≡ false)
open_by true q e = cc
open_by false true e = cc
open_by false false e = (refl, refl)

pub open_at : (on : List Bool) (v : ℕ) → value_at on v ≡ None → (get_or on (2 * v) false ≡ false) × (get_or on (2 * v + 1) false ≡ false)
open_at on v e = open_by (get_or on (2 * v) false) (get_or on (2 * v + 1) false) e

-- a literal of an open variable is made true
pub value_true : (on : List Bool) (l : ℕ) → l < length on → value_at on (l / 2) ≡ None
    → (value_at (set on l true) (l / 2) ≡ Some (l % 2 == 0)) × (get_or (set on l true) (2 * (l / 2)) false ≡ true → get_or (set on l true) (2 * (l / 2) + 1) false ≡ false)
value_true on l h e = by (l % 2 == 0) refl (open_at on (l / 2) e)
  where
    own : get_or (set on l true) l false ≡ true
    own = get_or-set_same on l true false h

    by : (b : Bool) → (l % 2 == 0) ≡ b → (get_or on (2 * (l / 2)) false ≡ false) × (get_or on (2 * (l / 2) + 1) false ≡ false)
        → (value_at (set on l true) (l / 2) ≡ Some b) × (get_or (set on l true) (2 * (l / 2)) false ≡ true → get_or (set on l true) (2 * (l / 2) + 1) false ≡ false)
    by true f o =
        let t : 2 * (l / 2) ≡ l = grind (arith, nat_tests) in
        let other : get_or (set on l true) (2 * (l / 2) + 1) false ≡ false = get_or-set_other on l (2 * (l / 2) + 1) true false (λ y. omega (arith, y, t)) ∙ o.1 in
        (true_at (set on l true) (l / 2) (ap (λ (k : ℕ). get_or (set on l true) k false) t ∙ own), λ z. other)
    by false f o =
        let t : 2 * (l / 2) + 1 ≡ l = grind (arith, nat_tests) in
        let other : get_or (set on l true) (2 * (l / 2)) false ≡ false = get_or-set_other on l (2 * (l / 2)) true false (λ y. omega (arith, y, t)) ∙ o.0 in
        (false_at (set on l true) (l / 2) other (ap (λ (k : ℕ). get_or (set on l true) k false) t ∙ own), λ z. absurd (let w : ⊥ = cc in w))

-- the truths of both literals of a variable with a value
even_by : (p q : Bool) → (p ≡ true → q ≡ false) → (if p then Some true else if q then Some false else None) ≡ Some true → q ≡ false
even_by true q one e = one refl
even_by false true one e = cc
even_by false false one e = refl

odd_by : (p q : Bool) → (if p then Some true else if q then Some false else None) ≡ Some false → p ≡ false
odd_by true q e = cc
odd_by false q e = refl

-- a true literal is taken back
pub value_taken : (on : List Bool) (l : ℕ) → l < length on → (get_or on (2 * (l / 2)) false ≡ true → get_or on (2 * (l / 2) + 1) false ≡ false) → value_at on (l / 2) ≡ Some (l % 2 == 0)
    → (value_at (set on l false) (l / 2) ≡ None) × (get_or (set on l false) (2 * (l / 2)) false ≡ true → get_or (set on l false) (2 * (l / 2) + 1) false ≡ false)
value_taken on l h one e = by (l % 2 == 0) refl
  where
    own : get_or (set on l false) l false ≡ false
    own = get_or-set_same on l false false h

    by : (b : Bool) → (l % 2 == 0) ≡ b → (value_at (set on l false) (l / 2) ≡ None) × (get_or (set on l false) (2 * (l / 2)) false ≡ true → get_or (set on l false) (2 * (l / 2) + 1) false ≡ false)
    by true f =
        let t : 2 * (l / 2) ≡ l = grind (arith, nat_tests) in
        let q : get_or on (2 * (l / 2) + 1) false ≡ false = even_by (get_or on (2 * (l / 2)) false) (get_or on (2 * (l / 2) + 1) false) one (e ∙ ap (λ (b : Bool). Some b) f) in
        let other : get_or (set on l false) (2 * (l / 2) + 1) false ≡ false = get_or-set_other on l (2 * (l / 2) + 1) false false (λ y. omega (arith, y, t)) ∙ q in
        (none_at (set on l false) (l / 2) (ap (λ (k : ℕ). get_or (set on l false) k false) t ∙ own) other, λ z. other)
    by false f =
        let t : 2 * (l / 2) + 1 ≡ l = grind (arith, nat_tests) in
        let p : get_or on (2 * (l / 2)) false ≡ false = odd_by (get_or on (2 * (l / 2)) false) (get_or on (2 * (l / 2) + 1) false) (e ∙ ap (λ (b : Bool). Some b) f) in
        let other : get_or (set on l false) (2 * (l / 2)) false ≡ false = get_or-set_other on l (2 * (l / 2)) false false (λ y. omega (arith, y, t)) ∙ p in
        let last : get_or (set on l false) (2 * (l / 2) + 1) false ≡ false = ap (λ (k : ℕ). get_or (set on l false) k false) t ∙ own in
        (none_at (set on l false) (l / 2) other last, λ z. last)

-- At first no value is given.

none_in : (f : ℕ → Option Bool) (s n : ℕ) → ((k : ℕ) → f k ≡ None) → map f (range_with_len s n) ≡ replicate n None
none_in f s zero h = refl
none_in f s (suc n) h = ap (λ (y : Option Bool). y ∷ map f (range_with_len (s + 1) n)) (h s) ∙ ap (λ (ys : Known). None ∷ ys) (none_in f (s + 1) n h)

off_in : (m l : ℕ) → get_or (replicate m false) l false ≡ false
off_in zero l = refl
off_in (suc m) zero = refl
off_in (suc m) (suc l) = off_in m l

pub none_of : (n : ℕ) (on : List Bool) → on ≡ replicate (2 * n) false → values_of n on ≡ replicate n None
none_of n on e = rw e (none_in (value_at (replicate (2 * n) false)) 0 n (λ k. none_at (replicate (2 * n) false) k (off_in (2 * n) (2 * k)) (off_in (2 * n) (2 * k + 1))))

-- The least variable without a value.

open_after : (v k : ℕ) (values : Known) → k < length values → get_or values k None ≡ None → ((j : ℕ) → j < k → (get_or values j None ≡ None → ⊥)) → least_open_from v values ≡ Some (v + k)
open_after v k [] h e d = absurd (omega arith)
open_after v zero (None ∷ values) h e d = let same : v ≡ v + 0 = omega arith in ap (λ (w : ℕ). Some w) same
open_after v zero (Some b ∷ values) h e d = cc
open_after v (suc k) (None ∷ values) h e d = absurd (d 0 (omega arith) refl)
open_after v (suc k) (Some b ∷ values) h e d =
    let same : v + 1 + k ≡ v + suc k = omega arith in
    open_after (v + 1) k values (omega arith) e (λ j l. d (suc j) (omega arith)) ∙ ap (λ (w : ℕ). Some w) same

none_open : (v : ℕ) (values : Known) → ((j : ℕ) → j < length values → (get_or values j None ≡ None → ⊥)) → least_open_from v values ≡ None
none_open v [] d = refl
none_open v (None ∷ values) d = absurd (d 0 (omega arith) refl)
none_open v (Some b ∷ values) d = none_open (v + 1) values (λ j l. d (suc j) (omega arith))

least_open-some : (n low v : ℕ) (on : List Bool) → AreTruths n low on → v < n → AreGivenBelow v on → value_at on v ≡ None → least_open (values_of n on) ≡ Some v
least_open-some n low v on r h below e =
    let within : v < length (values_of n on) = omega (arith, length-values n on, h) in
    open_after 0 v (values_of n on) within (values-at n low v on r ∙ e) (λ j l z. below j l (sym (values-at n low j on r) ∙ z))
    ∙ ap (λ (w : ℕ). Some w) (zero_plus v)

least_open-none : (n low : ℕ) (on : List Bool) → AreTruths n low on → AreGivenBelow n on → least_open (values_of n on) ≡ None
least_open-none n low on r all =
    none_open 0 (values_of n on) (λ j l z. all j (omega (arith, l, length-values n on)) (sym (values-at n low j on r) ∙ z))

-- the least variable without a value, as it is found
pub least_open-by : (n low : ℕ) (on found : List Bool) (now : Known) (o : Option ℕ) → AreTruths n low on → values_of n on ≡ now → found ≡ on → IfSome o (λ v. v < n)
    → IfSome o (λ v. AreGivenBelow v found) → IfSome o (λ v. value_at found v ≡ None) → IfNone o (AreGivenBelow n found) → o ≡ least_open now
least_open-by n low on found now None r v e a b c d =
    sym (least_open-none n low on r (subst (AreGivenBelow n) e d)) ∙ ap least_open v
least_open-by n low on found now (Some w) r v e a b c d =
    sym (least_open-some n low w on r a (subst (AreGivenBelow w) e b) (ap (λ (ws : List Bool). value_at ws w) (sym e) ∙ c)) ∙ ap least_open v

pub some_less : (m n : ℕ) (o : Option ℕ) → m ≡ n → IfSome o (λ v. v < n) → IfSome o (λ v. v < m)
some_less m n None e h = tt
some_less m n (Some v) e h = omega (arith, e, h)
