-- The clauses of all steps and of all times by their numbers.
use Rattle.std.proofs.Common.{arith, ◌≡◌, ℕ, zero, suc, ◌+◌, ◌-◌, ◌*◌, ◌/◌, ◌%◌, ◌<◌, ◌≤◌, List, [], ◌∷◌, ◌++◌, map, length, length-append, nat_lt, Bool, true, false, refl, sym, ap, ◌∙◌, subst, ◌⊎◌, inl, inr, Some, All, if◌then◌else◌}
use Rattle.std.specs.List.{flat_map, range_with_len, slice_get}
use Rattle.std.specs.Option.{option_map}
use Rattle.std.proofs.lemmas.List.Elements.{All-append, All-nil, All-cons}
use Rattle.std.proofs.lemmas.Option.{slice_get-map}
use Rattle.std.proofs.lemmas.Bool.Decides.{nat_tests}
use Rattle.std.proofs.Math.Nat.{mul-le-mul_right}
use Rattle.clause_base.specs.Clause.{IsClause, HasVariablesBelow}
use Rattle.clause_base.specs.Repeats.{Repeats, IsRepeatable, facts_at, moved_code, step_part, time_part, all_steps, all_times, repeated, variables_of}
use Rattle.clause_base.specs.View.{shifted, StaysCode}
use Rattle.clause_base.proofs.PieceLemmas.{holds_at}
use Rattle.clause_base.proofs.published.Moved.{where_is, moved_below, moved_above, moved_is_clause}

-- the place in two lists, one after the other
pub get_left : {A : Type 0} (xs ys : List A) (k : ℕ) → k < length xs → slice_get (xs ++ ys) k ≡ slice_get xs k
get_left [] ys k h = absurd (omega arith)
get_left (x ∷ xs) ys zero h = refl
get_left (x ∷ xs) ys (suc k) h = get_left xs ys k (omega arith)

pub get_right : {A : Type 0} (xs ys : List A) (j k : ℕ) → j ≡ length xs + k → slice_get (xs ++ ys) j ≡ slice_get ys k
get_right [] ys j k e = ap (slice_get ys) (let f : j ≡ k = omega arith in f)
get_right (x ∷ xs) ys zero k e = absurd (omega arith)
get_right (x ∷ xs) ys (suc j) k e = get_right xs ys j k (omega arith)

-- lists of one length, one after another
module _ {A : Type 0} (f : ℕ → List A) (s : ℕ) (long : (i : ℕ) → length (f i) ≡ s) where
  pub length_flat : (a n : ℕ) → length (flat_map f (range_with_len a n)) ≡ n * s
  length_flat a zero = omega arith
  length_flat a (suc n) =
      let h = length_flat (a + 1) n in
      let l = long a in
      let p = length-append (f a) (flat_map f (range_with_len (a + 1) n)) in
      omega arith

  pub flat_at : (a n t k : ℕ) → t < n → k < s → slice_get (flat_map f (range_with_len a n)) (t * s + k) ≡ slice_get (f (a + t)) k
  flat_at a zero t k lt in_range = absurd (omega arith)
  flat_at a (suc n) zero k lt in_range =
      let l = long a in
      let e : 0 * s + k ≡ k = omega arith in
      let g : a ≡ a + 0 = omega arith in
      ap (slice_get (flat_map f (range_with_len a (suc n)))) e
      ∙ get_left (f a) (flat_map f (range_with_len (a + 1) n)) k (omega arith)
      ∙ ap (λ (i : ℕ). slice_get (f i) k) g
  flat_at a (suc n) (suc t) k lt in_range =
      let l = long a in
      let e : a + 1 + t ≡ a + suc t = omega arith in
      get_right (f a) (flat_map f (range_with_len (a + 1) n)) (suc t * s + k) (t * s + k) (omega arith)
      ∙ flat_at (a + 1) n t k (omega arith) in_range
      ∙ ap (λ (i : ℕ). slice_get (f i) k) e

-- what holds of each part holds of all
all_flat : {A : Type 0} (P : A → Type 0) (f : ℕ → List A) (a n : ℕ) → ((t : ℕ) → t < a + n → All P (f t)) → All P (flat_map f (range_with_len a n))
all_flat P f a zero h = All-nil P
all_flat P f a (suc n) h = All-append P (f a) (flat_map f (range_with_len (a + 1) n)) (h a (omega arith)) (all_flat P f (a + 1) n (λ t lt. h t (omega arith)))

all_map : {A B : Type 0} (P : B → Type 0) (Q : A → Type 0) (g : A → B) (xs : List A) → ((x : A) → Q x → P (g x)) → All Q xs → All P (map g xs)
all_map P Q g [] h a = All-nil P
all_map P Q g (x ∷ xs) h a = All-cons P (g x) (map g xs) (h x (a 0 x (omega arith))) (all_map P Q g xs h (λ k d i. a (suc k) d (omega arith)))

pub length_map : {A B : Type 0} (g : A → B) (xs : List A) → length (map g xs) ≡ length xs
length_map g [] = refl
length_map g (x ∷ xs) = ap (λ (n : ℕ). suc n) (length_map g xs)

pub length_steps : (r : Repeats) → length (all_steps r) ≡ r.horizon * length r.step
length_steps r = length_flat (step_part r) (length r.step) (λ t. length_map (map (moved_code r.width (t * r.width) (r.horizon * r.width + t * r.facts))) r.step) 0 r.horizon

pub length_times : (r : Repeats) → length (all_times r) ≡ (r.horizon + 1) * length r.time
length_times r = length_flat (time_part r) (length r.time) (λ t. length_map (map (moved_code 0 0 (r.horizon * r.width + t * r.facts))) r.time) 0 (r.horizon + 1)

pub length_repeated : (r : Repeats) → length (repeated r) ≡ r.horizon * length r.step + (r.horizon + 1) * length r.time
length_repeated r = let p = length-append (all_steps r) (all_times r) in let s = length_steps r in let t = length_times r in omega arith

-- the clauses of one step and of one time by their numbers among all
pub step_at : (r : Repeats) (t k : ℕ) → t < r.horizon → k < length r.step → slice_get (all_steps r) (t * length r.step + k) ≡ slice_get (step_part r t) k
step_at r t k lt in_range =
    let z : 0 + t ≡ t = omega arith in
    flat_at (step_part r) (length r.step) (λ i. length_map (map (moved_code r.width (i * r.width) (r.horizon * r.width + i * r.facts))) r.step) 0 r.horizon t k lt in_range
    ∙ ap (λ (i : ℕ). slice_get (step_part r i) k) z

pub time_at : (r : Repeats) (t k : ℕ) → t < r.horizon + 1 → k < length r.time → slice_get (all_times r) (t * length r.time + k) ≡ slice_get (time_part r t) k
time_at r t k lt in_range =
    let z : 0 + t ≡ t = omega arith in
    flat_at (time_part r) (length r.time) (λ i. length_map (map (moved_code 0 0 (r.horizon * r.width + i * r.facts))) r.time) 0 (r.horizon + 1) t k lt in_range
    ∙ ap (λ (i : ℕ). slice_get (time_part r i) k) z

-- which of so many parts a number is in
pub part_of : (number n s : ℕ) → number < n * s → (0 < s) × (number / s < n) × (number % s < s) × (number / s * s + number % s ≡ number)
part_of number n s h = by (where_is 0 s)
  where
    by : (0 < s) ⊎ (s ≤ 0) → (0 < s) × (number / s < n) × (number % s < s) × (number / s * s + number % s ≡ number)
    by (inl p) =
        let e : number / s * s + number % s ≡ number = omega arith in
        (p, quotient (where_is (number / s) n) e, omega arith, e)
      where
        quotient : (number / s < n) ⊎ (n ≤ number / s) → number / s * s + number % s ≡ number → number / s < n
        quotient (inl q) e = q
        quotient (inr q) e = absurd (let m = mul-le-mul_right s q in omega arith)
    by (inr p) = absurd (let e : s ≡ 0 = omega arith in let z : n * s ≡ 0 = ap (λ (x : ℕ). n * x) e ∙ omega arith in omega arith)

-- a moved code, by what is added
pub moved_shifted : (w s f low high l : ℕ) → low ≡ 2 * s → high + 2 * w ≡ 2 * f → moved_code w s f l ≡ shifted (2 * w) low high l
moved_shifted w s f low high l a b = by (nat_lt l (2 * w)) refl
  where
    by : (c : Bool) → nat_lt l (2 * w) ≡ c → (if c then 2 * s + l else 2 * f + (l - 2 * w)) ≡ (if c then low + l else high + l)
    by true e = omega arith
    by false e = let le : 2 * w ≤ l = grind (arith, nat_tests) in omega arith

map_same : (f g : ℕ → ℕ) (xs : List ℕ) → ((x : ℕ) → f x ≡ g x) → map f xs ≡ map g xs
map_same f g [] h = refl
map_same f g (x ∷ xs) h = rw (h x, map_same f g xs h)

-- a literal of a step stays below
step_room : (n w fs t l : ℕ) → t < n → l / 2 < w + 2 * fs → moved_code w (t * w) (n * w + t * fs) l / 2 < n * w + (n + 1) * fs
step_room n w fs t l lt in_step =
    let le : t + 1 ≤ n = omega arith in
    let a = mul-le-mul_right w le in
    let b = mul-le-mul_right fs le in
    by (where_is l (2 * w)) (let x : t * w + w ≤ n * w = omega arith in x) (let y : t * fs + fs ≤ n * fs = omega arith in y)
  where
    by : (l < 2 * w) ⊎ (2 * w ≤ l) → t * w + w ≤ n * w → t * fs + fs ≤ n * fs → moved_code w (t * w) (n * w + t * fs) l / 2 < n * w + (n + 1) * fs
    by (inl i) a b = let m = moved_below w (t * w) (n * w + t * fs) l i in omega arith
    by (inr i) a b = let m = moved_above w (t * w) (n * w + t * fs) l i in omega arith

time_room : (n w fs t l : ℕ) → t < n + 1 → l / 2 < fs → moved_code 0 0 (n * w + t * fs) l / 2 < n * w + (n + 1) * fs
time_room n w fs t l lt in_time =
    let le : t ≤ n = omega arith in
    let b = mul-le-mul_right fs le in
    let m = moved_above 0 0 (n * w + t * fs) l (omega arith) in
    omega arith

-- the variables of one step come before the facts
step_order : (n w fs t : ℕ) → t < n → t * w + w ≤ n * w + t * fs
step_order n w fs t lt = let le : t + 1 ≤ n = omega arith in let a = mul-le-mul_right w le in omega arith

module _ (r : Repeats) (is : IsRepeatable r) where
  steps_all : (P : List ℕ → Type 0) → ((t : ℕ) (c : List ℕ) → t < r.horizon → IsClause c × HasVariablesBelow (r.width + 2 * r.facts) c → P (map (moved_code r.width (t * r.width) (r.horizon * r.width + t * r.facts)) c)) → All IsClause r.step → All P (all_steps r)
  steps_all P h a =
      all_flat P (step_part r) 0 r.horizon (λ t lt.
      all_map P (λ c. IsClause c × HasVariablesBelow (r.width + 2 * r.facts) c) (map (moved_code r.width (t * r.width) (r.horizon * r.width + t * r.facts))) r.step (λ c q. h t c (omega arith) q) (λ k d i. (a k d i, is.step_below k d i)))

  times_all : (P : List ℕ → Type 0) → ((t : ℕ) (c : List ℕ) → t < r.horizon + 1 → IsClause c × HasVariablesBelow r.facts c → P (map (moved_code 0 0 (r.horizon * r.width + t * r.facts)) c)) → All IsClause r.time → All P (all_times r)
  times_all P h a =
      all_flat P (time_part r) 0 (r.horizon + 1) (λ t lt.
      all_map P (λ c. IsClause c × HasVariablesBelow r.facts c) (map (moved_code 0 0 (r.horizon * r.width + t * r.facts))) r.time (λ c q. h t c (omega arith) q) (λ k d i. (a k d i, is.time_below k d i)))

  -- they are clauses
  pub repeated_lawful : All IsClause r.step → All IsClause r.time → All IsClause (repeated r)
  repeated_lawful a b =
      All-append IsClause (all_steps r) (all_times r)
      (steps_all IsClause (λ t c lt q. moved_is_clause r.width (t * r.width) (r.horizon * r.width + t * r.facts) c (step_order r.horizon r.width r.facts t lt) q.0) a)
      (times_all IsClause (λ t c lt q. moved_is_clause 0 0 (r.horizon * r.width + t * r.facts) c (omega arith) q.0) b)

  -- over the variables of all steps and times
  pub repeated_below : All IsClause r.step → All IsClause r.time → All (HasVariablesBelow (variables_of r)) (repeated r)
  repeated_below a b =
      All-append (HasVariablesBelow (variables_of r)) (all_steps r) (all_times r)
      (steps_all (HasVariablesBelow (variables_of r)) (λ t c lt q.
      all_map (λ l. l / 2 < variables_of r) (λ l. l / 2 < r.width + 2 * r.facts) (moved_code r.width (t * r.width) (r.horizon * r.width + t * r.facts)) c (λ l h. step_room r.horizon r.width r.facts t l lt h) q.1) a)
      (times_all (HasVariablesBelow (variables_of r)) (λ t c lt q.
      all_map (λ l. l / 2 < variables_of r) (λ l. l / 2 < r.facts) (moved_code 0 0 (r.horizon * r.width + t * r.facts)) c (λ l h. time_room r.horizon r.width r.facts t l lt h) q.1) b)

-- the clause of a step or a time is read by what is added
module _ (r : Repeats) (part begin : ℕ) (b : begin ≡ facts_at r part) where
  step_same : (l : ℕ) → part < r.horizon → moved_code r.width (part * r.width) (r.horizon * r.width + part * r.facts) l ≡ shifted (2 * r.width) (part * (2 * r.width)) (begin - 2 * r.width) l
  step_same l lt =
      let o = step_order r.horizon r.width r.facts part lt in
      moved_shifted r.width (part * r.width) (r.horizon * r.width + part * r.facts) (part * (2 * r.width)) (begin - 2 * r.width) l (omega arith) (omega (arith, b, o))

  time_same : (l : ℕ) → moved_code 0 0 (r.horizon * r.width + part * r.facts) l ≡ shifted 0 0 begin l
  time_same l = moved_shifted 0 0 (r.horizon * r.width + part * r.facts) 0 begin l refl (omega (arith, b))

  time_stays : (c : List ℕ) → IsRepeatable r → part < r.horizon + 1 → HasVariablesBelow r.facts c → All (StaysCode 0 0 begin) c
  time_stays c is lt h k d i fits =
      let m = time_room r.horizon r.width r.facts part _ lt (h k d i) in
      let e = time_same _ in
      let s = is.small in
      subst (λ (x : ℕ). x ≤ 4294967295) e (omega arith)

  step_read : (place : ℕ) (lits moved : List ℕ) → part < r.horizon → place < length r.step → slice_get r.step place ≡ Some lits → moved ≡ map (shifted (2 * r.width) (part * (2 * r.width)) (begin - 2 * r.width)) lits → slice_get (all_steps r) (part * length r.step + place) ≡ Some moved
  step_read place lits moved lt inside at is =
      let g = moved_code r.width (part * r.width) (r.horizon * r.width + part * r.facts) in
      step_at r part place lt inside
      ∙ slice_get-map (map g) r.step place
      ∙ ap (option_map (map g)) at
      ∙ ap (λ (x : List ℕ). Some x) (map_same g (shifted (2 * r.width) (part * (2 * r.width)) (begin - 2 * r.width)) lits (λ l. step_same l lt) ∙ sym is)

  time_read : (place : ℕ) (lits moved : List ℕ) → part < r.horizon + 1 → place < length r.time → slice_get r.time place ≡ Some lits → moved ≡ map (shifted 0 0 begin) lits → slice_get (all_times r) (part * length r.time + place) ≡ Some moved
  time_read place lits moved lt inside at is =
      let g = moved_code 0 0 (r.horizon * r.width + part * r.facts) in
      time_at r part place lt inside
      ∙ slice_get-map (map g) r.time place
      ∙ ap (option_map (map g)) at
      ∙ ap (λ (x : List ℕ). Some x) (map_same g (shifted 0 0 begin) lits time_same ∙ sym is)

-- What the calls show of a value by its fields.

pub steps_value : (r now : Repeats) (k : ℕ) → r ≡ now → k ≡ r.horizon * length r.step → k ≡ length (all_steps now)
steps_value r now k v e = e ∙ sym (length_steps r) ∙ ap (λ (x : Repeats). length (all_steps x)) v

pub count_value : (r now : Repeats) (k : ℕ) → r ≡ now → k ≡ r.horizon * length r.step + (r.horizon + 1) * length r.time → k ≡ length (repeated now)
count_value r now k v e = e ∙ sym (length_repeated r) ∙ ap (λ (x : Repeats). length (repeated x)) v

pub lawful_now : (r now : Repeats) → r ≡ now → IsRepeatable r → All IsClause r.step → All IsClause r.time → All IsClause (repeated now)
lawful_now r now v is a b = subst (λ (x : Repeats). All IsClause (repeated x)) v (repeated_lawful r is a b)

pub below_now : (r now : Repeats) → r ≡ now → IsRepeatable r → All IsClause r.step → All IsClause r.time → All (HasVariablesBelow (variables_of now)) (repeated now)
below_now r now v is a b = subst (λ (x : Repeats). All (HasVariablesBelow (variables_of x)) (repeated x)) v (repeated_below r is a b)

-- of which part a number is, where the parts have so many clauses
pub numbered : (n s number count : ℕ) → count ≡ s → number < n * s → (number / count < n) × (number % count < s) × (number / count * s + number % count ≡ number)
numbered n s number count e lt =
    let p = part_of number n count (subst (λ (k : ℕ). number < n * k) (sym e) lt) in
    (p.1, subst (λ (k : ℕ). number % count < k) e p.2, ap (λ (k : ℕ). number / count * k + number % count) (sym e) ∙ p.3)

-- where the view is `now`, the clause of a step or a time is read by its place
module _ (r now : Repeats) (part begin place : ℕ) (lits : List ℕ) (v : r ≡ now) (b : begin ≡ facts_at now part) where
  at_view : begin ≡ facts_at r part
  at_view = subst (λ (x : Repeats). begin ≡ facts_at x part) (sym v) b

  pub time_stays_at : IsRepeatable r → part < now.horizon + 1 → slice_get r.time place ≡ Some lits → All (StaysCode 0 0 begin) lits
  time_stays_at is lt at = time_stays r part begin at_view lits is (subst (λ (x : Repeats). part < x.horizon + 1) (sym v) lt) (holds_at (HasVariablesBelow r.facts) r.time place lits is.time_below at)

  pub step_clause_is : (moved : List ℕ) → part < now.horizon → place < length now.step → slice_get r.step place ≡ Some lits → moved ≡ map (shifted (2 * r.width) (part * (2 * r.width)) (begin - 2 * r.width)) lits → slice_get (all_steps now) (part * length now.step + place) ≡ Some moved
  step_clause_is moved lt inside at is =
      step_read now part begin b place lits moved lt inside (subst (λ (x : Repeats). slice_get x.step place ≡ Some lits) v at)
      (subst (λ (x : Repeats). moved ≡ map (shifted (2 * x.width) (part * (2 * x.width)) (begin - 2 * x.width)) lits) v is)

  pub time_clause_is : (moved : List ℕ) → part < now.horizon + 1 → place < length now.time → slice_get r.time place ≡ Some lits → moved ≡ map (shifted 0 0 begin) lits → slice_get (all_times now) (part * length now.time + place) ≡ Some moved
  time_clause_is moved lt inside at is = time_read now part begin b place lits moved lt inside (subst (λ (x : Repeats). slice_get x.time place ≡ Some lits) v at) is
