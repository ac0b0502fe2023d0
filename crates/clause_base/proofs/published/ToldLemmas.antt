-- What literals say as one more is told, or the last one is taken back.
use Rattle.std.proofs.Common.{arith, ◌≡◌, ◌≢◌, ◌==◌, ℕ, zero, suc, ◌+◌, ◌/◌, ◌%◌, ◌<◌, ◌≤◌, List, [], ◌∷◌, ◌++◌, length, Bool, true, false, Option, Some, None, refl, sym, ap, ◌∙◌, if◌then◌else◌, slice_set, ◌⊎◌, inl, inr}
use Rattle.std.specs.List.{slice_get}
use Rattle.std.proofs.lemmas.Bool.{cases_eq}
use Rattle.std.proofs.lemmas.Bool.Decides.{nat_tests}
use Rattle.clause_base.specs.Choice.{Known}
use Rattle.clause_base.specs.Told.{told_value, told_from, told_values}

-- there is a value for each variable
pub length-told_from : (ls : List ℕ) (v n : ℕ) → length (told_from ls v n) ≡ n
length-told_from ls v zero = refl
length-told_from ls v (suc n) = ap suc (length-told_from ls (v + 1) n)

-- which is what is said of it
get_from : (ls : List ℕ) (v n k : ℕ) → k < n → slice_get (told_from ls v n) k ≡ Some (told_value ls (v + k))
get_from ls v zero k h = absurd (omega arith)
get_from ls v (suc n) zero h = let e : v ≡ v + 0 = omega arith in ap (λ (w : ℕ). Some (told_value ls w)) e
get_from ls v (suc n) (suc k) h = let e : v + 1 + k ≡ v + suc k = omega arith in get_from ls (v + 1) n k (omega arith) ∙ ap (λ (w : ℕ). Some (told_value ls w)) e

pub get-told : (n k : ℕ) (ls : List ℕ) → k < n → slice_get (told_values n ls) k ≡ Some (told_value ls k)
get-told n k ls h = let e : 0 + k ≡ k = omega arith in get_from ls 0 n k h ∙ ap (λ (w : ℕ). Some (told_value ls w)) e

-- where the same is said of each variable
same_from : (ks ls : List ℕ) (v n : ℕ) → ((w : ℕ) → v ≤ w → told_value ks w ≡ told_value ls w) → told_from ks v n ≡ told_from ls v n
same_from ks ls v zero h = refl
same_from ks ls v (suc n) h = let here = h v (omega arith) in let rest = same_from ks ls (v + 1) n (λ w l. h w (omega (arith, l))) in cc

pub told_same : (n : ℕ) (ks ls : List ℕ) → ((w : ℕ) → told_value ks w ≡ told_value ls w) → told_values n ks ≡ told_values n ls
told_same n ks ls h = same_from ks ls 0 n (λ w l. h w)

-- or of each but one
set_from : (ks ls : List ℕ) (v n k : ℕ) → ((w : ℕ) → w ≢ v + k → told_value ks w ≡ told_value ls w) → k < n → told_from ks v n ≡ slice_set (told_from ls v n) k (told_value ks (v + k))
set_from ks ls v zero k h l = absurd (omega arith)
set_from ks ls v (suc n) zero h l =
    let e : v ≡ v + 0 = omega arith in
    let here : told_value ks v ≡ told_value ks (v + 0) = ap (told_value ks) e in
    let rest = same_from ks ls (v + 1) n (λ w m. h w (λ z. omega (arith, z, m))) in
    cc
set_from ks ls v (suc n) (suc k) h l =
    let e : v + 1 + k ≡ v + suc k = omega arith in
    let here = h v (λ z. omega (arith, z)) in
    let rest = set_from ks ls (v + 1) n k (λ w m. h w (λ z. m (z ∙ sym e))) (omega arith) in
    let there : told_value ks (v + 1 + k) ≡ told_value ks (v + suc k) = ap (told_value ks) e in
    ap (λ (x : Option Bool). x ∷ told_from ks (v + 1) n) here ∙ ap (λ (xs : Known). told_value ls v ∷ xs) (rest ∙ ap (λ (x : Option Bool). slice_set (told_from ls (v + 1) n) k x) there)

pub told_set : (n k : ℕ) (ks ls : List ℕ) → ((w : ℕ) → w ≢ k → told_value ks w ≡ told_value ls w) → k < n → told_values n ks ≡ slice_set (told_values n ls) k (told_value ks k)
told_set n k ks ls h l =
    let e : 0 + k ≡ k = omega arith in
    set_from ks ls 0 n k (λ w m. h w (λ z. m (z ∙ sym e))) l ∙ ap (λ (w : ℕ). slice_set (told_values n ls) k (told_value ks w)) e

another : (k v : ℕ) → k ≢ v → (k == v) ≡ false
another k v d = grind (arith, nat_tests)

itself : (k v : ℕ) → k ≡ v → (k == v) ≡ true
itself k v d = grind (arith, nat_tests)

-- one more literal says nothing of other variables
pub more_elsewhere : (ls : List ℕ) (l w : ℕ) → w ≢ l / 2 → told_value (ls ++ l ∷ []) w ≡ told_value ls w
more_elsewhere [] l w d = let e = another (l / 2) w (λ z. d (sym z)) in rw e refl
more_elsewhere (k ∷ ls) l w d = ap (λ (o : Option Bool). if k / 2 == w then Some (k % 2 == 0) else o) (more_elsewhere ls l w d)

-- what is said stays
value_stays : (ls ks : List ℕ) (v : ℕ) (b : Bool) → told_value ls v ≡ Some b → told_value (ls ++ ks) v ≡ Some b
value_stays [] ks v b e = cc
value_stays (l ∷ ls) ks v b e = by (l / 2 == v) e (value_stays ls ks v b)
  where
    by : (c : Bool) → (if c then Some (l % 2 == 0) else told_value ls v) ≡ Some b → (told_value ls v ≡ Some b → told_value (ls ++ ks) v ≡ Some b) → (if c then Some (l % 2 == 0) else told_value (ls ++ ks) v) ≡ Some b
    by true f r = f
    by false f r = r f

-- so a literal says nothing where its variable has a value
pub more_given : (ls : List ℕ) (l : ℕ) (b : Bool) → told_value ls (l / 2) ≡ Some b → (w : ℕ) → told_value (ls ++ l ∷ []) w ≡ told_value ls w
more_given ls l b e w = by (cases_eq w (l / 2))
  where
    by : (w ≡ l / 2) ⊎ (w ≡ l / 2 → ⊥) → told_value (ls ++ l ∷ []) w ≡ told_value ls w
    by (inl q) = let f : told_value ls w ≡ Some b = ap (told_value ls) q ∙ e in value_stays ls (l ∷ []) w b f ∙ sym f
    by (inr q) = more_elsewhere ls l w q

-- else that is its value
pub more_open : (ls : List ℕ) (l : ℕ) → told_value ls (l / 2) ≡ None → told_value (ls ++ l ∷ []) (l / 2) ≡ Some (l % 2 == 0)
more_open [] l e = let s = itself (l / 2) (l / 2) refl in rw s refl
more_open (k ∷ ls) l e = by (k / 2 == l / 2) e (more_open ls l)
  where
    by : (c : Bool) → (if c then Some (k % 2 == 0) else told_value ls (l / 2)) ≡ None → (told_value ls (l / 2) ≡ None → told_value (ls ++ l ∷ []) (l / 2) ≡ Some (l % 2 == 0)) → (if c then Some (k % 2 == 0) else told_value (ls ++ l ∷ []) (l / 2)) ≡ Some (l % 2 == 0)
    by true f r = cc
    by false f r = r f
