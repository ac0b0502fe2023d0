use Rattle.std.proofs.Common.{arith, ◌≡◌, ◌==◌, ℕ, zero, suc, ◌+◌, ◌<◌, ◌≤◌, Bool, true, false, not, ◌&&◌, ◌||◌, refl, sym, ◌∙◌, ◌⊎◌, inl, inr, subst}
use Rattle.std.specs.Prelude.{nat_lt}
use Rattle.gt_core.specs.Literal.{opposite}
use Rattle.gt_core.proofs.published.Basics.{or_split, or_left, or_right, and_split, cases, same_test, test_same, apart}
use Rattle.implied_literals.specs.Rows.{IsPart, IsChained, HasNoPair, IsClosure, IsGrowing, IsGrownFrom, weight, total, work}
use Rattle.std.proofs.lemmas.Bool.{lt-ltb, ltb-true}

-- A set of literals grows by what one of them tells.

-- sums
pub total_below : (w v : ℕ → ℕ) (n : ℕ) → ((m : ℕ) → v m ≤ w m) → total v n ≤ total w n
total_below w v zero le = omega arith
total_below w v (suc n) le = let r = total_below w v n le in let h = le n in omega arith

total_at : (w v : ℕ → ℕ) (n x : ℕ) → ((m : ℕ) → v m ≤ w m) → v x < w x → total v n ≤ total w n → (x < n → total v n < total w n) → x < suc n → v n + total v n < w n + total w n
total_at w v n x le lt below more l = by (same_or_less x n)
  where
    same_or_less : (x n : ℕ) → (x ≡ n) ⊎ (x ≡ n → ⊥)
    same_or_less x n = grind arith

    by : (x ≡ n) ⊎ (x ≡ n → ⊥) → v n + total v n < w n + total w n
    by (inl e) = let here : v n < w n = subst (λ (k : ℕ). v k < w k) e lt in omega arith
    by (inr d) = let h = le n in let t = more (omega arith) in omega arith

pub total_less : (w v : ℕ → ℕ) (n x : ℕ) → ((m : ℕ) → v m ≤ w m) → x < n → v x < w x → total v n < total w n
total_less w v zero x le l lt = absurd (omega arith)
total_less w v (suc n) x le l lt = total_at w v n x le lt (total_below w v n le) (λ h. total_less w v n x le h lt) l

-- what one step gives
pub record Follows (V : ℕ → ℕ → Bool) (size : ℕ) (R T R' T' : ℕ → Bool) : Type 0 where
  pub grown : IsGrownFrom V R R'
  pub growing : IsGrowing V size R' T'
  pub less : work size R' T' < work size R T

module _ (V : ℕ → ℕ → Bool) (size : ℕ) (bound : (l m : ℕ) → V l m ≡ true → m < size) where
  -- a closure of literals below a bound is below it
  pub closure_within : (start set : ℕ → Bool) → IsClosure V start set → ((m : ℕ) → start m ≡ true → m < size) → (m : ℕ) → set m ≡ true → m < size
  closure_within start set c within m t =
      ltb-true m size (c.sound (λ k. nat_lt k size) (λ x y i v. lt-ltb y size (bound (opposite x) y v)) (λ k s. lt-ltb k size (within k s)) m t)

  module _ (R T : ℕ → Bool) (x : ℕ) (g : IsGrowing V size R T) (t : T x ≡ true) where
    -- ---- by what it tells that is done

    module _ (d R' T' : ℕ → Bool) (c : IsClosure V (λ m. x == m) d)
        (er : (m : ℕ) → R' m ≡ (R m || d m)) (et : (m : ℕ) → T' m ≡ ((not (x == m) && T m) && not (d m))) where
      starts : (other : ℕ → Bool) → IsPart R other → IsPart (λ m. x == m) other
      starts other part m e = subst (λ (k : ℕ). other k ≡ true) (test_same x m e) (part x (g.listed x t))

      of_either : (P : Type 0) (m : ℕ) → R' m ≡ true → (R m ≡ true → P) → (d m ≡ true → P) → P
      of_either P m h one two = by (or_split (R m) (d m) (sym (er m) ∙ h))
        where
          by : (R m ≡ true) ⊎ (d m ≡ true) → P
          by (inl a) = one a
          by (inr b) = two b

      from_old : IsPart R R'
      from_old m h = er m ∙ or_left _ _ h

      from_told : IsPart d R'
      from_told m h = er m ∙ or_right (R m) _ h

      grown_done : IsGrownFrom V R R'
      grown_done = record {
        more = from_old;
        sound = λ other ch part m h. of_either (other m ≡ true) m h (part m) (c.sound other ch (starts other part) m);
      }

      growing_done : IsGrowing V size R' T'
      growing_done = record {
        within = λ m h. of_either (m < size) m h (g.within m) (closure_within (λ k. x == k) d c
            (λ k s. ltb-true k size (starts (λ n. nat_lt n size) (λ n r. lt-ltb n size (g.within n r)) k s)) m);
        listed = λ m h. from_old m (g.listed m (and_split _ _ (and_split _ _ (sym (et m) ∙ h)).0).1);
        chained = λ free a y r off v. (let no_r : HasNoPair R = λ f p q. free f (from_old _ p) (from_old _ q) in
            let no_d : HasNoPair d = λ f p q. free f (from_told _ p) (from_told _ q) in
            old_or_told a y v no_r no_d r off (cases (d a)));
      }
        where
          off_is : (b t d : Bool) → ((not b && t) && not d) ≡ false → d ≡ false → (b ≡ true) ⊎ (t ≡ false)
          off_is true t d e f = inl refl
          off_is false true true e f = cc
          off_is false true false e f = cc
          off_is false false d e f = inr refl

          told : (a y : ℕ) → V (opposite a) y ≡ true → HasNoPair d → d a ≡ true → R' y ≡ true
          told a y v no_d h = from_told y (c.chained no_d a y h v)

          left : (a y : ℕ) → V (opposite a) y ≡ true → HasNoPair R → R a ≡ true → d a ≡ false → ((x == a) ≡ true) ⊎ (T a ≡ false) → R' y ≡ true
          left a y v no_r r nd (inl e) = absurd (apart (d a) (c.given a e) nd)
          left a y v no_r r nd (inr off) = from_old y (g.chained no_r a y r off v)

          old_or_told : (a y : ℕ) → V (opposite a) y ≡ true → HasNoPair R → HasNoPair d → R' a ≡ true → T' a ≡ false → (d a ≡ true) ⊎ (d a ≡ false) → R' y ≡ true
          old_or_told a y v no_r no_d r off (inl h) = told a y v no_d h
          old_or_told a y v no_r no_d r off (inr n) =
              of_either (R' y ≡ true) a r (λ old. left a y v no_r old n (off_is _ _ _ (sym (et a) ∙ off) n)) (told a y v no_d)

      weigh_done : (b r s e : Bool) → (s ≡ true → r ≡ true) → weight (r || e) ((not b && s) && not e) ≤ weight r s
      weigh_done b r s e h = grind arith

      light_done : (b r s e : Bool) → b ≡ true → s ≡ true → r ≡ true → weight (r || e) ((not b && s) && not e) < weight r s
      light_done b r s e p q z = grind arith

      less_done : work size R' T' < work size R T
      less_done = total_less (λ m. weight (R m) (T m)) (λ m. weight (R' m) (T' m)) size x
          (λ m. subst (λ (k : ℕ). k ≤ weight (R m) (T m)) (λ i. weight (sym (er m) i) (sym (et m) i)) (weigh_done (x == m) (R m) (T m) (d m) (g.listed m)))
          (g.within x (g.listed x t))
          (subst (λ (k : ℕ). k < weight (R x) (T x)) (λ i. weight (sym (er x) i) (sym (et x) i)) (light_done (x == x) (R x) (T x) (d x) (same_test x x refl) t (g.listed x t)))

      pub follows_done : Follows V size R T R' T'
      follows_done = record { grown = grown_done; growing = growing_done; less = less_done }

  -- ---- all at once, by what their clauses tell

  module _ (R T U R' T' : ℕ → Bool) (g : IsGrowing V size R T)
      (all : (x y : ℕ) → T x ≡ true → V (opposite x) y ≡ true → U y ≡ true)
      (only : (other : ℕ → Bool) → IsChained V other → IsPart T other → IsPart U other)
      (er : (m : ℕ) → R' m ≡ (R m || U m)) (et : (m : ℕ) → T' m ≡ (U m && not (R m))) where
    of_old : IsPart R R'
    of_old m h = er m ∙ or_left _ _ h

    of_new : IsPart U R'
    of_new m h = er m ∙ or_right (R m) _ h

    pub grown_all : IsGrownFrom V R R'
    grown_all = record {
      more = of_old;
      sound = λ other ch part m h. by other ch part m (or_split (R m) (U m) (sym (er m) ∙ h));
    }
      where
        by : (other : ℕ → Bool) → IsChained V other → IsPart R other → (m : ℕ) → (R m ≡ true) ⊎ (U m ≡ true) → other m ≡ true
        by other ch part m (inl r) = part m r
        by other ch part m (inr u) = only other ch (λ k t. part k (g.listed k t)) m u

    pub growing_all : IsGrowing V size R' T'
    growing_all = record {
      within = λ m h. inside m (or_split (R m) (U m) (sym (er m) ∙ h));
      listed = λ m h. of_new m (and_split _ _ (sym (et m) ∙ h)).0;
      chained = λ free a y r off v. (let no_r : HasNoPair R = λ f p q. free f (of_old _ p) (of_old _ q) in
          from a y v no_r (was a off (or_split (R a) (U a) (sym (er a) ∙ r)) (cases (R a))) (cases (T a)));
    }
      where
        inside : (m : ℕ) → (R m ≡ true) ⊎ (U m ≡ true) → m < size
        inside m (inl r) = g.within m r
        inside m (inr u) = ltb-true m size (only (λ k. nat_lt k size) (λ x y i v. lt-ltb y size (bound (opposite x) y v)) (λ k t. lt-ltb k size (g.within k (g.listed k t))) m u)

        new_listed : (u r : Bool) → u ≡ true → r ≡ false → (u && not r) ≡ false → ⊥
        new_listed u r p q z = grind arith

        was : (a : ℕ) → T' a ≡ false → (R a ≡ true) ⊎ (U a ≡ true) → (R a ≡ true) ⊎ (R a ≡ false) → R a ≡ true
        was a off (inl r) c = r
        was a off (inr u) (inl r) = r
        was a off (inr u) (inr n) = absurd (new_listed (U a) (R a) u n (sym (et a) ∙ off))

        from : (a y : ℕ) → V (opposite a) y ≡ true → HasNoPair R → R a ≡ true → (T a ≡ true) ⊎ (T a ≡ false) → R' y ≡ true
        from a y v no_r r (inl t) = of_new y (all a y t v)
        from a y v no_r r (inr off) = of_old y (g.chained no_r a y r off v)

    weigh_all : (r s u : Bool) → (s ≡ true → r ≡ true) → weight (r || u) (u && not r) ≤ weight r s
    weigh_all r s u h = grind arith

    light_all : (r s u : Bool) → s ≡ true → r ≡ true → weight (r || u) (u && not r) < weight r s
    light_all r s u p q = grind arith

    pub less_all : (x : ℕ) → T x ≡ true → work size R' T' < work size R T
    less_all x t = total_less (λ m. weight (R m) (T m)) (λ m. weight (R' m) (T' m)) size x
        (λ m. subst (λ (k : ℕ). k ≤ weight (R m) (T m)) (λ i. weight (sym (er m) i) (sym (et m) i)) (weigh_all (R m) (T m) (U m) (g.listed m)))
        (g.within x (g.listed x t))
        (subst (λ (k : ℕ). k < weight (R x) (T x)) (λ i. weight (sym (er x) i) (sym (et x) i)) (light_all (R x) (T x) (U x) t (g.listed x t)))

  pub grown_twice : (a b c : ℕ → Bool) → IsGrownFrom V a b → IsGrownFrom V b c → IsGrownFrom V a c
  grown_twice a b c f g = record { more = λ m h. g.more m (f.more m h); sound = λ other ch part. g.sound other ch (f.sound other ch part) }
