use Rattle.std.proofs.Common.{arith, ◌≡◌, ℕ, zero, suc, ◌+◌, ◌<◌, ◌≤◌, Bool, true, false, refl, sym, ◌∙◌, if◌then◌else◌, zero-add, suc-add, add_comm, subst, ◌⊎◌, inl, inr}
use Rattle.cdcl_defs.specs.Machine.{turns, ComesToRest}

module _ {S : Type 0} (next : S → S) (rests : ℕ → S → Bool) where
  -- wherever a higher limit rests a lower one does
  abbrev pub IsLooser : ℕ → ℕ → Type 0
  IsLooser a b = (s : S) → rests b s ≡ true → rests a s ≡ true

  -- that some number of turns at a limit leads from x to y
  abbrev pub Reaches : ℕ → S → S → Type 0
  Reaches b x y = (m : ℕ) × (turns next rests b m x ≡ y)

  turn_over : (a b : ℕ) (x y : S) (r t : Bool) → IsLooser a b → rests a x ≡ r → rests b x ≡ t → Reaches b (if r then x else next x) y → Reaches b x y
  turn_over a b x y true t l e f h = h
  turn_over a b x y false true l e f h = let g : rests a x ≡ true = l x f in cc
  turn_over a b x y false false l e f h = (suc h.0, rw f h.1)

  -- what a lower limit reaches a higher one reaches too
  pub reached_looser : (a b n : ℕ) (x : S) → IsLooser a b → Reaches b x (turns next rests a n x)
  reached_looser a b zero x l = (zero, refl)
  reached_looser a b (suc n) x l =
      turn_over a b x _ (rests a x) (rests b x) l refl refl (reached_looser a b n (if rests a x then x else next x) l)

  pub turns-add : (a m n : ℕ) (x : S) → turns next rests a (m + n) x ≡ turns next rests a n (turns next rests a m x)
  turns-add a zero n x = rw zero-add refl
  turns-add a (suc m) n x = rw suc-add (turns-add a m n (if rests a x then x else next x))

  -- to come to rest at a lower limit and then at a higher one is to come to rest at the higher one
  pub cutting : (a b : ℕ) (x y z : S) → IsLooser a b → ComesToRest next rests a x y → ComesToRest next rests b y z → ComesToRest next rests b x z
  cutting a b x y z l first second =
      let there = reached_looser a b first.count x l in
      record {
        count = there.0 + second.count;
        reached = turns-add b there.0 second.count x ∙ rw (there.1, first.reached) second.reached;
        at_rest = second.at_rest;
      }

  stand : (b : ℕ) (y : S) (r : Bool) → rests b y ≡ r → r ≡ true → (if r then y else next y) ≡ y
  stand b y true e t = refl
  stand b y false e t = cc

  -- where it rests it stays
  pub stays : (b n : ℕ) (y : S) → rests b y ≡ true → turns next rests b n y ≡ y
  stays b zero y t = refl
  stays b (suc n) y t = rw (stand b y (rests b y) refl t) (stays b n y t)

  -- it comes to rest in one state
  pub one_rest : (b : ℕ) (x y z : S) → ComesToRest next rests b x y → ComesToRest next rests b x z → y ≡ z
  one_rest b x y z first second =
      let e = turns-add b first.count second.count x in
      let f = turns-add b second.count first.count x in
      let g = stays b second.count y first.at_rest in
      let h = stays b first.count z second.at_rest in
      let t : turns next rests b (first.count + second.count) x ≡ y = rw (e, first.reached) g in
      let u : turns next rests b (first.count + second.count) x ≡ z = rw (add_comm first.count second.count, f, second.reached) h in
      sym t ∙ u

  -- with a measure that falls, enough turns come to rest
  module _ (Good : S → Type 0) (measure : S → ℕ) (b : ℕ) (falls : (s : S) → Good s → rests b s ≡ false → Good (next s) × (measure (next s) < measure s)) where
    enough_by : (n : ℕ) (s : S) (r : Bool) → Good s → rests b s ≡ r → measure s ≤ suc n → ((t : S) → Good t → measure t ≤ n → rests b (turns next rests b n t) ≡ true) → rests b (turns next rests b n (if r then s else next s)) ≡ true
    enough_by n s true g e m later = rw (stays b n s e) e
    enough_by n s false g e m later = let f = falls s g e in later (next s) f.0 (omega (arith, f.1))

    none_left : (s : S) (r : Bool) → Good s → rests b s ≡ r → measure s ≤ 0 → r ≡ true
    none_left s true g e m = refl
    none_left s false g e m = let f = falls s g e in absurd (omega (arith, f.1))

    pub enough : (n : ℕ) (s : S) → Good s → measure s ≤ n → rests b (turns next rests b n s) ≡ true
    enough zero s g m = none_left s (rests b s) g refl m
    enough (suc n) s g m = enough_by n s (rests b s) g refl m (enough n)

  -- what is counted goes up to the limit, and what is settled rests
  pub record Counts (count : S → ℕ) (settled : S → Bool) : Type 0 where
    pub looser : (a b : ℕ) → a ≤ b → IsLooser a b
    pub within : (a : ℕ) (s : S) → rests a s ≡ false → count s ≤ a → count (next s) ≤ a
    pub cases : (a : ℕ) (s : S) → rests a s ≡ true → (settled s ≡ true) ⊎ (a ≤ count s)
    pub settles : (a : ℕ) (s : S) → settled s ≡ true → rests a s ≡ true

  within_turn : (count : S → ℕ) (settled : S → Bool) (laws : Counts count settled) (a : ℕ) (s : S) (r : Bool) → rests a s ≡ r → count s ≤ a → count (if r then s else next s) ≤ a
  within_turn count settled laws a s true e m = m
  within_turn count settled laws a s false e m = laws.within a s e m

  pub within_turns : (count : S → ℕ) (settled : S → Bool) (laws : Counts count settled) (a n : ℕ) (s : S) → count s ≤ a → count (turns next rests a n s) ≤ a
  within_turns count settled laws a zero s m = m
  within_turns count settled laws a (suc n) s m = within_turns count settled laws a n _ (within_turn count settled laws a s (rests a s) refl m)

  second_part : (count : S → ℕ) (settled : S → Bool) (laws : Counts count settled) (x y z : S) (j k : ℕ) → ComesToRest next rests (count y + k) y z → count y ≤ count x + j → (settled y ≡ true) ⊎ (count x + j ≤ count y) → ComesToRest next rests (count x + (j + k)) y z
  second_part count settled laws x y z j k second m (inl t) =
      let same : z ≡ y = sym second.reached ∙ stays (count y + k) second.count y (laws.settles (count y + k) y t) in
      record { count = 0; reached = sym same; at_rest = rw same (laws.settles (count x + (j + k)) y t) }
  second_part count settled laws x y z j k second m (inr full) =
      let e : count y + k ≡ count x + (j + k) = omega arith in
      subst (λ (b : ℕ). ComesToRest next rests b y z) e second

  -- by so many, and then by so many more
  pub across : (count : S → ℕ) (settled : S → Bool) (laws : Counts count settled) (x y z : S) (j k : ℕ) → ComesToRest next rests (count x + j) x y → ComesToRest next rests (count y + k) y z → ComesToRest next rests (count x + (j + k)) x z
  across count settled laws x y z j k first second =
      let m : count y ≤ count x + j = subst (λ (s : S). count s ≤ count x + j) first.reached (within_turns count settled laws (count x + j) first.count x (omega arith)) in
      cutting (count x + j) (count x + (j + k)) x y z (laws.looser (count x + j) (count x + (j + k)) (omega arith)) first
      (second_part count settled laws x y z j k second m (laws.cases (count x + j) y first.at_rest))
