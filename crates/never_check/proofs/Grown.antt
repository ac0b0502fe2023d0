-- Literals that grow by a rule.
use Rattle.std.proofs.Common.{arith, ◌≡◌, ℕ, zero, suc, ◌+◌, ◌*◌, ◌/◌, ◌<◌, ◌≤◌, List, [], ◌∷◌, length, take, drop, get_or, Bool, true, false, refl, ap, sym, ◌∙◌, subst, ◌⊎◌, inl, inr}
use Rattle.std.specs.Prelude.{MatchBool, MatchOption, Option, Some, None, is_some}
use Rattle.std.proofs.lemmas.List.{take-append-drop, take_all, length-take}
use Rattle.gt_core.specs.Literal.{opposite, is_in}
use Rattle.gt_core.proofs.published.Literals.{in_left, add_opposite, delete_opposite}
use Rattle.implied_literals.specs.Rows.{HasNoPair}
use Rattle.never_defs.specs.Propagation.{IsLeft}
use Rattle.never_check.specs.Follow.{HasAll, IsGrown, IsContradiction}

pub front_in : (old new : List ℕ) → take (length old) new ≡ old → HasAll (is_in new) old
front_in old new front l i =
    let whole = take-append-drop (length old) new in
    subst (λ (ls : List ℕ). is_in ls l ≡ true) whole (in_left (take (length old) new) (drop (length old) new) l (subst (λ (ls : List ℕ). is_in ls l ≡ true) (sym front) i))

pub front_then : (a b c : List ℕ) → take (length a) b ≡ a → take (length b) c ≡ b → take (length a) c ≡ a
front_then [] b c f g = refl
front_then (x ∷ a) [] c f g = let z : [] ≡ x ∷ a = f in absurd (let w : ⊥ = cc in w)
front_then (x ∷ a) (y ∷ b) [] f g = let z : [] ≡ y ∷ b = g in absurd (let w : ⊥ = cc in w)
front_then (x ∷ a) (y ∷ b) (z ∷ c) f g =
    let fh : y ∷ take (length a) b ≡ x ∷ a = f in
    let gh : z ∷ take (length b) c ≡ y ∷ b = g in
    let f1 : y ≡ x = cc in
    let f2 : take (length a) b ≡ a = cc in
    let g1 : z ≡ y = cc in
    let g2 : take (length b) c ≡ b = cc in
    let rest = front_then a b c f2 g2 in
    let same : z ≡ x = g1 ∙ f1 in
    ap (λ (ls : List ℕ). z ∷ ls) rest ∙ ap (λ (k : ℕ). k ∷ a) same

-- what was there first is what was there
pub front_part : (a b : List ℕ) (n : ℕ) → take (length a) b ≡ a → n ≤ length a → take n b ≡ take n a
front_part a b zero f h = refl
front_part [] b (suc n) f h = absurd (omega arith)
front_part (x ∷ a) [] (suc n) f h = let z : [] ≡ x ∷ a = f in absurd (let w : ⊥ = cc in w)
front_part (x ∷ a) (y ∷ b) (suc n) f h =
    let fh : y ∷ take (length a) b ≡ x ∷ a = f in
    let f1 : y ≡ x = cc in
    let f2 : take (length a) b ≡ a = cc in
    ap (λ (ls : List ℕ). y ∷ ls) (front_part a b n f2 (omega arith)) ∙ ap (λ (k : ℕ). k ∷ take n a) f1

-- two opposite literals
pub pair_from : (set : ℕ → Bool) (l : ℕ) → set l ≡ true → set (opposite l) ≡ true → HasNoPair set → ⊥
pair_from set l t u none = by (l / 2) (grind arith)
  where
    by : (f : ℕ) → (l ≡ 2 * f) ⊎ (l ≡ 2 * f + 1) → ⊥
    by f (inl e) = none f (subst (λ (k : ℕ). set k ≡ true) e t) (subst (λ (k : ℕ). set k ≡ true) (add_opposite l f e) u)
    by f (inr e) = none f (subst (λ (k : ℕ). set k ≡ true) (delete_opposite l f e) u) (subst (λ (k : ℕ). set k ≡ true) e t)

pub left_more : (s t : ℕ → Bool) → ((l : ℕ) → s l ≡ true → t l ≡ true) → (c : List ℕ) (m : ℕ) → IsLeft s c m → IsLeft t c m
left_more s t more [] m left = tt
left_more s t more (k ∷ c) m left = (elim left.0 [ inl e ↦ inl e | inr h ↦ inr (more (opposite k) h) ], left_more s t more c m left.1)

module _ (rule : (ℕ → Bool) → Type 0) where
  pub grown_same : (old : List ℕ) → IsGrown rule old old
  grown_same old = record { front = take_all (length old) old (omega arith); sound = λ set r has. has; apart = λ none. none }

  pub grown_then : (a b c : List ℕ) → IsGrown rule a b → IsGrown rule b c → IsGrown rule a c
  grown_then a b c g h = record {
    front = front_then a b c g.front h.front;
    sound = λ set r has. h.sound set r (g.sound set r has);
    apart = λ none. h.apart (g.apart none);
  }

  pub contradiction_then : (a b : List ℕ) → IsGrown rule a b → IsContradiction rule b → IsContradiction rule a
  contradiction_then a b g k = λ set r has. k set r (g.sound set r has)

  -- growth by one rule is growth by another that is stronger for sets with the old literals
  pub grown_by : (weaker : (ℕ → Bool) → Type 0) (old new : List ℕ) → ((set : ℕ → Bool) → rule set → HasAll set old → weaker set) → IsGrown weaker old new → IsGrown rule old new
  grown_by weaker old new stronger g = record { front = g.front; sound = λ set r has. g.sound set (stronger set r has) has; apart = g.apart }

  pub contradiction_by : (weaker : (ℕ → Bool) → Type 0) (old : List ℕ) → ((set : ℕ → Bool) → rule set → HasAll set old → weaker set) → IsContradiction weaker old → IsContradiction rule old
  contradiction_by weaker old stronger k = λ set r has. k set (stronger set r has) has

-- what a test tells, either way, told otherwise
pub either_way : {P Q R S : Type 0} (b : Bool) → (P → R) → (Q → S) → MatchBool b P Q → MatchBool b R S
either_way true f g h = f h
either_way false f g h = g h

pub when_true : {P : Type 0} (b : Bool) (Q : Type 0) → b ≡ true → MatchBool b P Q → P
when_true true Q e h = h
when_true false Q e h = let z : false ≡ true = e in absurd (let w : ⊥ = cc in w)

pub when_false : {Q : Type 0} (b : Bool) (P : Type 0) → b ≡ false → MatchBool b P Q → Q
when_false true P e h = let z : true ≡ false = e in absurd (let w : ⊥ = cc in w)
when_false false P e h = h

-- an element that is there, whatever stands for one that is not
pub default_same : {A : Type 0} (xs : List A) (k : ℕ) (d e : A) → k < length xs → get_or xs k d ≡ get_or xs k e
default_same [] k d e lt = absurd (omega arith)
default_same (x ∷ xs) zero d e lt = refl
default_same (x ∷ xs) (suc k) d e lt = default_same xs k d e (omega arith)

pub front_long : (a b : List ℕ) → take (length a) b ≡ a → length a ≤ length b
front_long a b front = let e = ap length front in let t = length-take (length a) b in omega (arith, e, t)

pub none_at : {A P : Type 0} (Q : A → Type 0) (o : Option A) → o ≡ None → MatchOption o P Q → P
none_at Q None e told = told
none_at Q (Some k) e told = let z : Some k ≡ None = e in absurd (let w : ⊥ = cc in w)

pub none_told : {A P : Type 0} (Q : A → Type 0) (o : Option A) → is_some o ≡ false → MatchOption o P Q → P
none_told Q None e told = told
none_told Q (Some k) e told = let z : true ≡ false = e in absurd (let w : ⊥ = cc in w)

pub some_at : {A : Type 0} (P : Type 0) (Q : A → Type 0) (o : Option A) (k : A) → o ≡ Some k → MatchOption o P Q → Q k
some_at P Q None k e told = let z : None ≡ Some k = e in absurd (let w : ⊥ = cc in w)
some_at P Q (Some j) k e told = let same : j ≡ k = cc in subst Q same told
