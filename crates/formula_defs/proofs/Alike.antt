use Rattle.std.proofs.Common.{arith, ◌≡◌, ◌==◌, ℕ, zero, suc, ◌+◌, ◌*◌, ◌/◌, ◌%◌, ◌<◌, ◌≤◌, List, [], ◌∷◌, ◌++◌, map, length, Bool, true, false, ◌||◌, ◌&&◌, refl, ap, if◌then◌else◌, inl, inr}
use Rattle.std.specs.List.{list_any, filter, flat_map}
use Rattle.gt_core.specs.Literal.{opposite, range}
use Rattle.gt_core.specs.Task.{Task, Action, EffectOf, effects}
use Rattle.gt_core.specs.Interference.{takes, reads}
use Rattle.gt_core.proofs.published.Basics.{Among}
use Rattle.gt_core.proofs.published.Literals.{below_range, half_opposite}
use Rattle.formula_defs.specs.Clause.{Literal, Is, Not}
use Rattle.formula_defs.specs.Chain.{chain_length, if_read, enter_clauses, pass_clauses}
use Rattle.formula_defs.specs.Variables.{Row, rows_from, rows, has_condition, Chain, chains_from, chains, chain_variables_in}
use Rattle.formula_defs.specs.Formula.{literal_over, precondition_clauses, effects_with, meaning_clauses, result_clause, effect_clauses, frame_clauses, chain_clauses, is_single, pair_clause}
use Rattle.formula_defs.proofs.published.InRange.{IsInRange, precondition_in}

-- The clauses over two namings of the variables are alike: where the names of one stand so to the names of the other,
-- the clauses of one do to those of the other, literal by literal.

-- two lists of one length, whose elements stand so to each other
abbrev pub Zipped : {A B : Type 0} → (A → B → Type 0) → List A → List B → Type 0
Zipped P [] [] = Unit {0}
Zipped P [] (y ∷ ys) = ⊥
Zipped P (x ∷ xs) [] = ⊥
Zipped P (x ∷ xs) (y ∷ ys) = P x y × Zipped P xs ys

abbrev pub LiteralAlike : (ℕ → ℕ → Type 0) → Literal → Literal → Type 0
LiteralAlike R (Is k) (Is m) = R k m
LiteralAlike R (Is k) (Not m) = ⊥
LiteralAlike R (Not k) (Is m) = ⊥
LiteralAlike R (Not k) (Not m) = R k m

abbrev pub ClauseAlike : (ℕ → ℕ → Type 0) → List Literal → List Literal → Type 0
ClauseAlike R c d = Zipped (LiteralAlike R) c d

abbrev pub Alike : (ℕ → ℕ → Type 0) → List (List Literal) → List (List Literal) → Type 0
Alike R cs ds = Zipped (ClauseAlike R) cs ds

pub zipped_parts : {A B : Type 0} (P : A → B → Type 0) (xs xs' : List A) (ys ys' : List B) → Zipped P xs ys → Zipped P xs' ys' → Zipped P (xs ++ xs') (ys ++ ys')
zipped_parts P [] xs' [] ys' p q = q
zipped_parts P [] xs' (y ∷ ys) ys' p q = absurd p
zipped_parts P (x ∷ xs) xs' [] ys' p q = absurd p
zipped_parts P (x ∷ xs) xs' (y ∷ ys) ys' p q = (p.0, zipped_parts P xs xs' ys ys' p.1 q)

pub zipped_flat : {A B C : Type 0} (P : B → C → Type 0) (f : A → List B) (g : A → List C) (xs : List A) → ((x : A) → Among x xs → Zipped P (f x) (g x)) → Zipped P (flat_map f xs) (flat_map g xs)
zipped_flat P f g [] h = tt
zipped_flat P f g (x ∷ xs) h = zipped_parts P (f x) (flat_map f xs) (g x) (flat_map g xs) (h x (inl refl)) (zipped_flat P f g xs (λ y i. h y (inr i)))

pub zipped_map : {A B C : Type 0} (P : B → C → Type 0) (f : A → B) (g : A → C) (xs : List A) → ((x : A) → Among x xs → P (f x) (g x)) → Zipped P (map f xs) (map g xs)
zipped_map P f g [] h = tt
zipped_map P f g (x ∷ xs) h = (h x (inl refl), zipped_map P f g xs (λ y i. h y (inr i)))

-- the effect of a row is one of the effects
pub effect_of_row : (j : ℕ) (es : List EffectOf) (r : Row) → Among r (rows_from j es) → Among r.effect es
effect_of_row j [] r a = absurd a
effect_of_row j (d ∷ es) r (inl s) = inl (ap (λ (x : Row). x.effect) s)
effect_of_row j (d ∷ es) r (inr a) = inr (effect_of_row (if has_condition d then j + 1 else j) es r a)

-- a reader after a taker has a variable
has_one : (takes reads : ℕ → Bool) (ks : List ℕ) (seen : Bool) → seen ≡ true → list_any reads ks ≡ true → 0 < chain_length takes reads seen ks
has_one takes reads [] seen s e = absurd (let f : false ≡ true = e in cc)
has_one takes reads (k ∷ ks) true s e = by (reads k) refl e (λ f. has_one takes reads ks true refl f)
  where
    by : (b : Bool) → reads k ≡ b → (b || list_any reads ks) ≡ true → (list_any reads ks ≡ true → 0 < chain_length takes reads true ks) → 0 < (if b then 1 else 0) + chain_length takes reads true ks
    by true r f on = omega arith
    by false r f on = let h = on f in omega arith
has_one takes reads (k ∷ ks) false s e = cc

next_number : (b : Bool) (i l j : ℕ) → j < (if b then i + 1 else i) + l → j < i + ((if b then 1 else 0) + l)
next_number true i l j h = omega arith
next_number false i l j h = omega arith

-- the numbers of chain variables
pub first_below : (task : Task) (ps : List (List ℕ × ℕ)) (first : ℕ) (c : Chain) → Among c (chains_from task first ps) → c.first + chain_length (takes task c.literal) (reads task c.literal) false c.members ≤ first + chain_variables_in task ps
first_below task [] first c i = absurd i
first_below task (p ∷ ps) first c (inl e) =
    let l : c.first + chain_length (takes task c.literal) (reads task c.literal) false c.members ≡ first + chain_length (takes task p.1) (reads task p.1) false p.0 = ap (λ (x : Chain). x.first + chain_length (takes task x.literal) (reads task x.literal) false x.members) e in
    omega arith
first_below task (p ∷ ps) first c (inr i) = let h = first_below task ps (first + chain_length (takes task p.1) (reads task p.1) false p.0) c i in omega arith

module _ (R : ℕ → ℕ → Type 0) where
  pub over_alike : (now now' : ℕ → ℕ) (l : ℕ) → R (now (l / 2)) (now' (l / 2)) → LiteralAlike R (literal_over now l) (literal_over now' l)
  over_alike now now' l h = by (l % 2 == 0)
    where
      by : (b : Bool) → LiteralAlike R (if b then Is (now (l / 2)) else Not (now (l / 2))) (if b then Is (now' (l / 2)) else Not (now' (l / 2)))
      by true = h
      by false = h

  with_by : (var var' : Row → ℕ) (r : Row) (rest : List Row) (b : Bool) → R (var r) (var' r) → ClauseAlike R (map (λ r. Is (var r)) rest) (map (λ r. Is (var' r)) rest) → ClauseAlike R (map (λ r. Is (var r)) (if b then r ∷ rest else rest)) (map (λ r. Is (var' r)) (if b then r ∷ rest else rest))
  with_by var var' r rest true h i = (h, i)
  with_by var var' r rest false h i = i

  with_alike : (var var' : Row → ℕ) (test : EffectOf → Bool) (rs : List Row) → ((r : Row) → Among r rs → R (var r) (var' r)) → ClauseAlike R (effects_with var test rs) (effects_with var' test rs)
  with_alike var var' test [] h = tt
  with_alike var var' test (r ∷ rs) h = with_by var var' r (filter (λ r. test r.effect) rs) (test r.effect) (h r (inl refl)) (with_alike var var' test rs (λ x i. h x (inr i)))

  module _ (act act' var var' : ℕ → ℕ) (takes reads : ℕ → Bool) where
    read_alike : (c d : List Literal) (b : Bool) → (b ≡ true → ClauseAlike R c d) → Alike R (if b then c ∷ [] else []) (if b then d ∷ [] else [])
    read_alike c d true h = (h refl, tt)
    read_alike c d false h = tt

    enter_one : (seen t : Bool) (i k : ℕ) (ks : List ℕ) → R (act k) (act' k) → ((j : ℕ) → j < i + chain_length takes reads (seen || t) ks → R (var j) (var' j)) → Alike R (if t then if_read reads ks (Not (act k) ∷ Is (var i) ∷ []) else []) (if t then if_read reads ks (Not (act' k) ∷ Is (var' i) ∷ []) else [])
    enter_one seen false i k ks a h = tt
    enter_one seen true i k ks a h =
        read_alike (Not (act k) ∷ Is (var i) ∷ []) (Not (act' k) ∷ Is (var' i) ∷ []) (list_any reads ks) (λ e.
        let one = has_one takes reads ks (seen || true) (yes seen) e in (a, (h i (omega arith), tt)))
      where
        yes : (b : Bool) → (b || true) ≡ true
        yes true = refl
        yes false = refl

    pub enter_alike : (seen : Bool) (i : ℕ) (ks : List ℕ) → ((k : ℕ) → Among k ks → R (act k) (act' k)) → ((j : ℕ) → j < i + chain_length takes reads seen ks → R (var j) (var' j)) → Alike R (enter_clauses act var takes reads seen i ks) (enter_clauses act' var' takes reads seen i ks)
    enter_alike seen i [] a h = tt
    enter_alike seen i (k ∷ ks) a h =
        let i2 = if seen && reads k then i + 1 else i in
        let l = chain_length takes reads (seen || takes k) ks in
        let rest : (j : ℕ) → j < i2 + l → R (var j) (var' j) = λ j lt. h j (next_number (seen && reads k) i l j lt) in
        zipped_parts (ClauseAlike R)
        (if takes k then if_read reads ks (Not (act k) ∷ Is (var i2) ∷ []) else []) _
        (if takes k then if_read reads ks (Not (act' k) ∷ Is (var' i2) ∷ []) else []) _
        (enter_one seen (takes k) i2 k ks (a k (inl refl)) rest)
        (enter_alike (seen || takes k) i2 ks (λ m j. a m (inr j)) rest)

    pass_one : (seen r t : Bool) (i k : ℕ) (ks : List ℕ) → R (act k) (act' k) → ((j : ℕ) → j < i + ((if seen && r then 1 else 0) + chain_length takes reads (seen || t) ks) → R (var j) (var' j)) → Alike R (if seen && r then (Not (var i) ∷ Not (act k) ∷ []) ∷ if_read reads ks (Not (var i) ∷ Is (var (i + 1)) ∷ []) else []) (if seen && r then (Not (var' i) ∷ Not (act' k) ∷ []) ∷ if_read reads ks (Not (var' i) ∷ Is (var' (i + 1)) ∷ []) else [])
    pass_one false r t i k ks a h = tt
    pass_one true false t i k ks a h = tt
    pass_one true true t i k ks a h = (
      (h i (omega arith), (a, tt)),
      read_alike (Not (var i) ∷ Is (var (i + 1)) ∷ []) (Not (var' i) ∷ Is (var' (i + 1)) ∷ []) (list_any reads ks) (λ e.
          let one = has_one takes reads ks (true || t) refl e in (h i (omega arith), (h (i + 1) (omega arith), tt))),
    )

    pub pass_alike : (seen : Bool) (i : ℕ) (ks : List ℕ) → ((k : ℕ) → Among k ks → R (act k) (act' k)) → ((j : ℕ) → j < i + chain_length takes reads seen ks → R (var j) (var' j)) → Alike R (pass_clauses act var takes reads seen i ks) (pass_clauses act' var' takes reads seen i ks)
    pass_alike seen i [] a h = tt
    pass_alike seen i (k ∷ ks) a h =
        let i2 = if seen && reads k then i + 1 else i in
        let l = chain_length takes reads (seen || takes k) ks in
        zipped_parts (ClauseAlike R)
        (if seen && reads k then (Not (var i) ∷ Not (act k) ∷ []) ∷ if_read reads ks (Not (var i) ∷ Is (var (i + 1)) ∷ []) else []) _
        (if seen && reads k then (Not (var' i) ∷ Not (act' k) ∷ []) ∷ if_read reads ks (Not (var' i) ∷ Is (var' (i + 1)) ∷ []) else []) _
        (pass_one seen (reads k) (takes k) i k ks (a k (inl refl)) h)
        (pass_alike (seen || takes k) i2 ks (λ m j. a m (inr j)) (λ j lt. h j (next_number (seen && reads k) i l j lt)))

  preconditions_alike : (act act' now now' : ℕ → ℕ) (facts actions a : ℕ) (xs : List Action) → ((k : ℕ) → k < actions → R (act k) (act' k)) → ((f : ℕ) → f < facts → R (now f) (now' f)) → a + length xs ≤ actions → ((k l : ℕ) → Among l (precondition_in xs k) → l / 2 < facts) → Alike R (precondition_clauses act now a xs) (precondition_clauses act' now' a xs)
  preconditions_alike act act' now now' facts actions a [] ha hf le w = tt
  preconditions_alike act act' now now' facts actions a (x ∷ xs) ha hf le w =
      zipped_parts (ClauseAlike R) (map (λ l. Not (act a) ∷ literal_over now l ∷ []) x.precondition) _ (map (λ l. Not (act' a) ∷ literal_over now' l ∷ []) x.precondition) _
      (zipped_map (ClauseAlike R) (λ l. Not (act a) ∷ literal_over now l ∷ []) (λ l. Not (act' a) ∷ literal_over now' l ∷ []) x.precondition (λ l i.
      (ha a (omega arith), (over_alike now now' l (hf (l / 2) (w zero l i)), tt))))
      (preconditions_alike act act' now now' facts actions (a + 1) xs ha hf (omega arith) (λ k l i. w (suc k) l i))

  -- the names of the variables of one step, and how they stand to others
  pub record NamesAlike (task : Task) (places : List (List ℕ × ℕ)) (act act' now now' next next' chain chain' : ℕ → ℕ) (var var' : Row → ℕ) : Type 0 where
    pub actions : (a : ℕ) → a < length task.actions → R (act a) (act' a)
    pub before : (f : ℕ) → f < task.facts → R (now f) (now' f)
    pub after : (f : ℕ) → f < task.facts → R (next f) (next' f)
    pub effects : (r : Row) → Among r (rows task) → R (var r) (var' r)
    pub chains : (c : ℕ) → c < chain_variables_in task places → R (chain c) (chain' c)

  meaning_alike : (act act' now now' : ℕ → ℕ) (var var' : Row → ℕ) (facts : ℕ) (r : Row) → R (act r.effect.action) (act' r.effect.action) → R (var r) (var' r) → ((f : ℕ) → f < facts → R (now f) (now' f)) → ((c : ℕ) → Among c r.effect.condition → c / 2 < facts) → Alike R (meaning_clauses act now var r) (meaning_clauses act' now' var' r)
  meaning_alike act act' now now' var var' facts r a y hf w = by (has_condition r.effect)
    where
      by : (b : Bool) → Alike R (if b then (Not (var r) ∷ Is (act r.effect.action) ∷ []) ∷ map (λ c. Not (var r) ∷ literal_over now c ∷ []) r.effect.condition ++ (Is (var r) ∷ Not (act r.effect.action) ∷ map (λ c. literal_over now (opposite c)) r.effect.condition) ∷ [] else []) (if b then (Not (var' r) ∷ Is (act' r.effect.action) ∷ []) ∷ map (λ c. Not (var' r) ∷ literal_over now' c ∷ []) r.effect.condition ++ (Is (var' r) ∷ Not (act' r.effect.action) ∷ map (λ c. literal_over now' (opposite c)) r.effect.condition) ∷ [] else [])
      by false = tt
      by true = (
        (y, (a, tt)),
        zipped_parts (ClauseAlike R) (map (λ c. Not (var r) ∷ literal_over now c ∷ []) r.effect.condition) _ (map (λ c. Not (var' r) ∷ literal_over now' c ∷ []) r.effect.condition) _
            (zipped_map (ClauseAlike R) (λ c. Not (var r) ∷ literal_over now c ∷ []) (λ c. Not (var' r) ∷ literal_over now' c ∷ []) r.effect.condition (λ c j.
            (y, (over_alike now now' c (hf (c / 2) (w c j)), tt)))) (
              (
                y,
                (
                  a,
                  zipped_map (LiteralAlike R) (λ c. literal_over now (opposite c)) (λ c. literal_over now' (opposite c)) r.effect.condition (λ c j.
                      over_alike now now' (opposite c) (hf (opposite c / 2) (let h = half_opposite c in let k = w c j in omega (arith, h, k)))),
                ),
              ),
              tt,
            ),
      )

  result_alike : (next next' : ℕ → ℕ) (var var' : Row → ℕ) (all : List Row) (r : Row) → R (var r) (var' r) → R (next (r.effect.literal / 2)) (next' (r.effect.literal / 2)) → ((x : Row) → Among x all → R (var x) (var' x)) → ClauseAlike R (result_clause next var all r) (result_clause next' var' all r)
  result_alike next next' var var' all r y f h = (y, (over_alike next next' r.effect.literal f, by (r.effect.literal % 2 == 0)))
    where
      by : (b : Bool) → ClauseAlike R (if b then [] else effects_with var (λ e. (e.action == r.effect.action) && (e.literal == opposite r.effect.literal)) all) (if b then [] else effects_with var' (λ e. (e.action == r.effect.action) && (e.literal == opposite r.effect.literal)) all)
      by true = tt
      by false = with_alike var var' (λ e. (e.action == r.effect.action) && (e.literal == opposite r.effect.literal)) all h

  module _ (task : Task) (pairs : List (ℕ × ℕ)) (places : List (List ℕ × ℕ)) (is : IsInRange task pairs places) where
    -- the members of a chain are actions
    chain_members : (c : Chain) → Among c (chains task places) → (k : ℕ) → Among k c.members → k < length task.actions
    chain_members c i k j = is.members (c.members, c.literal) (member_of places 0 c i) k j
      where
        member_of : (ps : List (List ℕ × ℕ)) (first : ℕ) (c : Chain) → Among c (chains_from task first ps) → Among {A = List ℕ × ℕ} (c.members, c.literal) ps
        member_of [] first c i = absurd i
        member_of (p ∷ ps) first c (inl e) = inl (ap (λ (d : Chain). (d.members, d.literal)) e)
        member_of (p ∷ ps) first c (inr i) = inr (member_of ps _ c i)

    module _ (act act' now now' next next' chain chain' : ℕ → ℕ) (var var' : Row → ℕ) (names : NamesAlike task places act act' now now' next next' chain chain' var var') where
      chain_alike : (c : Chain) → Among c (chains task places) → Alike R (enter_clauses act chain (takes task c.literal) (reads task c.literal) false c.first c.members ++ pass_clauses act chain (takes task c.literal) (reads task c.literal) false c.first c.members) (enter_clauses act' chain' (takes task c.literal) (reads task c.literal) false c.first c.members ++ pass_clauses act' chain' (takes task c.literal) (reads task c.literal) false c.first c.members)
      chain_alike c i =
          let t = takes task c.literal in
          let r = reads task c.literal in
          let acts : (k : ℕ) → Among k c.members → R (act k) (act' k) = λ k j. names.actions k (chain_members c i k j) in
          let vars : (j : ℕ) → j < c.first + chain_length t r false c.members → R (chain j) (chain' j) = λ j lj. let h = first_below task places 0 c i in names.chains j (omega arith) in
          zipped_parts (ClauseAlike R) (enter_clauses act chain t r false c.first c.members) _ (enter_clauses act' chain' t r false c.first c.members) _
          (enter_alike act act' chain chain' t r false c.first c.members acts vars)
          (pass_alike act act' chain chain' t r false c.first c.members acts vars)

      effect_alike : (r : Row) → Among r (rows task) → Alike R (meaning_clauses act now var r ++ result_clause next var (rows task) r ∷ []) (meaning_clauses act' now' var' r ++ result_clause next' var' (rows task) r ∷ [])
      effect_alike r i =
          let e = effect_of_row 0 (effects task) r i in
          zipped_parts (ClauseAlike R) (meaning_clauses act now var r) _ (meaning_clauses act' now' var' r) _
          (meaning_alike act act' now now' var var' task.facts r (names.actions r.effect.action (is.effect_actions r.effect e)) (names.effects r i) names.before (is.conditions r.effect e))
          (result_alike next next' var var' (rows task) r (names.effects r i) (names.after (r.effect.literal / 2) (is.effect_facts r.effect e)) names.effects, tt)

      -- the clauses of a step
      pub step_alike : Alike R
          (precondition_clauses act now 0 task.actions ++ (effect_clauses act now next var (rows task) (rows task) ++ (frame_clauses now next var (rows task) (range task.facts) ++ chain_clauses act chain task (chains task places))))
          (precondition_clauses act' now' 0 task.actions ++ (effect_clauses act' now' next' var' (rows task) (rows task) ++ (frame_clauses now' next' var' (rows task) (range task.facts) ++ chain_clauses act' chain' task (chains task places))))
      step_alike =
          zipped_parts (ClauseAlike R) (precondition_clauses act now 0 task.actions) _ (precondition_clauses act' now' 0 task.actions) _
          (preconditions_alike act act' now now' task.facts (length task.actions) 0 task.actions names.actions names.before (omega arith) is.preconditions)
          (zipped_parts (ClauseAlike R) (effect_clauses act now next var (rows task) (rows task)) _ (effect_clauses act' now' next' var' (rows task) (rows task)) _
          (zipped_flat (ClauseAlike R) (λ r. meaning_clauses act now var r ++ result_clause next var (rows task) r ∷ []) (λ r. meaning_clauses act' now' var' r ++ result_clause next' var' (rows task) r ∷ []) (rows task) effect_alike)
          (zipped_parts (ClauseAlike R) (frame_clauses now next var (rows task) (range task.facts)) _ (frame_clauses now' next' var' (rows task) (range task.facts)) _
          (zipped_flat (ClauseAlike R) (λ f. (Not (now f) ∷ Is (next f) ∷ effects_with var (λ e. e.literal == 2 * f + 1) (rows task)) ∷ (Is (now f) ∷ Not (next f) ∷ effects_with var (λ e. e.literal == 2 * f) (rows task)) ∷ []) (λ f. (Not (now' f) ∷ Is (next' f) ∷ effects_with var' (λ e. e.literal == 2 * f + 1) (rows task)) ∷ (Is (now' f) ∷ Not (next' f) ∷ effects_with var' (λ e. e.literal == 2 * f) (rows task)) ∷ []) (range task.facts) (λ f i.
          let lf = below_range task.facts f i in
          let a = names.before f lf in
          let b = names.after f lf in
          ((a, (b, with_alike var var' (λ e. e.literal == 2 * f + 1) (rows task) names.effects)), ((a, (b, with_alike var var' (λ e. e.literal == 2 * f) (rows task) names.effects)), tt))))
          (zipped_flat (ClauseAlike R) _ _ (chains task places) chain_alike)))

    -- the known pairs
    pub known_alike : (now now' : ℕ → ℕ) → ((f : ℕ) → f < task.facts → R (now f) (now' f)) → Alike R (flat_map (pair_clause now pairs) pairs) (flat_map (pair_clause now' pairs) pairs)
    known_alike now now' h = zipped_flat (ClauseAlike R) (pair_clause now pairs) (pair_clause now' pairs) pairs one
      where
        one : (c : ℕ × ℕ) → Among c pairs → Alike R (pair_clause now pairs c) (pair_clause now' pairs c)
        one c i = by (c.0 == c.1) (is_single pairs c.0 || is_single pairs c.1)
          where
            l : LiteralAlike R (literal_over now c.0) (literal_over now' c.0)
            l = over_alike now now' c.0 (h (c.0 / 2) (is.known c i).0)

            m : LiteralAlike R (literal_over now c.1) (literal_over now' c.1)
            m = over_alike now now' c.1 (h (c.1 / 2) (is.known c i).1)

            by : (b d : Bool) → Alike R (if b then (literal_over now c.0 ∷ []) ∷ [] else if d then [] else (literal_over now c.0 ∷ literal_over now c.1 ∷ []) ∷ []) (if b then (literal_over now' c.0 ∷ []) ∷ [] else if d then [] else (literal_over now' c.0 ∷ literal_over now' c.1 ∷ []) ∷ [])
            by true d = ((l, tt), tt)
            by false true = tt
            by false false = ((l, (m, tt)), tt)
