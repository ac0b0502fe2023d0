-- The lists of a literal are its pairs in all clauses.
use Rattle.std.proofs.Common.{arith, ◌≡◌, ℕ, ◌+◌, ◌-◌, ◌*◌, ◌/◌, ◌%◌, ◌<◌, ◌≤◌, List, [], ◌∷◌, ◌++◌, length, map, ltb, Bool, true, false, if◌then◌else◌, All, refl, sym, ap, ◌∙◌, append-nil, length-append}
use Rattle.std.specs.List.{flat_map, range_with_len}
use Rattle.std.proofs.lemmas.Bool.Decides.{nat_tests}
use Rattle.std.proofs.lemmas.List.{append_assoc, length-map, get_or_past}
use Rattle.std.proofs.lemmas.List.Elements.{All-nil, All-cons, All-head, All-tail}
use Rattle.std.proofs.lemmas.List.FromFn.{get_or-map-range_with_len, length-map-range_with_len}
use Rattle.clause_base.specs.declared.pair.Pair.{Pair}
use Rattle.cdcl_tables.specs.declared.shape.Shape.{Shape}
use Rattle.clause_base.specs.Pairs.{pairs_of, pairs_from}
use Rattle.cdcl_tables.specs.Pairs.{IsIndex}
use Rattle.clause_base.specs.Repeats.{step_part, time_part}
use Rattle.cdcl_tables.specs.own.Moved.{moved_pair}
use Rattle.cdcl_tables.specs.own.Lists.{IsShape, AreParts, facts_begin, facts_end, step_move, time_move, plain_move, after_all, moved_list, last_list, next_list, time_list, all_lists, index_of, clauses_of}
use Rattle.clause_base.proofs.published.PairTables.{pairs_past}
use Rattle.cdcl_tables.proofs.Shifts.{IsFrom, IsFromNone, pairs_moved, pairs_none, pairs_plain, pairs_append}
use Rattle.cdcl_tables.proofs.Blocks.{blocks_none, blocks_one, blocks_two, blocks_long}
use Rattle.cdcl_tables.proofs.Steps.{IsAtTime, own_from, own_not, own_no_time, next_from, last_from, fact_not, time_from, time_not, past_step, past_time, in_step_of, at_time_of}
use Rattle.cdcl_tables.proofs.Exacts.{exact_of, found_of}

-- what holds of each of two lists together
pub all_left : (P : List ℕ → Type 0) (cs ds : List (List ℕ)) → All P (cs ++ ds) → All P cs
all_left P [] ds h = All-nil P
all_left P (c ∷ cs) ds h = All-cons P c cs (All-head P c (cs ++ ds) h) (all_left P cs ds (All-tail P c (cs ++ ds) h))

pub all_right : (P : List ℕ → Type 0) (cs ds : List (List ℕ)) → All P (cs ++ ds) → All P ds
all_right P [] ds h = h
all_right P (c ∷ cs) ds h = all_right P cs ds (All-tail P c (cs ++ ds) h)

-- what the lists are, by where a literal is
pub next_own : (z : Shape) (step : List (List Pair)) (x : ℕ) → x < facts_begin z → next_list z step x ≡ moved_list step (step_move z (x / (2 * z.width))) (x % (2 * z.width))
next_own z step x h =
    let e : ltb x (facts_begin z) ≡ true = grind (arith, nat_tests) in
    ap (λ (b : Bool). if b then moved_list step (step_move z (x / (2 * z.width))) (x % (2 * z.width)) else if ltb x (facts_end z) then (if ltb ((x - facts_begin z) / (2 * z.facts)) z.horizon then moved_list step (step_move z ((x - facts_begin z) / (2 * z.facts))) (2 * z.width + (x - facts_begin z) % (2 * z.facts)) else []) else []) e

pub last_own : (z : Shape) (step : List (List Pair)) (x : ℕ) → x < facts_begin z → last_list z step x ≡ []
last_own z step x h =
    let e : ltb x (facts_begin z) ≡ true = grind (arith, nat_tests) in
    ap (λ (b : Bool). if b then [] else if ltb x (facts_end z) then (if ltb 0 ((x - facts_begin z) / (2 * z.facts)) then moved_list step (step_move z ((x - facts_begin z) / (2 * z.facts) - 1)) (2 * z.width + 2 * z.facts + (x - facts_begin z) % (2 * z.facts)) else []) else []) e

pub time_own : (z : Shape) (time : List (List Pair)) (x : ℕ) → x < facts_begin z → time_list z time x ≡ []
time_own z time x h =
    let e : ltb x (facts_begin z) ≡ true = grind (arith, nat_tests) in
    ap (λ (b : Bool). if b then [] else if ltb x (facts_end z) then moved_list time (time_move z ((x - facts_begin z) / (2 * z.facts))) ((x - facts_begin z) % (2 * z.facts)) else []) e

-- one of three by two tests
pub three : (A B C : List Pair) (p q : Bool) → p ≡ false → q ≡ true → (if p then A else if q then B else C) ≡ B
three A B C p q e f = ap (λ (b : Bool). if b then A else if q then B else C) e ∙ ap (λ (b : Bool). if b then B else C) f

pub past_three : (A B C : List Pair) (p q : Bool) → p ≡ false → q ≡ false → (if p then A else if q then B else C) ≡ C
past_three A B C p q e f = ap (λ (b : Bool). if b then A else if q then B else C) e ∙ ap (λ (b : Bool). if b then B else C) f

module _ (z : Shape) (T S I A : List (List ℕ)) (told step time after : List (List Pair)) (shape : IsShape z) (parts : AreParts z T S I A) (told_rows : (x : ℕ) → pairs_of told x ≡ pairs_from 0 x T) (step_rows : 0 < z.horizon → (x : ℕ) → pairs_of step x ≡ pairs_from 0 x S) (time_rows : (x : ℕ) → pairs_of time x ≡ pairs_from 0 x I) (after_rows : (x : ℕ) → pairs_of after x ≡ pairs_from 0 x A) where
  steps_long : (u : ℕ) → length (step_part (record { horizon = z.horizon; width = z.width; facts = z.facts; step = S; time = I }) u) ≡ z.steps
  steps_long u = length-map S _ ∙ sym parts.steps

  times_long : (t : ℕ) → length (time_part (record { horizon = z.horizon; width = z.width; facts = z.facts; step = S; time = I }) t) ≡ z.times
  times_long t = length-map I _ ∙ sym parts.times

  abbrev step_block : ℕ → ℕ → List Pair
  step_block x u = pairs_from (z.tolds + u * z.steps) x (step_part (record { horizon = z.horizon; width = z.width; facts = z.facts; step = S; time = I }) u)

  abbrev time_block : ℕ → ℕ → List Pair
  time_block x t = pairs_from (z.tolds + z.horizon * z.steps + t * z.times) x (time_part (record { horizon = z.horizon; width = z.width; facts = z.facts; step = S; time = I }) t)

  step_is : (x u l : ℕ) → u < z.horizon → IsFrom (step_move z u) (2 * (z.width + 2 * z.facts)) x l → step_block x u ≡ moved_list step (step_move z u) l
  step_is x u l h f =
      pairs_moved (step_move z u) (2 * (z.width + 2 * z.facts)) 0 (z.tolds + u * z.steps) x l S (omega arith) f parts.step_below
      ∙ ap (λ (ps : List Pair). map (moved_pair (step_move z u)) ps) (sym (step_rows (omega (arith, h)) l))

  step_none : (x u : ℕ) → IsFromNone (step_move z u) (2 * (z.width + 2 * z.facts)) x → step_block x u ≡ []
  step_none x u f = pairs_none (step_move z u) (2 * (z.width + 2 * z.facts)) (z.tolds + u * z.steps) x S f parts.step_below

  time_is : (x t l : ℕ) → IsFrom (time_move z t) (2 * z.facts) x l → time_block x t ≡ moved_list time (time_move z t) l
  time_is x t l f =
      pairs_moved (time_move z t) (2 * z.facts) 0 (z.tolds + z.horizon * z.steps + t * z.times) x l I (omega arith) f parts.time_below
      ∙ ap (λ (ps : List Pair). map (moved_pair (time_move z t)) ps) (sym (time_rows l))

  time_none : (x t : ℕ) → IsFromNone (time_move z t) (2 * z.facts) x → time_block x t ≡ []
  time_none x t f = pairs_none (time_move z t) (2 * z.facts) (z.tolds + z.horizon * z.steps + t * z.times) x I f parts.time_below

  abbrev all_steps : ℕ → List Pair
  all_steps x = pairs_from (z.tolds + 0 * z.steps) x (flat_map (step_part (record { horizon = z.horizon; width = z.width; facts = z.facts; step = S; time = I })) (range_with_len 0 z.horizon))

  abbrev all_times : ℕ → List Pair
  all_times x = pairs_from (z.tolds + z.horizon * z.steps + 0 * z.times) x (flat_map (time_part (record { horizon = z.horizon; width = z.width; facts = z.facts; step = S; time = I })) (range_with_len 0 (z.horizon + 1)))

  -- a variable of a step
  steps_own : (x : ℕ) → x < facts_begin z → all_steps x ≡ last_list z step x ++ next_list z step x
  steps_own x h =
      let i = in_step_of z x h in
      blocks_one _ z.steps steps_long z.tolds x 0 z.horizon (x / (2 * z.width)) (omega arith) (omega (arith, i.step)) (λ v g k ne. step_none x v (own_not z x _ _ v i (omega (arith, k)) ne))
      ∙ step_is x (x / (2 * z.width)) (x % (2 * z.width)) i.step (own_from z x _ _ i)
      ∙ sym (next_own z step x h)
      ∙ ap (λ (ps : List Pair). ps ++ next_list z step x) (sym (last_own z step x h))

  times_own : (x : ℕ) → x < facts_begin z → all_times x ≡ time_list z time x
  times_own x h =
      blocks_none _ z.times times_long (z.tolds + z.horizon * z.steps) x 0 (z.horizon + 1) (λ t g k. time_none x t (own_no_time z x _ _ t (in_step_of z x h)))
      ∙ sym (time_own z time x h)

  -- a literal past all facts
  steps_past : (x : ℕ) → facts_end z ≤ x → all_steps x ≡ last_list z step x ++ next_list z step x
  steps_past x h =
      let e : ltb x (facts_begin z) ≡ false = grind (arith, nat_tests) in
      let f : ltb x (facts_end z) ≡ false = grind (arith, nat_tests) in
      let n : next_list z step x ≡ [] = past_three _ _ [] (ltb x (facts_begin z)) (ltb x (facts_end z)) e f in
      let l : last_list z step x ≡ [] = past_three [] _ [] (ltb x (facts_begin z)) (ltb x (facts_end z)) e f in
      blocks_none _ z.steps steps_long z.tolds x 0 z.horizon (λ v g k. step_none x v (past_step z x v h (omega (arith, k))))
      ∙ ap (λ (ps : List Pair). ps ++ []) (sym l)
      ∙ ap (λ (ps : List Pair). last_list z step x ++ ps) (sym n)

  times_past : (x : ℕ) → facts_end z ≤ x → all_times x ≡ time_list z time x
  times_past x h =
      let e : ltb x (facts_begin z) ≡ false = grind (arith, nat_tests) in
      let f : ltb x (facts_end z) ≡ false = grind (arith, nat_tests) in
      blocks_none _ z.times times_long (z.tolds + z.horizon * z.steps) x 0 (z.horizon + 1) (λ t g k. time_none x t (past_time z x t h (omega (arith, k))))
      ∙ sym (past_three [] _ [] (ltb x (facts_begin z)) (ltb x (facts_end z)) e f)

  -- a fact
  times_fact : (x : ℕ) → facts_begin z ≤ x → x < facts_end z → all_times x ≡ time_list z time x
  times_fact x g h =
      let i = at_time_of z x g h in
      let t : ℕ = (x - facts_begin z) / (2 * z.facts) in
      let e : ltb x (facts_begin z) ≡ false = grind (arith, nat_tests) in
      let f : ltb x (facts_end z) ≡ true = grind (arith, nat_tests) in
      blocks_one _ z.times times_long (z.tolds + z.horizon * z.steps) x 0 (z.horizon + 1) ((x - facts_begin z) / (2 * z.facts)) (omega arith) (omega (arith, i.time)) (λ v a b ne. time_none x v (time_not z x _ _ v i ne))
      ∙ time_is x ((x - facts_begin z) / (2 * z.facts)) ((x - facts_begin z) % (2 * z.facts)) (time_from z x _ _ i)
      ∙ sym (three [] _ [] (ltb x (facts_begin z)) (ltb x (facts_end z)) e f)

  steps_fact_at : (x t l : ℕ) → IsAtTime z x t l → (p : Bool) → ltb 0 t ≡ p → (q : Bool) → ltb t z.horizon ≡ q → all_steps x ≡ (if p then moved_list step (step_move z (t - 1)) (2 * z.width + 2 * z.facts + l) else []) ++ (if q then moved_list step (step_move z t) (2 * z.width + l) else [])
  steps_fact_at x t l i true e true f =
      let some : 0 < t = grind (arith, nat_tests) in
      let less : t < z.horizon = grind (arith, nat_tests) in
      let next : t ≡ t - 1 + 1 = omega (arith, some) in
      blocks_two _ z.steps steps_long z.tolds x 0 z.horizon (t - 1) t next (omega arith) (omega (arith, less)) (λ v a b ns nt. step_none x v (fact_not z x t l v i (omega (arith, b)) nt (λ w. ns (omega (arith, w)))))
      ∙ ap (λ (ps : List Pair). ps ++ step_block x t) (step_is x (t - 1) (2 * z.width + 2 * z.facts + l) (omega (arith, less)) (last_from z x t (t - 1) l i next))
      ∙ ap (λ (ps : List Pair). moved_list step (step_move z (t - 1)) (2 * z.width + 2 * z.facts + l) ++ ps) (step_is x t (2 * z.width + l) less (next_from z x t l i less))
  steps_fact_at x t l i true e false f =
      let some : 0 < t = grind (arith, nat_tests) in
      let more : z.horizon ≤ t = grind (arith, nat_tests) in
      let next : t ≡ t - 1 + 1 = omega (arith, some) in
      let less : t - 1 < z.horizon = omega (arith, i.time, some) in
      blocks_one _ z.steps steps_long z.tolds x 0 z.horizon (t - 1) (omega arith) (omega (arith, less)) (λ v a b ns. step_none x v (fact_not z x t l v i (omega (arith, b)) (λ w. absurd (omega (arith, w, b, more))) (λ w. ns (omega (arith, w)))))
      ∙ step_is x (t - 1) (2 * z.width + 2 * z.facts + l) less (last_from z x t (t - 1) l i next)
      ∙ sym (append-nil (moved_list step (step_move z (t - 1)) (2 * z.width + 2 * z.facts + l)))
  steps_fact_at x t l i false e true f =
      let none : t ≡ 0 = grind (arith, nat_tests) in
      let less : t < z.horizon = grind (arith, nat_tests) in
      blocks_one _ z.steps steps_long z.tolds x 0 z.horizon t (omega arith) (omega (arith, less)) (λ v a b nt. step_none x v (fact_not z x t l v i (omega (arith, b)) nt (λ w. absurd (omega (arith, w, none)))))
      ∙ step_is x t (2 * z.width + l) less (next_from z x t l i less)
  steps_fact_at x t l i false e false f =
      let none : t ≡ 0 = grind (arith, nat_tests) in
      let more : z.horizon ≤ t = grind (arith, nat_tests) in
      blocks_none _ z.steps steps_long z.tolds x 0 z.horizon (λ v a b. absurd (omega (arith, b, none, more)))

  steps_fact : (x : ℕ) → facts_begin z ≤ x → x < facts_end z → all_steps x ≡ last_list z step x ++ next_list z step x
  steps_fact x g h =
      let e : ltb x (facts_begin z) ≡ false = grind (arith, nat_tests) in
      let f : ltb x (facts_end z) ≡ true = grind (arith, nat_tests) in
      steps_fact_at x ((x - facts_begin z) / (2 * z.facts)) ((x - facts_begin z) % (2 * z.facts)) (at_time_of z x g h) (ltb 0 ((x - facts_begin z) / (2 * z.facts))) refl (ltb ((x - facts_begin z) / (2 * z.facts)) z.horizon) refl
      ∙ ap (λ (ps : List Pair). ps ++ (if ltb ((x - facts_begin z) / (2 * z.facts)) z.horizon then moved_list step (step_move z ((x - facts_begin z) / (2 * z.facts))) (2 * z.width + (x - facts_begin z) % (2 * z.facts)) else [])) (sym (three [] _ [] (ltb x (facts_begin z)) (ltb x (facts_end z)) e f))
      ∙ ap (λ (ps : List Pair). last_list z step x ++ ps) (sym (three _ _ [] (ltb x (facts_begin z)) (ltb x (facts_end z)) e f))

  steps_are : (x : ℕ) (p : Bool) → ltb x (facts_begin z) ≡ p → (q : Bool) → ltb x (facts_end z) ≡ q → all_steps x ≡ last_list z step x ++ next_list z step x
  steps_are x true e q f = steps_own x (let h : x < facts_begin z = grind (arith, nat_tests) in h)
  steps_are x false e true f = steps_fact x (let h : facts_begin z ≤ x = grind (arith, nat_tests) in h) (let h : x < facts_end z = grind (arith, nat_tests) in h)
  steps_are x false e false f = steps_past x (let h : facts_end z ≤ x = grind (arith, nat_tests) in h)

  times_are : (x : ℕ) (p : Bool) → ltb x (facts_begin z) ≡ p → (q : Bool) → ltb x (facts_end z) ≡ q → all_times x ≡ time_list z time x
  times_are x true e q f = times_own x (let h : x < facts_begin z = grind (arith, nat_tests) in h)
  times_are x false e true f = times_fact x (let h : facts_begin z ≤ x = grind (arith, nat_tests) in h) (let h : x < facts_end z = grind (arith, nat_tests) in h)
  times_are x false e false f = times_past x (let h : facts_end z ≤ x = grind (arith, nat_tests) in h)

  abbrev steps_part : List (List ℕ)
  steps_part = flat_map (step_part (record { horizon = z.horizon; width = z.width; facts = z.facts; step = S; time = I })) (range_with_len 0 z.horizon)

  abbrev times_part : List (List ℕ)
  times_part = flat_map (time_part (record { horizon = z.horizon; width = z.width; facts = z.facts; step = S; time = I })) (range_with_len 0 (z.horizon + 1))

  told_is : (x : ℕ) → pairs_from 0 x T ≡ moved_list told (plain_move 0) x
  told_is x = pairs_plain 0 0 0 x T (omega arith) ∙ ap (λ (ps : List Pair). map (moved_pair (plain_move 0)) ps) (sym (told_rows x))

  after_is : (x : ℕ) → pairs_from (after_all z) x A ≡ moved_list after (plain_move (after_all z)) x
  after_is x = pairs_plain (after_all z) 0 (after_all z) x A (omega arith) ∙ ap (λ (ps : List Pair). map (moved_pair (plain_move (after_all z))) ps) (sym (after_rows x))

  repeated_is : (x : ℕ) → pairs_from z.tolds x (steps_part ++ times_part) ≡ (last_list z step x ++ next_list z step x) ++ time_list z time x
  repeated_is x =
      let b : z.tolds ≡ z.tolds + 0 * z.steps = omega arith in
      let c : z.tolds + length steps_part ≡ z.tolds + z.horizon * z.steps + 0 * z.times = omega (arith, blocks_long _ z.steps steps_long 0 z.horizon) in
      pairs_append z.tolds x steps_part times_part
      ∙ ap (λ (i : ℕ). pairs_from i x steps_part ++ pairs_from (z.tolds + length steps_part) x times_part) b
      ∙ ap (λ (i : ℕ). all_steps x ++ pairs_from i x times_part) c
      ∙ ap (λ (ps : List Pair). ps ++ all_times x) (steps_are x (ltb x (facts_begin z)) refl (ltb x (facts_end z)) refl)
      ∙ ap (λ (ps : List Pair). (last_list z step x ++ next_list z step x) ++ ps) (times_are x (ltb x (facts_begin z)) refl (ltb x (facts_end z)) refl)

  all_is : (x : ℕ) → pairs_from 0 x (clauses_of z T S I A) ≡ all_lists z told step time after x
  all_is x =
      let b : 0 + length T ≡ z.tolds = omega (arith, parts.tolds) in
      let c : z.tolds + length (steps_part ++ times_part) ≡ after_all z = omega (arith, length-append steps_part times_part, blocks_long _ z.steps steps_long 0 z.horizon, blocks_long _ z.times times_long 0 (z.horizon + 1)) in
      pairs_append 0 x T ((steps_part ++ times_part) ++ A)
      ∙ ap (λ (i : ℕ). pairs_from 0 x T ++ pairs_from i x ((steps_part ++ times_part) ++ A)) b
      ∙ ap (λ (ps : List Pair). pairs_from 0 x T ++ ps) (pairs_append z.tolds x (steps_part ++ times_part) A)
      ∙ ap (λ (i : ℕ). pairs_from 0 x T ++ (pairs_from z.tolds x (steps_part ++ times_part) ++ pairs_from i x A)) c
      ∙ ap (λ (ps : List Pair). ps ++ (pairs_from z.tolds x (steps_part ++ times_part) ++ pairs_from (after_all z) x A)) (told_is x)
      ∙ ap (λ (ps : List Pair). moved_list told (plain_move 0) x ++ (ps ++ pairs_from (after_all z) x A)) (repeated_is x)
      ∙ ap (λ (ps : List Pair). moved_list told (plain_move 0) x ++ (((last_list z step x ++ next_list z step x) ++ time_list z time x) ++ ps)) (after_is x)
      ∙ ap (λ (ps : List Pair). moved_list told (plain_move 0) x ++ ps) (append_assoc (last_list z step x ++ next_list z step x) (time_list z time x) (moved_list after (plain_move (after_all z)) x) ∙ append_assoc (last_list z step x) (next_list z step x) (time_list z time x ++ moved_list after (plain_move (after_all z)) x))

  pairs_are : (x : ℕ) → pairs_of (index_of z told step time after) x ≡ pairs_from 0 x (clauses_of z T S I A)
  pairs_are x = by (ltb x (2 * z.variables)) refl
    where
      by : (b : Bool) → ltb x (2 * z.variables) ≡ b → pairs_of (index_of z told step time after) x ≡ pairs_from 0 x (clauses_of z T S I A)
      by true e =
          let h : x < 2 * z.variables = grind (arith, nat_tests) in
          get_or-map-range_with_len (all_lists z told step time after) 0 (2 * z.variables) x x [] h (omega arith) ∙ sym (all_is x)
      by false e =
          let h : 2 * z.variables ≤ x = grind (arith, nat_tests) in
          get_or_past (index_of z told step time after) x [] (omega (arith, h, length-map-range_with_len (all_lists z told step time after) 0 (2 * z.variables)))
          ∙ sym (pairs_past 0 x (2 * z.variables) (clauses_of z T S I A) h parts.below)

  pub index_is : IsIndex z.variables (clauses_of z T S I A) (index_of z told step time after)
  index_is = record {
    long = length-map-range_with_len (all_lists z told step time after) 0 (2 * z.variables);
    pairs = pairs_are;
    exact = exact_of (clauses_of z T S I A) (index_of z told step time after) pairs_are;
    found = λ c h two. found_of (clauses_of z T S I A) (index_of z told step time after) pairs_are c two;
  }

-- the five lists that are read
pub lists_read : (z : Shape) (told step time after : List (List Pair)) (x : ℕ) (t l n m a : List Pair) → IsShape z → x < length (index_of z told step time after) → t ≡ moved_list told (plain_move 0) x → l ≡ last_list z step x → n ≡ next_list z step x → m ≡ time_list z time x → a ≡ moved_list after (plain_move z.before) x → pairs_of (index_of z told step time after) x ≡ t ++ (l ++ (n ++ (m ++ a)))
lists_read z told step time after x t l n m a shape h et el en em ea =
    let inside : x < 2 * z.variables = omega (arith, h, length-map-range_with_len (all_lists z told step time after) 0 (2 * z.variables)) in
    let b : moved_list after (plain_move (after_all z)) x ≡ a = ap (λ (i : ℕ). moved_list after (plain_move i) x) (sym shape.before) ∙ sym ea in
    get_or-map-range_with_len (all_lists z told step time after) 0 (2 * z.variables) x x [] inside (omega arith)
    ∙ ap (λ (ps : List Pair). moved_list told (plain_move 0) x ++ (last_list z step x ++ (next_list z step x ++ (time_list z time x ++ ps)))) b
    ∙ ap (λ (ps : List Pair). moved_list told (plain_move 0) x ++ (last_list z step x ++ (next_list z step x ++ (ps ++ a)))) (sym em)
    ∙ ap (λ (ps : List Pair). moved_list told (plain_move 0) x ++ (last_list z step x ++ (ps ++ (m ++ a)))) (sym en)
    ∙ ap (λ (ps : List Pair). moved_list told (plain_move 0) x ++ (ps ++ (n ++ (m ++ a)))) (sym el)
    ∙ ap (λ (ps : List Pair). ps ++ (l ++ (n ++ (m ++ a)))) (sym et)
