-- The pairs of blocks of clauses of one length, where all blocks but one or two have none.
use Rattle.std.proofs.Common.{arith, ◌≡◌, ◌≢◌, ◌==◌, ℕ, zero, suc, ◌+◌, ◌*◌, ◌<◌, ◌≤◌, List, [], ◌++◌, length, Bool, true, false, refl, ap, ◌∙◌, append-nil, length-append}
use Rattle.std.specs.List.{flat_map, range_with_len}
use Rattle.clause_base.specs.declared.pair.Pair.{Pair}
use Rattle.clause_base.specs.Pairs.{pairs_from}
use Rattle.clause_base.proofs.published.PairCounts.{equal_of, apart_of}
use Rattle.cdcl_tables.proofs.Shifts.{pairs_append}

module _ (f : ℕ → List (List ℕ)) (long : ℕ) (even : (u : ℕ) → length (f u) ≡ long) (base x : ℕ) where
  -- the pairs of one block by its number
  abbrev pub block : ℕ → List Pair
  block u = pairs_from (base + u * long) x (f u)

  -- those of so many blocks from one on
  abbrev pub blocks : ℕ → ℕ → List Pair
  blocks a n = pairs_from (base + a * long) x (flat_map f (range_with_len a n))

  blocks_cons : (a n : ℕ) → blocks a (suc n) ≡ block a ++ blocks (a + 1) n
  blocks_cons a n =
      let e : base + a * long + length (f a) ≡ base + (a + 1) * long = omega (arith, even a) in
      pairs_append (base + a * long) x (f a) (flat_map f (range_with_len (a + 1) n))
      ∙ ap (λ (i : ℕ). block a ++ pairs_from i x (flat_map f (range_with_len (a + 1) n))) e

  pub blocks_none : (a n : ℕ) → ((u : ℕ) → a ≤ u → u < a + n → block u ≡ []) → blocks a n ≡ []
  blocks_none a zero none = refl
  blocks_none a (suc n) none =
      blocks_cons a n
      ∙ ap (λ (ps : List Pair). ps ++ blocks (a + 1) n) (none a (omega arith) (omega arith))
      ∙ blocks_none (a + 1) n (λ u g h. none u (omega (arith, g)) (omega (arith, h)))

  pub blocks_one : (a n t : ℕ) → a ≤ t → t < a + n → ((u : ℕ) → a ≤ u → u < a + n → u ≢ t → block u ≡ []) → blocks a n ≡ block t
  blocks_one a zero t low high none = absurd (omega (arith, low, high))
  blocks_one a (suc n) t low high none =
      by (λ ne. blocks_one (a + 1) n t (omega (arith, low, ne)) (omega (arith, high)) (λ u g h nt. none u (omega (arith, g)) (omega (arith, h)) nt)) (a == t) refl
    where
      by : (a ≢ t → blocks (a + 1) n ≡ block t) → (b : Bool) → (a == t) ≡ b → blocks a (suc n) ≡ block t
      by later true e =
          let q : a ≡ t = equal_of a t e in
          blocks_cons a n
          ∙ ap (λ (ps : List Pair). block a ++ ps) (blocks_none (a + 1) n (λ u g h. none u (omega (arith, g)) (omega (arith, h)) (λ (z : u ≡ t). absurd (omega (arith, q, z, g)))))
          ∙ append-nil (block a)
          ∙ ap block q
      by later false e =
          let q : a ≢ t = apart_of a t e in
          blocks_cons a n
          ∙ ap (λ (ps : List Pair). ps ++ blocks (a + 1) n) (none a (omega arith) (omega arith) q)
          ∙ later q

  pub blocks_two : (a n s t : ℕ) → t ≡ s + 1 → a ≤ s → t < a + n → ((u : ℕ) → a ≤ u → u < a + n → u ≢ s → u ≢ t → block u ≡ []) → blocks a n ≡ block s ++ block t
  blocks_two a zero s t next low high none = absurd (omega (arith, low, high, next))
  blocks_two a (suc n) s t next low high none =
      by (λ ne. blocks_two (a + 1) n s t next (omega (arith, low, ne)) (omega (arith, high)) (λ u g h ns nt. none u (omega (arith, g)) (omega (arith, h)) ns nt)) (a == s) refl
    where
      by : (a ≢ s → blocks (a + 1) n ≡ block s ++ block t) → (b : Bool) → (a == s) ≡ b → blocks a (suc n) ≡ block s ++ block t
      by later true e =
          let q : a ≡ s = equal_of a s e in
          blocks_cons a n
          ∙ ap (λ (ps : List Pair). block a ++ ps) (blocks_one (a + 1) n t (omega (arith, next, q)) (omega (arith, high)) (λ u g h ne. none u (omega (arith, g)) (omega (arith, h)) (λ (z : u ≡ s). absurd (omega (arith, q, z, g))) ne))
          ∙ ap (λ (u : ℕ). block u ++ block t) q
      by later false e =
          let q : a ≢ s = apart_of a s e in
          blocks_cons a n
          ∙ ap (λ (ps : List Pair). ps ++ blocks (a + 1) n) (none a (omega arith) (omega arith) q (λ (z : a ≡ t). absurd (omega (arith, next, z, low))))
          ∙ later q

pub blocks_long : (f : ℕ → List (List ℕ)) (long : ℕ) → ((u : ℕ) → length (f u) ≡ long) → (a n : ℕ) → length (flat_map f (range_with_len a n)) ≡ n * long
blocks_long f long even a zero = omega arith
blocks_long f long even a (suc n) = omega (arith, length-append (f a) (flat_map f (range_with_len (a + 1) n)), even a, blocks_long f long even (a + 1) n)
