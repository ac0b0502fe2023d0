use Rattle.std.proofs.Common.{arith, ◌≡◌, ◌==◌, ℕ, ◌+◌, ◌*◌, ◌<◌, List, [], ◌∷◌, map, length, Bool, true, false, refl, ap, ◌∙◌, fold, if◌then◌else◌, nat_lt, Some, None}
use Rattle.std.specs.List.{cons_option}
use Rattle.clause_base.specs.Literal.{opposite}
use Rattle.clause_base.proofs.published.Moved.{below, same, pair_renamed}
use Rattle.clause_base.specs.Clause.{has_opposite_pair, clause_of}
use Rattle.containers.specs.Rising.{put}
use Rattle.formula_defs.specs.Clause.{Literal, Is, Not, code}
use Rattle.formula_defs.specs.Coded.{coded, literals_in}
use Rattle.formula_defs.proofs.Alike.{ClauseAlike, Alike}

-- A renaming of codes that keeps their order and their opposites keeps sorted clauses as they are.

pub literals_in-renamed : (g : ℕ → ℕ) (cs : List (List ℕ)) → literals_in (map (map g) cs) ≡ literals_in cs
literals_in-renamed g [] = refl
literals_in-renamed g (c ∷ cs) = let h = literals_in-renamed g cs in let l = long c in omega arith
  where
    long : (xs : List ℕ) → length (map g xs) ≡ length xs
    long [] = refl
    long (x ∷ xs) = let h = long xs in omega arith

module _ (g : ℕ → ℕ) (rises : (l m : ℕ) → l < m → g l < g m) (turns : (l : ℕ) → opposite (g l) ≡ g (opposite l)) where
  put_by : (lits : List ℕ) (m l : ℕ) (b c : Bool) → put (map g lits) (g l) ≡ map g (put lits l) → (if b then g m ∷ put (map g lits) (g l) else if c then g m ∷ map g lits else g l ∷ g m ∷ map g lits) ≡ map g (if b then m ∷ put lits l else if c then m ∷ lits else l ∷ m ∷ lits)
  put_by lits m l true c h = ap (λ (x : List ℕ). g m ∷ x) h
  put_by lits m l false true h = refl
  put_by lits m l false false h = refl

  put_renamed : (lits : List ℕ) (l : ℕ) → put (map g lits) (g l) ≡ map g (put lits l)
  put_renamed [] l = refl
  put_renamed (m ∷ lits) l = rw (below g rises turns m l, same g rises turns m l) (put_by lits m l (nat_lt m l) (m == l) (put_renamed lits l))

  fold_renamed : (sorted lits : List ℕ) → fold put (map g sorted) (map g lits) ≡ map g (fold put sorted lits)
  fold_renamed sorted [] = refl
  fold_renamed sorted (l ∷ lits) = ap (λ (x : List ℕ). fold put x (map g lits)) (put_renamed sorted l) ∙ fold_renamed (put sorted l) lits

  one_coded : (lits : List ℕ) (rest : List (List ℕ)) (b c : Bool) → b ≡ c → cons_option (if b then None else Some (fold put [] (map g lits))) (map (map g) rest) ≡ map (map g) (cons_option (if c then None else Some (fold put [] lits)) rest)
  one_coded lits rest true true e = refl
  one_coded lits rest false false e = ap (λ (x : List ℕ). x ∷ map (map g) rest) (fold_renamed [] lits)
  one_coded lits rest true false e = absurd (cc)
  one_coded lits rest false true e = absurd (cc)

  module _ (R : ℕ → ℕ → Type 0) (positive : (k m : ℕ) → R k m → 2 * m ≡ g (2 * k)) (negative : (k m : ℕ) → R k m → 2 * m + 1 ≡ g (2 * k + 1)) where
    codes_renamed : (c d : List Literal) → ClauseAlike R c d → map code d ≡ map g (map code c)
    codes_renamed [] [] a = refl
    codes_renamed [] (m ∷ d) a = absurd a
    codes_renamed (k ∷ c) [] a = absurd a
    codes_renamed (Is k ∷ c) (Is m ∷ d) a = rw (positive k m a.0, codes_renamed c d a.1) refl
    codes_renamed (Is k ∷ c) (Not m ∷ d) a = absurd a.0
    codes_renamed (Not k ∷ c) (Is m ∷ d) a = absurd a.0
    codes_renamed (Not k ∷ c) (Not m ∷ d) a = rw (negative k m a.0, codes_renamed c d a.1) refl

    -- alike clauses have the same codes up to the renaming
    pub coded_renamed : (cs ds : List (List Literal)) → Alike R cs ds → coded ds ≡ map (map g) (coded cs)
    coded_renamed [] [] a = refl
    coded_renamed [] (d ∷ ds) a = absurd a
    coded_renamed (c ∷ cs) [] a = absurd a
    coded_renamed (c ∷ cs) (d ∷ ds) a =
        ap (λ (x : List ℕ). cons_option (clause_of x) (coded ds)) (codes_renamed c d a.0)
        ∙ ap (λ (x : List (List ℕ)). cons_option (clause_of (map g (map code c))) x) (coded_renamed cs ds a.1)
        ∙ one_coded (map code c) (coded cs) (has_opposite_pair (map g (map code c))) (has_opposite_pair (map code c)) (pair_renamed g rises turns (map code c))
