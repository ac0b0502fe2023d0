-- Codes of a clause, from the left.
use Rattle.std.proofs.Common.{◌≡◌, ◌∙◌, ◌==◌, ◌||◌, ℕ, Bool, true, false, List, [], ◌∷◌, refl, sym, ap, subst, arith}
use Rattle.std.proofs.lemmas.Bool.Decides.{nat_tests}
use Rattle.clause_base.specs.Literal.{opposite}
use Rattle.clause_base.specs.Clause.{IsClause, IsRising, has_opposite_pair}
use Rattle.clause_base.proofs.published.Neighbours.{pair-drop, pair-last}
use Rattle.proof_log.specs.own.Codes.{GoesBefore}

differs : (m k : ℕ) → (m ≡ k → ⊥) → (m == k) ≡ false
differs m k apart = by (m == k) refl
  where
    by : (t : Bool) → (m == k) ≡ t → (m == k) ≡ false
    by true e = let same : m ≡ k = grind (arith, nat_tests) in absurd (apart same)
    by false e = e

pairs : (l m : ℕ) (ms : List ℕ) → IsRising (l ∷ m ∷ ms) → has_opposite_pair (l ∷ m ∷ ms) ≡ ((m == opposite l) || has_opposite_pair (m ∷ ms))
pairs l m ms rising = pair-drop (l ∷ m ∷ ms) 0 l m (omega arith) refl refl rising

no_clause : (a b : Bool) → (a || b) ≡ false → (a ≡ false) × (b ≡ false)
no_clause true b e = absurd (let never : true ≡ false = e in cc)
no_clause false b e = (refl, e)

pub clause_of_none : IsClause []
clause_of_none = record { rising = tt; no_pair = refl }

-- a code in front
pub clause_cons : (l : ℕ) (ms : List ℕ) → GoesBefore l ms → IsClause ms → IsClause (l ∷ ms)
clause_cons l [] g c = record { rising = tt; no_pair = pair-last (l ∷ []) 0 (omega arith) }
clause_cons l (m ∷ ms) g c =
    let rising : IsRising (l ∷ m ∷ ms) = (g.0, c.rising) in
    record { rising = rising; no_pair = pairs l m ms rising ∙ (ap (λ (b : Bool). b || has_opposite_pair (m ∷ ms)) (differs m (opposite l) g.1) ∙ c.no_pair) }

-- and off again
pub clause_uncons : (l : ℕ) (ms : List ℕ) → IsClause (l ∷ ms) → GoesBefore l ms × IsClause ms
clause_uncons l [] c = (tt, clause_of_none)
clause_uncons l (m ∷ ms) c =
    let rising = c.rising in
    let split = no_clause (m == opposite l) (has_opposite_pair (m ∷ ms)) (sym (pairs l m ms rising) ∙ c.no_pair) in
    let apart : m ≡ opposite l → ⊥ = λ same. (let off = split.0 in let never : (m == opposite l) ≡ true = grind (arith, nat_tests) in cc) in
    ((rising.0, apart), record { rising = rising.1; no_pair = split.1 })

-- what is left of codes is a clause where they are, and the other way round
abbrev pub StaysClause : List ℕ → List ℕ → Type 0
StaysClause codes rest = (IsClause rest → IsClause codes) × (IsClause codes → IsClause rest)

pub stays_next : (codes rest : List ℕ) (l : ℕ) (ms : List ℕ) → StaysClause codes rest → rest ≡ l ∷ ms → GoesBefore l ms → StaysClause codes ms
stays_next codes rest l ms s e g = (
  (λ c. s.0 (subst IsClause (sym e) (clause_cons l ms g c))),
  λ c. (clause_uncons l ms (subst IsClause e (s.1 c))).1,
)
