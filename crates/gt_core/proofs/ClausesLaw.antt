use Rattle.std.proofs.Common.{arith, ◌≡◌, ◌==◌, ℕ, ◌+◌, ◌*◌, ◌≤◌, List, [], ◌∷◌, length, true, false, ◌&&◌, ◌||◌, ◌⊎◌, inl, inr}
use Rattle.std.specs.List.{AllByRecursion}
use Rattle.gt_core.specs.Interference.{has_clause}
use Rattle.gt_core.specs.Published.{Pairwise}
use Rattle.gt_core.specs.Clauses.{KnownClauses, IsClause, IsBefore, IsKnownClauses}
use Rattle.gt_core.proofs.published.Basics.{passing, each_at, each_from, or_split, and_split, not_true, test_same}
use Rattle.gt_core.specs.Limits.{most_facts}

-- How many known clauses there can be, and over which literals.

-- the place of a clause among all
abbrev key : ℕ × ℕ → ℕ
key c = c.0 * 4096 + c.1

few_from : (facts low : ℕ) (cs : List (ℕ × ℕ)) → facts ≤ most_facts → AllByRecursion (IsClause facts) cs → Pairwise IsBefore cs → AllByRecursion (λ c. low ≤ key c) cs → low ≤ 16777216 → length cs + low ≤ 16777216
few_from facts low [] f a p l b = omega arith
few_from facts low (c ∷ cs) f a p l b =
    let top : key c + 1 ≤ 16777216 = let h = a.0 in omega arith in
    let more : AllByRecursion (λ d. key c + 1 ≤ key d) cs = each_from _ cs (λ d i.
    let lawful = each_at (IsClause facts) cs d a.1 i in
    elim (each_at (IsBefore c) cs d p.0 i) [
      | inl lt ↦ let h = a.0 in omega arith
      | inr e ↦ omega arith
    ]) in
    let r = few_from facts (key c + 1) cs f a.1 p.1 more top in
    let here : low ≤ key c = l.0 in
    omega arith

pub few_clauses : (known : KnownClauses) → IsKnownClauses known → length known.clauses ≤ 16777216
few_clauses known k =
    let r = few_from known.facts 0 known.clauses k.few k.lawful k.sorted (each_from _ known.clauses (λ c i. omega arith)) (omega arith) in
    omega arith

past_by : (facts a b l m : ℕ) → IsClause facts (a, b) → (a ≡ l) × (b ≡ m) → (2 * facts ≤ l) ⊎ (2 * facts ≤ m) → ⊥
past_by facts a b l m c e (inl h) = omega arith
past_by facts a b l m c e (inr h) = omega arith

swapped : (P Q : Type 0) → P ⊎ Q → Q ⊎ P
swapped P Q (inl p) = inr p
swapped P Q (inr q) = inl q

same_both : (a b l m : ℕ) → ((a == l) && (b == m)) ≡ true → (a ≡ l) × (b ≡ m)
same_both a b l m h = let y = and_split (a == l) (b == m) h in (test_same a l y.0, test_same b m y.1)

-- no clause has a literal past the facts
pub no_clause_past : (known : KnownClauses) (l m : ℕ) → IsKnownClauses known → (2 * known.facts ≤ l) ⊎ (2 * known.facts ≤ m) → has_clause known.clauses l m ≡ false
no_clause_past known l m k past = not_true _ (λ h.
    let p = passing (λ (c : ℕ × ℕ). ((c.0 == l) && (c.1 == m)) || ((c.0 == m) && (c.1 == l))) known.clauses h in
    let c : IsClause known.facts (p.one.0, p.one.1) = each_at (IsClause known.facts) known.clauses p.one k.lawful p.among in
    elim (or_split ((p.one.0 == l) && (p.one.1 == m)) ((p.one.0 == m) && (p.one.1 == l)) p.passes) [
      | inl x ↦ past_by known.facts p.one.0 p.one.1 l m c (same_both p.one.0 p.one.1 l m x) past
      | inr x ↦ past_by known.facts p.one.0 p.one.1 m l c (same_both p.one.0 p.one.1 m l x) (swapped _ _ past)
    ])
