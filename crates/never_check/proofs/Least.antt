-- The least set of literals that is propagated from some, and what is refuted.
use Rattle.std.proofs.Common.{◌≡◌, ℕ, List, [], ◌++◌, length, take, Bool, refl, ap, sym, ◌∙◌, subst}
use Rattle.std.specs.Prelude.{MatchBool}
use Rattle.std.specs.List.{AllByRecursion}
use Rattle.gt_core.specs.Literal.{is_in}
use Rattle.gt_core.proofs.published.Basics.{apart}
use Rattle.never_defs.specs.Propagation.{IsPropagated, IsRefuted}
use Rattle.never_check.specs.Trail.{Reached}
use Rattle.never_check.specs.Follow.{HasAll, Obeys, IsGrown, IsContradiction}
use Rattle.never_check.specs.Rules.{ObeysRules, ObeysWith, AreFollowed}
use Rattle.never_check.specs.Verdicts.{IsBase, IsLeast, AreRefuted, HasLeast}
use Rattle.never_check.specs.declared.rules.Rules.{Rules}
use Rattle.never_check.proofs.Grown.{front_in, either_way}
use Rattle.never_check.proofs.Casing.{has_split, has_joined}
use Rattle.never_check.proofs.Forwarding.{trail_propagated}

module _ (rules : Rules) where
  -- what a trail that is begun has follows from nothing
  pub base_least : (trail : Reached) → IsBase rules trail → IsLeast rules [] trail
  base_least trail base = record {
    facts = base.facts;
    followed = base.followed;
    apart = base.apart;
    sound = λ set obeys. base.sound set obeys.0;
    has = λ l i. absurd (apart _ i refl);
  }

  pub least_propagated : (given : List ℕ) (trail : Reached) → IsLeast rules given trail → IsPropagated rules.known.now.clauses rules.clauses.now (is_in given) (is_in trail.literals)
  least_propagated given trail least = trail_propagated rules (is_in given) trail.literals least.followed least.has

  -- what has a least set without two opposite literals is not refuted
  pub least_open : (given : List ℕ) → HasLeast rules given → AreRefuted rules given → ⊥
  least_open given has refuted = refuted (is_in has.0.literals) (least_propagated given has.0 has.1) has.1.apart

  -- the least set of more literals
  pub least_more : (given lits : List ℕ) (b : Bool) (old next : Reached) → IsLeast rules given old → next.facts ≡ old.facts
      → MatchBool b (IsContradiction (ObeysWith rules lits) old.literals) (IsGrown (ObeysWith rules lits) old.literals next.literals × AreFollowed rules next.literals next.literals × HasAll (is_in next.literals) lits)
      → MatchBool b (AreRefuted rules (given ++ lits)) (IsLeast rules (given ++ lits) next)
  least_more given lits b old next least facts told = either_way b clash grown told
    where
      clash : IsContradiction (ObeysWith rules lits) old.literals → AreRefuted rules (given ++ lits)
      clash k = λ set p none.
          let hs = has_split set given lits p.given in
          k set ((p.full, p.unit), hs.1) (least.sound set ((p.full, p.unit), hs.0)) none

      grown : IsGrown (ObeysWith rules lits) old.literals next.literals × AreFollowed rules next.literals next.literals × HasAll (is_in next.literals) lits → IsLeast rules (given ++ lits) next
      grown g = record {
        facts = facts ∙ least.facts;
        followed = g.1;
        apart = g.0.apart least.apart;
        sound = λ set obeys.
            let hs = has_split set given lits obeys.1 in
            g.0.sound set (obeys.0, hs.1) (least.sound set (obeys.0, hs.0));
        has = has_joined (is_in next.literals) given lits (λ l i. front_in old.literals next.literals g.0.front l (least.has l i)) g.2;
      }

  pub more_told : (given lits : List ℕ) (b : Bool) (old next : Reached) → IsLeast rules given old → next.facts ≡ old.facts
      → MatchBool b (IsContradiction (ObeysWith rules lits) old.literals) (IsGrown (ObeysWith rules lits) old.literals next.literals × AreFollowed rules next.literals next.literals × HasAll (is_in next.literals) lits)
      → MatchBool b (AreRefuted rules (given ++ lits)) (HasLeast rules (given ++ lits))
  more_told given lits b old next least facts told = either_way b (λ r. r) (λ (l : IsLeast rules (given ++ lits) next). (next, l)) (least_more given lits b old next least facts told)

  -- the least set of literals that are assumed first
  pub begun_told : (given lits : List ℕ) (b : Bool) (old next : Reached) → IsBase rules old → next.facts ≡ old.facts → lits ≡ given
      → MatchBool b (IsContradiction (ObeysWith rules lits) old.literals) (IsGrown (ObeysWith rules lits) old.literals next.literals × AreFollowed rules next.literals next.literals × HasAll (is_in next.literals) lits)
      → MatchBool b (AreRefuted rules given) (IsLeast rules given next)
  begun_told given lits b old next base facts same told =
      least_more [] given b old next (base_least old base) facts
      (subst (λ (ls : List ℕ). MatchBool b (IsContradiction (ObeysWith rules ls) old.literals) (IsGrown (ObeysWith rules ls) old.literals next.literals × AreFollowed rules next.literals next.literals × HasAll (is_in next.literals) ls)) same told)

  -- with more literals what is refuted stays so
  pub refuted_more : (some all : List ℕ) → HasAll (is_in all) some → AreRefuted rules some → AreRefuted rules all
  refuted_more some all has refuted = λ set p none. refuted set (record { given = λ l i. p.given l (has l i); full = p.full; unit = p.unit }) none

-- ---- the known clauses alone

module _ (rules : Rules) (none : rules.clauses.now ≡ []) where
  pub plain_obeys : (base set : ℕ → Bool) → IsPropagated rules.known.now.clauses [] base set → ObeysRules rules set
  plain_obeys base set p = (p.full, subst (λ (cs : List (List ℕ)). AllByRecursion (Obeys set) cs) (sym none) tt)

  pub plain_refuted : (given : List ℕ) → AreRefuted rules given → IsRefuted rules.known.now.clauses [] (is_in given)
  plain_refuted given refuted = subst (λ (cs : List (List ℕ)). IsRefuted rules.known.now.clauses cs (is_in given)) none refuted

  pub refuted_plain : (given : List ℕ) → IsRefuted rules.known.now.clauses [] (is_in given) → AreRefuted rules given
  refuted_plain given refuted = subst (λ (cs : List (List ℕ)). IsRefuted rules.known.now.clauses cs (is_in given)) (sym none) refuted

  pub plain_propagated : (given : List ℕ) (trail : Reached) → IsLeast rules given trail → IsPropagated rules.known.now.clauses [] (is_in given) (is_in trail.literals)
  plain_propagated given trail least = subst (λ (cs : List (List ℕ)). IsPropagated rules.known.now.clauses cs (is_in given) (is_in trail.literals)) none (least_propagated rules given trail least)

  -- the least set is part of each other one
  pub plain_least : (given : List ℕ) (trail : Reached) → IsLeast rules given trail → (set : ℕ → Bool) → IsPropagated rules.known.now.clauses [] (is_in given) set → HasAll set trail.literals
  plain_least given trail least set p = least.sound set (plain_obeys (is_in given) set p, p.given)

-- rules that contradict themselves refute everything
pub begun_refutes : (rules : Rules) (base : ℕ → Bool) → IsContradiction (ObeysRules rules) [] → IsRefuted rules.known.now.clauses rules.clauses.now base
begun_refutes rules base k = λ set p none. k set (p.full, p.unit) (λ l i. absurd (apart _ i refl)) none

-- a trail that went back to the length of an earlier one is that one
pub went_back : (old new back : Reached) (n : ℕ) → back ≡ record { facts = new.facts; literals = take n new.literals } → new.facts ≡ old.facts → n ≡ length old.literals → take (length old.literals) new.literals ≡ old.literals → back ≡ old
went_back old new back n is facts long front =
    is ∙ ap (λ (k : ℕ). let r : Reached = record { facts = k; literals = take n new.literals } in r) facts ∙ ap (λ (m : ℕ). let r : Reached = record { facts = old.facts; literals = take m new.literals } in r) long
    ∙ ap (λ (ls : List ℕ). let r : Reached = record { facts = old.facts; literals = ls } in r) front
