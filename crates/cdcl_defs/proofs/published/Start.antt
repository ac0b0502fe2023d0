-- The state before any event is sound.
use Rattle.std.proofs.Common.{arith, ◌≡◌, ℕ, zero, suc, ◌<◌, List, [], ◌∷◌, length, true, replicate, refl, sym}
use Rattle.std.specs.List.{AllByRecursion}
use Rattle.std.proofs.lemmas.List.{append-nil, length-replicate}
use Rattle.std.proofs.lemmas.List.Elements.{recursion_from_All}
use Rattle.clause_base.specs.Clause.{IsClause, HasVariablesBelow}
use Rattle.cdcl_defs.specs.State.{is_kept}
use Rattle.cdcl_defs.specs.declared.standing.Standing.TheVariants.{Going, Found, Refuted}
use Rattle.cdcl_defs.specs.Sound.{IsLawful, kept_count}
use Rattle.cdcl_defs.specs.Laws.{StartIsSound}

both : (n : ℕ) (clauses : List (List ℕ)) → AllByRecursion IsClause clauses → AllByRecursion (HasVariablesBelow n) clauses → AllByRecursion (IsLawful n) clauses
both n [] a b = tt
both n (c ∷ clauses) a b = (record { clause = a.0; below = b.0 }, both n clauses a.1 b.1)

flag : (n k : ℕ) → k < n → is_kept (replicate n true) k ≡ true
flag zero k h = absurd (omega arith)
flag (suc n) zero h = refl
flag (suc n) (suc k) h = flag n k (omega arith)

flag_count : (n : ℕ) → kept_count (replicate n true) ≡ n
flag_count zero = refl
flag_count (suc n) = let h = flag_count n in omega arith

pub start_sound : StartIsSound
start_sound f clauses below = record {
  many = refl;
  given = refl;
  logged = record {
    clauses_are = sym (append-nil f.clauses);
    flags = length-replicate (length f.clauses) true;
    kept_are = λ n h. flag (length f.clauses) n h;
    not_ahead = λ n h. refl;
    formula_kept = λ n h. flag (length f.clauses) n h;
    derived = λ e h. absurd (omega arith);
    balanced = omega (arith, flag_count (length f.clauses));
  };
  lawful = both f.variables f.clauses (recursion_from_All IsClause f.clauses clauses) (recursion_from_All (HasVariablesBelow f.variables) f.clauses below);
  trail = tt;
  counted = refl;
  found = λ h. let z : Going ≡ Found = h in cc;
  solved = λ h. let z : Going ≡ Found = h in absurd (let y : ⊥ = cc in y);
  refuted = λ h. let z : Going ≡ Refuted = h in cc;
}
