-- What a checker that is refuted has taken, and what a formula that has the empty clause is.
use Rattle.std.proofs.Common.{arith, ◌≡◌, ◌==◌, ◌+◌, ◌||◌, ℕ, suc, List, length, drop, ap, Result, Some, [], ◌∷◌, Bool, true, false, Ok, refl, sym, ◌∙◌, subst}
use Rattle.clause_base.specs.Formula.{Cnf, IsUnsatisfiable, Satisfies}
use Rattle.clause_base.specs.Derivation.{IsDerivation}
use Rattle.rup_check.specs.Taken.{CheckerView}
use Rattle.containers.specs.declared.memory.Memory.{Memory}
use Rattle.std.specs.Prelude.{slice_get}
use Rattle.std.proofs.Math.Seq.{drop-cons}
use Rattle.std.proofs.lemmas.Bool.{eqb-true, eq-eqb}
use Rattle.std.proofs.lemmas.Option.{slice_get_within, get_or_from_slice_get}
use Rattle.lrat_judge.specs.declared.verdict.Verdict.{Verdict}
use Rattle.lrat_judge.specs.declared.verdict.Verdict.TheVariants.{More, Refuted, Rejected, NotEmpty, TooLong, Syntax}
use Rattle.lrat_judge.specs.Verdicts.{verdict_ended}
use Rattle.lrat_judge.specs.Judged.{HasCounted, IsRefutedBy, has_empty}

or_true : (a b : Bool) → b ≡ true → (a || b) ≡ true
or_true true b e = refl
or_true false b e = e

-- the clauses from a place on, by the one that is there
open_at : (clauses : List (List ℕ)) (n : ℕ) (c : List ℕ) → slice_get clauses n ≡ Some c → drop n clauses ≡ c ∷ drop (n + 1) clauses
open_at clauses n c is =
    let one : suc n ≡ n + 1 = omega arith in
    drop-cons clauses n [] (slice_get_within clauses n c is) ∙ (ap (λ (x : List ℕ). x ∷ drop (suc n) clauses) (get_or_from_slice_get clauses n c [] is) ∙ ap (λ (k : ℕ). c ∷ drop k clauses) one)

pub empty_here : (clauses : List (List ℕ)) (n : ℕ) (c : List ℕ) → slice_get clauses n ≡ Some c → length c ≡ 0 → true ≡ has_empty (drop n clauses)
empty_here clauses n c is none = sym (ap has_empty (open_at clauses n c is) ∙ (rw (eq-eqb (length c) 0 none) refl))

pub empty_past : (clauses : List (List ℕ)) (n : ℕ) (c : List ℕ) → slice_get clauses n ≡ Some c → (length c ≡ 0 → ⊥) → has_empty (drop n clauses) ≡ has_empty (drop (n + 1) clauses)
empty_past clauses n c is some = ap has_empty (open_at clauses n c is) ∙ by (length c == 0) refl
  where
    by : (b : Bool) → (length c == 0) ≡ b → has_empty (c ∷ drop (n + 1) clauses) ≡ has_empty (drop (n + 1) clauses)
    by true e = absurd (some (eqb-true (length c) 0 e))
    by false e = rw e refl

-- no value satisfies the empty clause
empty_false : (values : ℕ → Bool) (clauses : List (List ℕ)) → has_empty clauses ≡ true → Satisfies values clauses → ⊥
empty_false values [] some all = absurd (let never : false ≡ true = some in cc)
empty_false values ([] ∷ clauses) some all = absurd (let never : false ≡ true = all.0 in cc)
empty_false values ((l ∷ clause) ∷ clauses) some all = by (λ rest. empty_false values clauses rest all.1) (length (l ∷ clause) == 0) refl
  where
    by : (has_empty clauses ≡ true → ⊥) → (b : Bool) → (length (l ∷ clause) == 0) ≡ b → ⊥
    by left true e = let zero_long = eqb-true (length (l ∷ clause)) 0 e in omega (arith, zero_long)
    by left false e = left (rw e at some)

-- a formula that has the empty clause is refuted by no entries
pub unsatisfiable_once : (formula : Cnf) → has_empty formula.clauses ≡ true → IsUnsatisfiable formula.clauses
unsatisfiable_once formula some = λ values all. empty_false values formula.clauses some all

pub refuted_once : (formula : Cnf) → has_empty formula.clauses ≡ true → IsRefutedBy formula 0
refuted_once formula some = record { log = []; derived = λ e less. absurd (omega (arith, less)); empty = rw some refl; count = refl }

-- that the end of a text was said to refute
abbrev Ended : Verdict → ℕ → Type 0
Ended verdict entries = verdict_ended verdict ≡ Refuted entries

-- so it is whatever is said of it
abbrev IsSaid : ℕ → Type 0
IsSaid entries = ◌≡◌ {A = Result Verdict Memory} (Ok (Refuted 0)) (Ok (Refuted entries))

pub refuted_at : (formula : Cnf) (entries : ℕ) → has_empty formula.clauses ≡ true → IsSaid entries → IsRefutedBy formula entries
refuted_at formula entries some e = let same : 0 ≡ entries = cc in subst (IsRefutedBy formula) same (refuted_once formula some)

-- what is said at the end of a text is no refutation that was not said of its last line
pub ended_refutes : (verdict : Verdict) (entries : ℕ) → Ended verdict entries → verdict ≡ Refuted entries
ended_refutes More entries e = absurd (let never : NotEmpty ≡ Refuted entries = e in cc)
ended_refutes (Refuted n) entries e = cc
ended_refutes (Rejected n) entries e = cc
ended_refutes NotEmpty entries e = cc
ended_refutes (TooLong n) entries e = cc
ended_refutes (Syntax n) entries e = cc

pub refuted_by : (checker : CheckerView) (formula : Cnf) (n m : ℕ) → HasCounted checker n → checker.refuted ≡ true → checker.formula ≡ formula → n ≡ m → IsRefutedBy formula m
refuted_by checker formula n m h r f e = record {
  log = h.log;
  derived = subst (λ (g : Cnf). IsDerivation g.variables g.clauses h.log) f h.taken.derived;
  empty = or_true (has_empty formula.clauses) _ (sym h.taken.refuted ∙ r);
  count = sym e ∙ h.count;
}
