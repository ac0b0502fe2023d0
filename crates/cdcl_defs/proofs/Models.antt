-- Where every variable has a value and the true variables satisfy the formula, the values are a model of it.
use Rattle.std.proofs.Common.{arith, ◌≡◌, ℕ, zero, suc, ◌+◌, ◌*◌, ◌<◌, ◌/◌, List, [], ◌∷◌, map, Bool, true, false, refl, sym, ◌∙◌, length, Option, Some, None, IsSome, ap, unwrap_or, if◌then◌else◌, subst, zero-add, ◌++◌}
use Rattle.std.specs.List.{AllByRecursion, slice_get}
use Rattle.std.proofs.lemmas.List.Elements.{recursion_from_All}
use Rattle.clause_base.specs.Literal.{literal_value}
use Rattle.clause_base.specs.Clause.{clause_value, HasVariablesBelow}
use Rattle.clause_base.specs.Formula.{Cnf, Satisfies, assignment_of}
use Rattle.clause_base.specs.Derivation.{clauses_of}
use Rattle.cdcl_defs.specs.declared.trail.Assigned.{Assigned}
use Rattle.cdcl_defs.specs.State.{State, is_on, value_of, values_from}
use Rattle.cdcl_defs.specs.Sound.{IsLawful, IsSound, IsSolution, made_true, truths_from, truths_of}

truths-length : (trail : List Assigned) (v n : ℕ) → length (truths_from trail v n) ≡ n
truths-length trail v zero = refl
truths-length trail v (suc n) = ap suc (truths-length trail (v + 1) n)

truths-get : (trail : List Assigned) (v n i : ℕ) → i < n → slice_get (truths_from trail v n) i ≡ Some (made_true trail (v + i))
truths-get trail v zero i l = absurd (omega arith)
truths-get trail v (suc n) zero l = let e : v ≡ v + 0 = omega arith in ap (λ (m : ℕ). Some (made_true trail m)) e
truths-get trail v (suc n) (suc i) l =
    let e : v + 1 + i ≡ v + suc i = omega arith in
    truths-get trail (v + 1) n i (omega arith) ∙ ap (λ (m : ℕ). Some (made_true trail m)) e

same_literal : (p q : ℕ → Bool) (l : ℕ) → p (l / 2) ≡ q (l / 2) → literal_value p l ≡ literal_value q l
same_literal p q l e = rw e refl

same_clause : (p q : ℕ → Bool) (n : ℕ) (c : List ℕ) → ((v : ℕ) → v < n → p v ≡ q v) → AllByRecursion (λ l. l / 2 < n) c → clause_value p c ≡ clause_value q c
same_clause p q n [] same below = refl
same_clause p q n (l ∷ c) same below = rw (same_literal p q l (same (l / 2) below.0), same_clause p q n c same below.1) refl

same_all : (p q : ℕ → Bool) (n : ℕ) (cs : List (List ℕ)) → ((v : ℕ) → v < n → p v ≡ q v) → AllByRecursion (HasVariablesBelow n) cs → Satisfies p cs → Satisfies q cs
same_all p q n [] same below holds = tt
same_all p q n (c ∷ cs) same below holds =
    (sym (same_clause p q n c same (recursion_from_All (λ l. l / 2 < n) c below.0)) ∙ holds.0, same_all p q n cs same below.1 holds.1)

value_by : (p q : Bool) → IsSome (if p then Some true else if q then Some false else None) → (if p then Some true else if q then Some false else None) ≡ Some p
value_by true q h = refl
value_by false true h = refl
value_by false false h = let z : false ≡ true = h in cc

valued_from : (trail : List Assigned) (v n m : ℕ) → ((u : ℕ) → u < m → IsSome (value_of trail u)) → v + n ≡ m → values_from trail v n ≡ map Some (truths_from trail v n)
valued_from trail v zero m h e = refl
valued_from trail v (suc n) m h e =
    ap (λ (o : Option Bool). o ∷ values_from trail (v + 1) n) (value_by (is_on trail (2 * v)) (is_on trail (2 * v + 1)) (h v (omega arith)))
    ∙ ap (λ (t : List (Option Bool)). Some (made_true trail v) ∷ t) (valued_from trail (v + 1) n m h (omega arith))

formula_below : (n : ℕ) (clauses more : List (List ℕ)) → AllByRecursion (IsLawful n) (clauses ++ more) → AllByRecursion (HasVariablesBelow n) clauses
formula_below n [] more a = tt
formula_below n (c ∷ clauses) more a = (a.0.below, formula_below n clauses more a.1)

pub solution : (f : Cnf) (s : State) → IsSound f s → ((u : ℕ) → u < f.variables → IsSome (value_of s.trail u)) → Satisfies (made_true s.trail) f.clauses → IsSolution f s.trail
solution f s o v h =
    let same = λ (u : ℕ) (l : u < f.variables). sym (ap (λ (b : Option Bool). unwrap_or b false) (truths-get s.trail 0 f.variables u l) ∙ ap (made_true s.trail) (zero-add u)) in
    let below = formula_below f.variables f.clauses (clauses_of s.log) (subst (AllByRecursion (IsLawful f.variables)) o.logged.clauses_are o.lawful) in
    record {
      valued = valued_from s.trail 0 f.variables f.variables v (zero-add f.variables);
      model = record {
        long = truths-length s.trail 0 f.variables;
        satisfies = same_all (made_true s.trail) (assignment_of (truths_of f.variables s.trail)) f.variables f.clauses same below h;
      };
    }
