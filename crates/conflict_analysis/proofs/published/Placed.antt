-- The clauses that a log learns, by their numbers.
use Rattle.std.proofs.Common.{arith, ◌≡◌, ℕ, zero, suc, ◌+◌, ◌-◌, ◌<◌, ◌≤◌, List, [], ◌∷◌, ◌++◌, map, length, refl, ap, ◌∙◌, length-append}
use Rattle.clause_base.specs.declared.log.Entry.{Entry}
use Rattle.clause_base.specs.declared.log.Entry.TheVariants.{Learn, Drop}
use Rattle.clause_base.specs.Derivation.{clauses_of}
use Rattle.cdcl_defs.specs.State.{clause_at}

pub learned_learn : (log : List Entry) (c h : List ℕ) → clauses_of (log ++ Learn c h ∷ []) ≡ clauses_of log ++ c ∷ []
learned_learn [] c h = refl
learned_learn (Learn k g ∷ log) c h = ap (λ (t : List (List ℕ)). k ∷ t) (learned_learn log c h)
learned_learn (Drop n ∷ log) c h = learned_learn log c h

pub learned_drops : (log : List Entry) (ns : List ℕ) → clauses_of (log ++ map (λ n. Drop n) ns) ≡ clauses_of log
learned_drops [] ns = none ns
  where
    none : (ms : List ℕ) → clauses_of (map (λ n. Drop n) ms) ≡ []
    none [] = refl
    none (m ∷ ms) = none ms
learned_drops (Learn k g ∷ log) ns = ap (λ (t : List (List ℕ)). k ∷ t) (learned_drops log ns)
learned_drops (Drop n ∷ log) ns = learned_drops log ns

pub clause_old : (clauses more : List (List ℕ)) (n : ℕ) → n < length clauses → clause_at (clauses ++ more) n ≡ clause_at clauses n
clause_old [] more n h = absurd (omega arith)
clause_old (c ∷ clauses) more zero h = refl
clause_old (c ∷ clauses) more (suc n) h = clause_old clauses more n (omega arith)

pub clause_new : (clauses more : List (List ℕ)) (n : ℕ) → length clauses ≤ n → clause_at (clauses ++ more) n ≡ clause_at more (n - length clauses)
clause_new [] more n h = let e : n ≡ n - 0 = omega arith in ap (clause_at more) e
clause_new (c ∷ clauses) more zero h = absurd (omega arith)
clause_new (c ∷ clauses) more (suc n) h = let e : n - length clauses ≡ suc n - suc (length clauses) = omega arith in clause_new clauses more n (omega arith) ∙ ap (clause_at more) e

pub length_learned : (log : List Entry) (c h : List ℕ) → length (clauses_of (log ++ Learn c h ∷ [])) ≡ length (clauses_of log) + 1
length_learned log c h = ap (λ (cs : List (List ℕ)). length cs) (learned_learn log c h) ∙ length-append (clauses_of log) (c ∷ [])
