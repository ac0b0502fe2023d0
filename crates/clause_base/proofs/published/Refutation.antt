-- A formula with a derivation that ends with the empty clause is unsatisfiable: an assignment that makes the named clauses
-- true makes each forced literal true, so no hints lead to a conflict unless some literal of the entry's clause is true.
use Rattle.std.proofs.Common.{arith, ◌≡◌, ℕ, zero, suc, ◌-◌, ◌≤◌, length, Bool, true, false, List, [], ◌∷◌, ◌++◌, take, Option, Some, None, refl, sym, IsSomeAnd, IsTrue, if◌then◌else◌, ◌&&◌}
use Rattle.std.specs.List.{slice_get, AllByRecursion}
use Rattle.std.proofs.lemmas.Option.{slice_get_within, get_or_from_slice_get}
use Rattle.std.proofs.Math.Seq.{take-suc}
use Rattle.std.proofs.lemmas.Bool.Decides.{nat_tests}
use Rattle.clause_base.specs.Literal.{opposite, literal_value}
use Rattle.clause_base.specs.Clause.{has_literal, clause_value, has_variables_below}
use Rattle.clause_base.specs.Formula.{Satisfies, IsUnsatisfiable}
use Rattle.clause_base.specs.declared.log.Entry.{Entry}
use Rattle.clause_base.specs.declared.log.Entry.TheVariants.{Learn, Drop}
use Rattle.clause_base.specs.Derivation.{open_literals, effect_of, effect_of_open, Effect, Conflicts, Forces, Loose, goes_on, leads_to_conflict, clauses_of, is_kept_after, clause_kept, is_derived_after, learns_empty, IsDerivation, IsRefutation}

-- an assignment makes each literal of a list false
abbrev AllFalse : (ℕ → Bool) → List ℕ → Type 0
AllFalse v lits = AllByRecursion (λ l. literal_value v l ≡ false) lits

-- an assignment makes each clause true that some number names
abbrev pub NamesTrue : (ℕ → Bool) → (ℕ → Option (List ℕ)) → Type 0
NamesTrue v named = (k : ℕ) (clause : List ℕ) → named k ≡ Some clause → clause_value v clause ≡ true

-- the opposite of a true literal is false
literal_value-opposite : (v : ℕ → Bool) (l : ℕ) → literal_value v l ≡ true → literal_value v (opposite l) ≡ false
literal_value-opposite v l t = grind (arith, nat_tests)

-- a literal among false ones is false
false_among : (v : ℕ → Bool) (falsified : List ℕ) (l : ℕ) → AllFalse v falsified → has_literal falsified l ≡ true → literal_value v l ≡ false
false_among v [] l a t = cc
false_among v (f ∷ falsified) l a t = grind (arith, nat_tests, false_among v falsified l a.1, a.0)

-- where a clause is true and some literals are false, one of its open literals is true
clause_value-open : (v : ℕ → Bool) (falsified clause : List ℕ) → AllFalse v falsified → clause_value v clause ≡ true → clause_value v (open_literals falsified clause) ≡ true
clause_value-open v falsified [] a t = t
clause_value-open v falsified (l ∷ clause) a t = grind (arith, nat_tests, false_among v falsified l a, clause_value-open v falsified clause a)

AllFalse-append : (v : ℕ → Bool) (falsified : List ℕ) (l : ℕ) → AllFalse v falsified → literal_value v l ≡ false → AllFalse v (falsified ++ l ∷ [])
AllFalse-append v [] l a t = (t, tt)
AllFalse-append v (f ∷ falsified) l a t = (a.0, AllFalse-append v falsified l a.1 t)

-- a conflict has no true literal
conflicts_false : (v : ℕ → Bool) (falsified opened : List ℕ) → effect_of_open falsified opened ≡ Conflicts → clause_value v opened ≡ true → ⊥
conflicts_false v falsified [] e t = cc
conflicts_false v falsified (l ∷ []) e t = grind (arith, nat_tests)
conflicts_false v falsified (l ∷ m ∷ rest) e t = cc

-- what is forced is true
forces_true : (v : ℕ → Bool) (falsified opened : List ℕ) (x : ℕ) → effect_of_open falsified opened ≡ Forces x → clause_value v opened ≡ true → literal_value v x ≡ true
forces_true v falsified [] x e t = cc
forces_true v falsified (l ∷ []) x e t = grind (arith, nat_tests)
forces_true v falsified (l ∷ m ∷ rest) x e t = cc

-- hints do not go on from a true clause, where they do not from what it may force
no_effect : (v : ℕ → Bool) (falsified : List ℕ) (o : Option (List ℕ)) (next : ℕ → Bool) (ends : Bool) (e : Effect) → AllFalse v falsified → ((c : List ℕ) → o ≡ Some c → clause_value v c ≡ true) → ((l : ℕ) → literal_value v l ≡ true → next l ≡ true → ⊥) → effect_of falsified o ≡ e → goes_on next ends e ≡ true → ⊥
no_effect v falsified None next ends e a c n is t = let f : e ≡ Loose = sym is in cc
no_effect v falsified (Some k) next ends Loose a c n is t = cc
no_effect v falsified (Some k) next ends Conflicts a c n is t =
    conflicts_false v falsified (open_literals falsified k) is (clause_value-open v falsified k a (c k refl))
no_effect v falsified (Some k) next ends (Forces l) a c n is t =
    n l (forces_true v falsified (open_literals falsified k) l is (clause_value-open v falsified k a (c k refl))) t

-- hints that lead to a conflict leave no assignment that makes the named clauses true and these literals false
no_escape : (v : ℕ → Bool) (named : ℕ → Option (List ℕ)) (falsified hints : List ℕ) → NamesTrue v named → AllFalse v falsified → leads_to_conflict named falsified hints ≡ true → ⊥
no_escape v named falsified [] s a t = cc
no_escape v named falsified (hint ∷ hints) s a t =
    no_effect v falsified (named hint) _ _ _ a (s hint)
    (λ l is h. no_escape v named (falsified ++ opposite l ∷ []) hints s (AllFalse-append v falsified (opposite l) a (literal_value-opposite v l is)) h)
    refl t

-- a clause that is not true has false literals
AllFalse-from_clause : (v : ℕ → Bool) (clause : List ℕ) → clause_value v clause ≡ false → AllFalse v clause
AllFalse-from_clause v [] t = tt
AllFalse-from_clause v (l ∷ clause) t = (grind (arith, nat_tests), AllFalse-from_clause v clause (grind (arith, nat_tests)))

-- so a clause whose hints lead to a conflict is true where the named clauses are
pub clause_value-derived : (v : ℕ → Bool) (named : ℕ → Option (List ℕ)) (clause hints : List ℕ) → NamesTrue v named → leads_to_conflict named clause hints ≡ true → clause_value v clause ≡ true
clause_value-derived v named clause hints s t = by (clause_value v clause) refl
  where
    by : (b : Bool) → clause_value v clause ≡ b → b ≡ true
    by true e = refl
    by false e = absurd (no_escape v named clause hints s (AllFalse-from_clause v clause e) t)

-- a clause of a satisfied list is true
satisfied_at : (v : ℕ → Bool) (clauses : List (List ℕ)) → Satisfies v clauses → NamesTrue v (slice_get clauses)
satisfied_at v [] s k clause e = cc
satisfied_at v (c ∷ clauses) s zero clause e = let h : clause_value v c ≡ true = s.0 in cc
satisfied_at v (c ∷ clauses) s (suc k) clause e = satisfied_at v clauses s.1 k clause e

Satisfies-append : (v : ℕ → Bool) (clauses more : List (List ℕ)) → Satisfies v clauses → Satisfies v more → Satisfies v (clauses ++ more)
Satisfies-append v [] more s m = m
Satisfies-append v (c ∷ clauses) more s m = (s.0, Satisfies-append v clauses more s.1 m)

kept_is : (b : Bool) (o : Option (List ℕ)) (clause : List ℕ) → (if b then o else None) ≡ Some clause → o ≡ Some clause
kept_is true o clause e = e
kept_is false o clause e = cc

-- the clauses that numbers name after some entries, where they are kept, are true where the formula's and the entries' are
pub kept_true : (v : ℕ → Bool) (clauses : List (List ℕ)) (entries : List Entry) → Satisfies v clauses → Satisfies v (clauses_of entries) → NamesTrue v (clause_kept clauses entries)
kept_true v clauses entries s t k clause e =
    satisfied_at v (clauses ++ clauses_of entries) (Satisfies-append v clauses (clauses_of entries) s t) k clause (kept_is (is_kept_after entries k) (slice_get (clauses ++ clauses_of entries) k) clause e)

-- the clause that an entry learns is true
abbrev LearnsTrue : (ℕ → Bool) → Entry → Type 0
LearnsTrue v (Learn clause hints) = clause_value v clause ≡ true
LearnsTrue v (Drop number) = Unit {0}

both_true : (a b : Bool) → (a && b) ≡ true → b ≡ true
both_true true b e = e
both_true false b e = cc

-- what a derived entry learns is true where the clauses before it are
entry_true : (v : ℕ → Bool) (variables : ℕ) (clauses : List (List ℕ)) (earlier : List Entry) (entry : Entry) → Satisfies v clauses → Satisfies v (clauses_of earlier) → is_derived_after variables clauses earlier (Some entry) ≡ true → LearnsTrue v entry
entry_true v variables clauses earlier (Learn clause hints) s b t =
    clause_value-derived v (clause_kept clauses earlier) clause hints (kept_true v clauses earlier s b) (both_true (has_variables_below variables clause) _ t)
entry_true v variables clauses earlier (Drop number) s b t = tt

Satisfies-push : (v : ℕ → Bool) (before : List Entry) (entry : Entry) → Satisfies v (clauses_of before) → LearnsTrue v entry → Satisfies v (clauses_of (before ++ entry ∷ []))
Satisfies-push v [] (Learn clause hints) b t = (t, tt)
Satisfies-push v [] (Drop number) b t = tt
Satisfies-push v (Learn clause hints ∷ before) entry b t = (b.0, Satisfies-push v before entry b.1 t)
Satisfies-push v (Drop number ∷ before) entry b t = Satisfies-push v before entry b t

one_more : (v : ℕ → Bool) (variables : ℕ) (clauses : List (List ℕ)) (log : List Entry) (n : ℕ) (o : Option Entry) → Satisfies v clauses → Satisfies v (clauses_of (take n log)) → slice_get log n ≡ o → is_derived_after variables clauses (take n log) o ≡ true → Satisfies v (clauses_of (take (suc n) log))
one_more v variables clauses log n None s b e t = cc
one_more v variables clauses log n (Some entry) s b e t =
    let l = slice_get_within log n entry e in
    let g = get_or_from_slice_get log n entry entry e in
    rw (take-suc log n entry l, g) (Satisfies-push v (take n log) entry b (entry_true v variables clauses (take n log) entry s b t))

-- where the formula is satisfied, the clauses of the first entries of a derivation are true
pub entries_true : (v : ℕ → Bool) (variables : ℕ) (clauses : List (List ℕ)) (log : List Entry) (n : ℕ) → Satisfies v clauses → n ≤ length log → IsDerivation variables clauses log → Satisfies v (clauses_of (take n log))
entries_true v variables clauses log zero s l d = tt
entries_true v variables clauses log (suc n) s l d =
    let before = entries_true v variables clauses log n s (omega arith) d in
    one_more v variables clauses log n (slice_get log n) s before refl (d n (omega arith))

-- no entry that learns the empty clause learns a true one
none_empty : (v : ℕ → Bool) (last : Entry) → LearnsTrue v last → learns_empty last ≡ true → ⊥
none_empty v (Learn [] hints) t e = cc
none_empty v (Learn (l ∷ clause) hints) t e = grind (arith, nat_tests)
none_empty v (Drop number) t e = cc

last_empty : (v : ℕ → Bool) (variables : ℕ) (clauses : List (List ℕ)) (log : List Entry) (n : ℕ) (o : Option Entry) → Satisfies v clauses → IsDerivation variables clauses log → slice_get log n ≡ o → IsSomeAnd o (λ last. IsTrue (learns_empty last)) → ⊥
last_empty v variables clauses log n None s d e h = h
last_empty v variables clauses log n (Some last) s d e h =
    let l = slice_get_within log n last e in
    let b = entries_true v variables clauses log n s (omega arith) d in
    let t : is_derived_after variables clauses (take n log) (Some last) ≡ true = rw e at (d n l) in
    none_empty v last (entry_true v variables clauses (take n log) last s b t) h

-- a formula with a derivation that ends with the empty clause has no satisfying assignment
pub unsatisfiable_from_refutation : (variables : ℕ) (clauses : List (List ℕ)) (log : List Entry) → IsRefutation variables clauses log → IsUnsatisfiable clauses
unsatisfiable_from_refutation variables clauses log r v s = last_empty v variables clauses log (length log - 1) _ s r.derived refl r.ends_empty
