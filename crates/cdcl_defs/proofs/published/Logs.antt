-- What a log keeps when an entry is appended.
use Rattle.std.proofs.Common.{arith, ◌≡◌, ◌==◌, ℕ, zero, suc, ◌+◌, ◌*◌, ◌/◌, ◌<◌, ◌≤◌, nat_lt, List, [], ◌∷◌, ◌++◌, length, take, set, Bool, true, false, not, ◌||◌, ◌&&◌, refl, sym, ap, ◌∙◌, if◌then◌else◌, Option, Some, None, ◌⊎◌, inl, inr, append_assoc, length-append, length-set}
use Rattle.std.specs.Option.{is_some}
use Rattle.std.specs.List.{list_any, slice_get, AllByRecursion}
use Rattle.std.proofs.Math.Bool.{or-false}
use Rattle.std.proofs.Math.Nat.{eq-or-lt_of_le}
use Rattle.std.proofs.lemmas.List.{take-append-le}
use Rattle.std.proofs.lemmas.List.Folds.{list_any-append}
use Rattle.std.proofs.lemmas.List.Elements.{recursion_from_All}
use Rattle.std.proofs.lemmas.Bool.Decides.{nat_tests}
use Rattle.clause_base.specs.Clause.{HasVariablesBelow, has_variables_below}
use Rattle.clause_base.specs.Formula.{Cnf}
use Rattle.clause_base.specs.declared.log.Entry.{Entry}
use Rattle.clause_base.specs.declared.log.Entry.TheVariants.{Learn, Drop}
use Rattle.clause_base.specs.Derivation.{clauses_of, drops, is_kept_after, clause_kept, is_derived_after, IsDerivation, IsDerivedAt, leads_to_conflict}
use Rattle.cdcl_defs.specs.State.{clause_at, is_kept}
use Rattle.cdcl_defs.proofs.published.Tests.{and_join, set_flag}
use Rattle.cdcl_defs.proofs.published.Members.{clause_named}
use Rattle.cdcl_defs.proofs.published.WalkLaw.{Names}
use Rattle.cdcl_defs.specs.Sound.{IsLogged, kept_count}

get_push : (log : List Entry) (e : Entry) (k : ℕ) → k < length log → slice_get (log ++ e ∷ []) k ≡ slice_get log k
get_push [] e k h = absurd (omega arith)
get_push (d ∷ log) e zero h = refl
get_push (d ∷ log) e (suc k) h = get_push log e k (omega arith)

pub get_last : (log : List Entry) (e : Entry) → slice_get (log ++ e ∷ []) (length log) ≡ Some e
get_last [] e = refl
get_last (d ∷ log) e = get_last log e

take_push : (log : List Entry) (e : Entry) (k : ℕ) → k ≤ length log → take k (log ++ e ∷ []) ≡ take k log
take_push log e k h = rw take-append-le

take_all : (log : List Entry) → take (length log) log ≡ log
take_all [] = refl
take_all (d ∷ log) = ap (λ (t : List Entry). d ∷ t) (take_all log)

length_push : (log : List Entry) (e : Entry) → length (log ++ e ∷ []) ≡ length log + 1
length_push [] e = omega arith
length_push (d ∷ log) e = let h = length_push log e in omega arith

-- a derivation with one more entry that is derived
pub derivation_push : (variables : ℕ) (clauses : List (List ℕ)) (log : List Entry) (e : Entry) → IsDerivation variables clauses log → is_derived_after variables clauses log (Some e) ≡ true → IsDerivation variables clauses (log ++ e ∷ [])
derivation_push variables clauses log e d h k l = by (eq-or-lt_of_le (omega (arith, length_push log e)))
  where
    by : (k ≡ length log) ⊎ (k < length log) → IsDerivedAt variables clauses (log ++ e ∷ []) k
    by (inr m) =
        let t : take k (log ++ e ∷ []) ≡ take k log = take_push log e k (omega arith) in
        let g = get_push log e k m in
        rw (t, g) (d k m)
    by (inl s) =
        let t : take (length log) (log ++ e ∷ []) ≡ log = take_push log e (length log) (omega arith) ∙ take_all log in
        rw (s, t, get_last log e) h

pub learned_push : (log : List Entry) (c h : List ℕ) → clauses_of (log ++ Learn c h ∷ []) ≡ clauses_of log ++ c ∷ []
learned_push [] c h = refl
learned_push (Learn k g ∷ log) c h = ap (λ (t : List (List ℕ)). k ∷ t) (learned_push log c h)
learned_push (Drop n ∷ log) c h = learned_push log c h

pub dropped_push : (log : List Entry) (n : ℕ) → clauses_of (log ++ Drop n ∷ []) ≡ clauses_of log
dropped_push [] n = refl
dropped_push (Learn k g ∷ log) n = ap (λ (t : List (List ℕ)). k ∷ t) (dropped_push log n)
dropped_push (Drop m ∷ log) n = dropped_push log n

kept_learn : (log : List Entry) (c h : List ℕ) (n : ℕ) → is_kept_after (log ++ Learn c h ∷ []) n ≡ is_kept_after log n
kept_learn log c h n = ap not (list_any-append (drops n) log (Learn c h ∷ []) ∙ or-false (list_any (drops n) log))

not_or : (d t : Bool) → not (d || (t || false)) ≡ (not d && not t)
not_or true t = refl
not_or false true = refl
not_or false false = refl

kept_drop : (log : List Entry) (m n : ℕ) → is_kept_after (log ++ Drop m ∷ []) n ≡ (is_kept_after log n && not (m == n))
kept_drop log m n = ap not (list_any-append (drops n) log (Drop m ∷ [])) ∙ not_or (list_any (drops n) log) (m == n)

pub get_more : (clauses more : List (List ℕ)) (r : ℕ) (k : List ℕ) → slice_get clauses r ≡ Some k → slice_get (clauses ++ more) r ≡ Some k
get_more [] more r k e = cc
get_more (c ∷ clauses) more zero k e = e
get_more (c ∷ clauses) more (suc r) k e = get_more clauses more r k e

kept_by : (b : Bool) (o : Option (List ℕ)) (k : List ℕ) → (if b then o else None) ≡ Some k → (b ≡ true) × (o ≡ Some k)
kept_by true o k e = (refl, e)
kept_by false o k e = cc

-- the name that a log keeps is that of a clause which it does not drop
pub kept_parts : (clauses : List (List ℕ)) (log : List Entry) (r : ℕ) (k : List ℕ) → clause_kept clauses log r ≡ Some k → (is_kept_after log r ≡ true) × (slice_get (clauses ++ clauses_of log) r ≡ Some k)
kept_parts clauses log r k e = kept_by (is_kept_after log r) (slice_get (clauses ++ clauses_of log) r) k e

kept_named : (clauses : List (List ℕ)) (log : List Entry) (r : ℕ) (k : List ℕ) → is_kept_after log r ≡ true → slice_get (clauses ++ clauses_of log) r ≡ Some k → clause_kept clauses log r ≡ Some k
kept_named clauses log r k d e = ap (λ (b : Bool). if b then slice_get (clauses ++ clauses_of log) r else None) d ∙ e

-- a learned clause leaves the names
pub names_learn : (clauses : List (List ℕ)) (log : List Entry) (c h : List ℕ) (r : ℕ) (k : List ℕ) → clause_kept clauses log r ≡ Some k → clause_kept clauses (log ++ Learn c h ∷ []) r ≡ Some k
names_learn clauses log c h r k e =
    let p = kept_parts clauses log r k e in
    let more : clauses ++ clauses_of log ++ c ∷ [] ≡ clauses ++ clauses_of (log ++ Learn c h ∷ []) = append_assoc clauses (clauses_of log) (c ∷ []) ∙ ap (λ (t : List (List ℕ)). clauses ++ t) (sym (learned_push log c h)) in
    kept_named clauses (log ++ Learn c h ∷ []) r k (kept_learn log c h r ∙ p.0) (ap (λ (cs : List (List ℕ)). slice_get cs r) (sym more) ∙ get_more (clauses ++ clauses_of log) (c ∷ []) r k p.1)

-- a dropped clause leaves the names of the others
pub names_drop : (clauses : List (List ℕ)) (log : List Entry) (m r : ℕ) (k : List ℕ) → (m == r) ≡ false → clause_kept clauses log r ≡ Some k → clause_kept clauses (log ++ Drop m ∷ []) r ≡ Some k
names_drop clauses log m r k f e =
    let p = kept_parts clauses log r k e in
    kept_named clauses (log ++ Drop m ∷ []) r k (kept_drop log m r ∙ rw (p.0, f) refl) (ap (λ (cs : List (List ℕ)). slice_get (clauses ++ cs) r) (dropped_push log m) ∙ p.1)

-- what is kept is named
pub logged_named : (f : Cnf) (clauses : List (List ℕ)) (kept : List Bool) (log : List Entry) (n : ℕ) → IsLogged f clauses kept log → n < length clauses → is_kept kept n ≡ true → clause_kept f.clauses log n ≡ Some (clause_at clauses n)
logged_named f clauses kept log n o h k =
    kept_named f.clauses log n (clause_at clauses n) (sym (o.kept_are n h) ∙ k) (ap (λ (cs : List (List ℕ)). slice_get cs n) (sym o.clauses_are) ∙ clause_named clauses n h)

-- and what is named stands at its number
pub logged_names : (f : Cnf) (clauses : List (List ℕ)) (kept : List Bool) (log : List Entry) → IsLogged f clauses kept log → Names (clause_kept f.clauses log) clauses
logged_names f clauses kept log o n k e = ap (λ (cs : List (List ℕ)). slice_get cs n) o.clauses_are ∙ (kept_parts f.clauses log n k e).1

test_by : (n l : ℕ) → l / 2 < n → nat_lt (l / 2) n ≡ true
test_by n l h = grind (arith, nat_tests)

tests_by : (n : ℕ) (c : List ℕ) → AllByRecursion (λ l. l / 2 < n) c → has_variables_below n c ≡ true
tests_by n [] a = refl
tests_by n (l ∷ c) a = and_join (nat_lt (l / 2) n) (has_variables_below n c) (test_by n l a.0) (tests_by n c a.1)

below_test : (n : ℕ) (c : List ℕ) → HasVariablesBelow n c → has_variables_below n c ≡ true
below_test n c h = tests_by n c (recursion_from_All (λ l. l / 2 < n) c h)

push_flags : (kept : List Bool) → length (kept ++ true ∷ []) ≡ length kept + 1
push_flags kept = length-append kept (true ∷ [])

flag_old : (kept : List Bool) (n : ℕ) → n < length kept → is_kept (kept ++ true ∷ []) n ≡ is_kept kept n
flag_old [] n h = absurd (omega arith)
flag_old (b ∷ kept) zero h = refl
flag_old (b ∷ kept) (suc n) h = flag_old kept n (omega arith)

flag_new : (kept : List Bool) → is_kept (kept ++ true ∷ []) (length kept) ≡ true
flag_new [] = refl
flag_new (b ∷ kept) = flag_new kept

count_push : (kept : List Bool) → kept_count (kept ++ true ∷ []) ≡ kept_count kept + 1
count_push [] = refl
count_push (true ∷ kept) = let h = count_push kept in omega arith
count_push (false ∷ kept) = count_push kept

-- a clause is learned
pub logged_learn : (f : Cnf) (clauses : List (List ℕ)) (kept : List Bool) (log : List Entry) (c h : List ℕ) → IsLogged f clauses kept log → HasVariablesBelow f.variables c → leads_to_conflict (clause_kept f.clauses log) c h ≡ true → IsLogged f (clauses ++ c ∷ []) (kept ++ true ∷ []) (log ++ Learn c h ∷ [])
logged_learn f clauses kept log c h o v l = record {
  clauses_are = ap (λ (cs : List (List ℕ)). cs ++ c ∷ []) o.clauses_are ∙ append_assoc f.clauses (clauses_of log) (c ∷ []) ∙ ap (λ (cs : List (List ℕ)). f.clauses ++ cs) (sym (learned_push log c h));
  flags = omega (arith, push_flags kept, length-append clauses (c ∷ []), o.flags);
  kept_are = λ n m. by n (eq-or-lt_of_le (omega (arith, length-append clauses (c ∷ []))));
  not_ahead = λ n m. kept_learn log c h n ∙ o.not_ahead n (omega (arith, length-append clauses (c ∷ [])));
  formula_kept = λ n m. flag_old kept n (omega (arith, long)) ∙ o.formula_kept n m;
  derived = derivation_push f.variables f.clauses log (Learn c h) o.derived (and_join (has_variables_below f.variables c) (leads_to_conflict (clause_kept f.clauses log) c h) (below_test f.variables c v) l);
  balanced = omega (arith, o.balanced, length_push log (Learn c h), count_push kept, ap (λ (cs : List (List ℕ)). length cs) (learned_push log c h), length-append (clauses_of log) (c ∷ []));
}
  where
    long : length f.clauses ≤ length kept
    long = omega (arith, o.flags, ap (λ (cs : List (List ℕ)). length cs) o.clauses_are, length-append f.clauses (clauses_of log))

    by : (n : ℕ) → (n ≡ length clauses) ⊎ (n < length clauses) → is_kept (kept ++ true ∷ []) n ≡ is_kept_after (log ++ Learn c h ∷ []) n
    by n (inl s) =
        let e : is_kept (kept ++ true ∷ []) n ≡ true = ap (is_kept (kept ++ true ∷ [])) (s ∙ sym o.flags) ∙ flag_new kept in
        e ∙ sym (kept_learn log c h n ∙ o.not_ahead n (omega arith))
    by n (inr m) = flag_old kept n (omega (arith, o.flags)) ∙ o.kept_are n m ∙ sym (kept_learn log c h n)

count_set : (kept : List Bool) (m : ℕ) → is_kept kept m ≡ true → kept_count (set kept m false) + 1 ≡ kept_count kept
count_set [] m e = cc
count_set (true ∷ kept) zero e = omega arith
count_set (false ∷ kept) zero e = cc
count_set (true ∷ kept) (suc m) e = let h = count_set kept m e in omega arith
count_set (false ∷ kept) (suc m) e = count_set kept m e

-- a learned clause that is kept is dropped
pub logged_drop : (f : Cnf) (clauses : List (List ℕ)) (kept : List Bool) (log : List Entry) (m : ℕ) → IsLogged f clauses kept log → length f.clauses ≤ m → m < length clauses → is_kept kept m ≡ true → IsLogged f clauses (set kept m false) (log ++ Drop m ∷ [])
logged_drop f clauses kept log m o low high k = record {
  clauses_are = o.clauses_are ∙ ap (λ (cs : List (List ℕ)). f.clauses ++ cs) (sym (dropped_push log m));
  flags = length-set kept m false ∙ o.flags;
  kept_are = λ n l. set_flag kept m n ∙ ap (λ (b : Bool). b && not (m == n)) (o.kept_are n l) ∙ sym (kept_drop log m n);
  not_ahead = λ n l. let e : (m == n) ≡ false = grind (arith, nat_tests) in kept_drop log m n ∙ rw (e, o.not_ahead n l) refl;
  formula_kept = λ n l. let e : (m == n) ≡ false = grind (arith, nat_tests) in set_flag kept m n ∙ rw (e, o.formula_kept n l) refl;
  derived = derivation_push f.variables f.clauses log (Drop m) o.derived (ap is_some (logged_named f clauses kept log m o high k));
  balanced = omega (arith, o.balanced, length_push log (Drop m), count_set kept m k, ap (λ (cs : List (List ℕ)). length cs) (dropped_push log m));
}

count_kept : (n : ℕ) (kept : List Bool) → ((i : ℕ) → i < n → is_kept kept i ≡ true) → n ≤ kept_count kept
count_kept zero kept h = omega arith
count_kept (suc n) [] h = let e : false ≡ true = h 0 (omega arith) in cc
count_kept (suc n) (true ∷ kept) h = let l = count_kept n kept (λ i m. h (suc i) (omega arith)) in omega arith
count_kept (suc n) (false ∷ kept) h = let e : false ≡ true = h 0 (omega arith) in cc

-- a log has at most two entries for each clause that it learns
pub logged_short : (f : Cnf) (clauses : List (List ℕ)) (kept : List Bool) (log : List Entry) → IsLogged f clauses kept log → length log ≤ 2 * length (clauses_of log)
logged_short f clauses kept log o = omega (arith, o.balanced, count_kept (length f.clauses) kept o.formula_kept)
