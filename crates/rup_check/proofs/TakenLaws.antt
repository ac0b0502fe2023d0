-- A checker that has taken some entries takes one more.
use Rattle.std.proofs.Common.{arith, ◌≡◌, ◌==◌, ℕ, zero, suc, ◌+◌, ◌-◌, ◌<◌, List, [], ◌∷◌, ◌++◌, length, take, drop, if◌then◌else◌, None, Bool, true, false, ◌||◌, ◌&&◌, Option, Some, IsTrue, Result, Ok, replicate, get_or, refl, sym, ap, ◌∙◌, subst, length-append}
use Rattle.std.specs.List.{slice_get}
use Rattle.std.specs.Option.{IsSomeAnd}
use Rattle.std.proofs.Math.Bool.{or-false}
use Rattle.std.proofs.lemmas.Bool.Decides.{nat_tests}
use Rattle.clause_base.specs.Formula.{Cnf, IsUnsatisfiable, IsWithinVariables}
use Rattle.clause_base.specs.Derivation.{IsDerivation, IsDerivedAt, EndsEmpty, is_derived_after, learns_empty, clauses_of}
use Rattle.clause_base.specs.declared.log.Entry.{Entry}
use Rattle.clause_base.specs.declared.log.Entry.TheVariants.{Learn, Drop}
use Rattle.containers.specs.declared.memory.Memory.{Memory}
use Rattle.clause_base.proofs.published.Refutation.{unsatisfiable_from_refutation}
use Rattle.proof_log.proofs.published.Turns.{turn}
use Rattle.rup_check.specs.own.Falsified.{FalsifiedView}
use Rattle.rup_check.specs.own.Kept.{kept_named, is_derived_by, IsKnownAfter}
use Rattle.rup_check.specs.Taken.{CheckerView, HasTaken, IsSound, NamesBelow}
use Rattle.rup_check.proofs.KeptLemmas.{named_next, is_derived_by-known, known-more, known-none, any-append, below-next, below-none, learn_named, take_more}

get_end : (log : List Entry) (entry : Entry) → slice_get (log ++ entry ∷ []) (length log) ≡ Some entry
get_end [] entry = refl
get_end (x ∷ log) entry = get_end log entry

take_end : (log : List Entry) (entry : Entry) → take (length log) (log ++ entry ∷ []) ≡ log
take_end [] entry = refl
take_end (x ∷ log) entry = ap (λ (es : List Entry). x ∷ es) (take_end log entry)

get_before : (log : List Entry) (entry : Entry) (k : ℕ) → k < length log → slice_get (log ++ entry ∷ []) k ≡ slice_get log k
get_before [] entry k h = let none : ⊥ = omega (arith, h) in absurd none
get_before (x ∷ log) entry zero h = refl
get_before (x ∷ log) entry (suc k) h = get_before log entry k (omega arith)

take_before : (log : List Entry) (entry : Entry) (k : ℕ) → k < length log → take k (log ++ entry ∷ []) ≡ take k log
take_before [] entry k h = let none : ⊥ = omega (arith, h) in absurd none
take_before (x ∷ log) entry zero h = refl
take_before (x ∷ log) entry (suc k) h = ap (λ (es : List Entry). x ∷ es) (take_before log entry k (omega arith))

-- a derivation with one more derived entry is one
derivation_more : (variables : ℕ) (clauses : List (List ℕ)) (log : List Entry) (entry : Entry) → IsDerivation variables clauses log → is_derived_after variables clauses log (Some entry) ≡ true → IsDerivation variables clauses (log ++ entry ∷ [])
derivation_more variables clauses log entry d t k h = by (k == length log) refl
  where
    here : IsDerivedAt variables clauses (log ++ entry ∷ []) (length log)
    here =
        ap (λ (es : List Entry). is_derived_after variables clauses es (slice_get (log ++ entry ∷ []) (length log))) (take_end log entry)
        ∙ ap (λ (o : Option Entry). is_derived_after variables clauses log o) (get_end log entry)
        ∙ t

    before : k < length log → IsDerivedAt variables clauses (log ++ entry ∷ []) k
    before l =
        ap (λ (es : List Entry). is_derived_after variables clauses es (slice_get (log ++ entry ∷ []) k)) (take_before log entry k l)
        ∙ ap (λ (o : Option Entry). is_derived_after variables clauses (take k log) o) (get_before log entry k l)
        ∙ d k l

    by : (b : Bool) → (k == length log) ≡ b → IsDerivedAt variables clauses (log ++ entry ∷ []) k
    by true e = let same : length log ≡ k = grind (arith, nat_tests) in subst (λ (m : ℕ). IsDerivedAt variables clauses (log ++ entry ∷ []) m) same here
    by false e =
        let long : length (log ++ entry ∷ []) ≡ length log + 1 = length-append log (entry ∷ []) in
        let apart : (k ≡ length log) → ⊥ = grind (arith, nat_tests) in
        before (omega (arith, h, long, apart))

ends_more : (log : List Entry) (entry : Entry) → learns_empty entry ≡ true → EndsEmpty (log ++ entry ∷ [])
ends_more log entry t =
    let long : length (log ++ entry ∷ []) ≡ length log + 1 = length-append log (entry ∷ []) in
    let last : length (log ++ entry ∷ []) - 1 ≡ length log = omega (arith, long) in
    subst (λ (o : Option Entry). IsSomeAnd o (λ last. IsTrue (learns_empty last))) (sym (ap (slice_get (log ++ entry ∷ [])) last ∙ get_end log entry)) t

-- what is decided is what derivations ask
pub answer_is : (checker : CheckerView) (log : List Entry) (entry : Entry) (b : Bool) → HasTaken checker log → b ≡ is_derived_by checker.formula.variables checker.formula.clauses checker.dropped checker.learned entry → b ≡ is_derived_after checker.formula.variables checker.formula.clauses log (Some entry)
answer_is checker log entry b h t = t ∙ is_derived_by-known checker.formula.variables checker.formula.clauses log checker.dropped checker.learned entry h.known

-- what each number names once an entry was taken
abbrev pub NamesNext : CheckerView → CheckerView → Entry → Type 0
NamesNext checker next entry = (number : ℕ) → kept_named checker.formula.clauses next.dropped next.learned number
    ≡ named_next (length checker.formula.clauses + length checker.learned) entry (kept_named checker.formula.clauses checker.dropped checker.learned) number

-- a checker becomes another by an entry that is derived
pub record IsNext (checker next : CheckerView) (entry : Entry) : Type 0 where
  pub formula : next.formula ≡ checker.formula
  pub derived : is_derived_by checker.formula.variables checker.formula.clauses checker.dropped checker.learned entry ≡ true
  pub named : NamesNext checker next entry
  pub count : length next.learned ≡ length checker.learned + length (clauses_of (entry ∷ []))
  pub long : length next.dropped ≡ length checker.dropped
  pub refuted : next.refuted ≡ (checker.refuted || learns_empty entry)

derived_next : (checker next : CheckerView) (entry : Entry) (log : List Entry) → IsNext checker next entry → HasTaken checker log → IsDerivation checker.formula.variables checker.formula.clauses (log ++ entry ∷ [])
derived_next checker next entry log n h =
    derivation_more checker.formula.variables checker.formula.clauses log entry h.derived
    (sym (answer_is checker log entry true h (sym n.derived)))

pub taken_next : (checker next : CheckerView) (entry : Entry) (log : List Entry) → IsNext checker next entry → HasTaken checker log → HasTaken next (log ++ entry ∷ [])
taken_next checker next entry log n h = record {
  derived = subst (λ (f : Cnf). IsDerivation f.variables f.clauses (log ++ entry ∷ [])) (sym n.formula) (derived_next checker next entry log n h);
  known = subst (λ (f : Cnf). IsKnownAfter f.clauses (log ++ entry ∷ []) next.dropped next.learned) (sym n.formula) (known-more checker.formula.variables checker.formula.clauses log entry checker.dropped next.dropped checker.learned next.learned h.known n.derived n.named n.count);
  refuted = n.refuted ∙ ap (λ (b : Bool). b || learns_empty entry) h.refuted ∙ sym (any-append learns_empty log entry);
}

unsatisfiable_next : (checker next : CheckerView) (entry : Entry) → IsNext checker next entry → IsSound checker → IsTrue (checker.refuted || learns_empty entry) → IsUnsatisfiable checker.formula.clauses
unsatisfiable_next checker next entry n s t = by checker.refuted refl (learns_empty entry) refl t
  where
    by : (b : Bool) → checker.refuted ≡ b → (d : Bool) → learns_empty entry ≡ d → IsTrue (b || d) → IsUnsatisfiable checker.formula.clauses
    by true e d f u = s.unsatisfiable e
    by false e true f u = unsatisfiable_from_refutation checker.formula.variables checker.formula.clauses (s.log ++ entry ∷ []) (record { derived = derived_next checker next entry s.log n s.taken; ends_empty = ends_more s.log entry f })
    by false e false f u = cc

pub sound_next : (checker next : CheckerView) (entry : Entry) → IsNext checker next entry → IsSound checker → IsSound next
sound_next checker next entry n s = record {
  log = s.log ++ entry ∷ [];
  taken = taken_next checker next entry s.log n s.taken;
  unsatisfiable = λ t. subst (λ (f : Cnf). IsUnsatisfiable f.clauses) (sym n.formula) (unsatisfiable_next checker next entry n s (sym n.refuted ∙ t));
  long = n.long ∙ s.long ∙ ap (λ (f : Cnf). length f.clauses) (sym n.formula);
  below = subst (λ (f : Cnf). NamesBelow f.variables f.clauses next.dropped next.learned) (sym n.formula) (below-next checker.formula.variables checker.formula.clauses entry checker.dropped next.dropped checker.learned next.learned n.derived n.named s.below);
}

-- what taking an entry or not makes of a checker
pub record IsAfter (checker next : CheckerView) (entry : Entry) (result : Result Bool Memory) (taken : Bool) : Type 0 where
  pub formula : next.formula ≡ checker.formula
  pub derived : taken ≡ is_derived_by checker.formula.variables checker.formula.clauses checker.dropped checker.learned entry
  pub named : result ≡ Ok true → NamesNext checker next entry
  pub count : result ≡ Ok true → length next.learned ≡ length checker.learned + length (clauses_of (entry ∷ []))
  pub long : result ≡ Ok true → length next.dropped ≡ length checker.dropped
  pub same_dropped : (result ≡ Ok true → ⊥) → next.dropped ≡ checker.dropped
  pub same_learned : (result ≡ Ok true → ⊥) → next.learned ≡ checker.learned
  pub refuted : next.refuted ≡ (checker.refuted || (taken && learns_empty entry))

false_ok : ◌≡◌ {A = Result Bool Memory} (Ok false) (Ok true) → ⊥
false_ok e = cc

pub true_ok : (b : Bool) → b ≡ true → ◌≡◌ {A = Result Bool Memory} (Ok b) (Ok true)
true_ok b e = ap (λ (x : Bool). Ok x) e

pub ok_true : (b : Bool) → ◌≡◌ {A = Result Bool Memory} (Ok b) (Ok true) → b ≡ true
ok_true true e = refl
ok_true false e = absurd (false_ok e)

keeps : (refuted taken : Bool) → refuted ≡ (refuted || (taken && false))
keeps true true = refl
keeps true false = refl
keeps false true = refl
keeps false false = refl

-- taking an entry that drops a clause, or not
pub forget_after : (checker next : CheckerView) (number : ℕ) (taken : Bool) → next.formula ≡ checker.formula → taken ≡ is_derived_by checker.formula.variables checker.formula.clauses checker.dropped checker.learned (Drop number)
    → (taken ≡ true → (other : ℕ) → kept_named checker.formula.clauses next.dropped next.learned other ≡ (if number == other then None else kept_named checker.formula.clauses checker.dropped checker.learned other))
    → length next.dropped ≡ length checker.dropped → length next.learned ≡ length checker.learned
    → ((taken ≡ true → ⊥) → next.dropped ≡ checker.dropped) → ((taken ≡ true → ⊥) → next.learned ≡ checker.learned) → next.refuted ≡ checker.refuted → IsAfter checker next (Drop number) (Ok taken) taken
forget_after checker next number taken f t d n c s l r = record {
  formula = f;
  derived = t;
  named = λ e. d (ok_true taken e);
  count = λ e. omega (arith, c);
  long = λ e. n;
  same_dropped = λ e. s (λ h. e (true_ok taken h));
  same_learned = λ e. l (λ h. e (true_ok taken h));
  refuted = r ∙ keeps checker.refuted taken;
}

next_true : (checker next : CheckerView) (entry : Entry) → IsAfter checker next entry (Ok true) true → IsNext checker next entry
next_true checker next entry a = record {
  formula = a.formula;
  derived = sym a.derived;
  named = a.named refl;
  count = a.count refl;
  long = a.long refl;
  refuted = a.refuted;
}

-- taking an entry that learns a clause, or not
pub learn_after : (checker next : CheckerView) (clause hints : List ℕ) (taken : Bool) → next.formula ≡ checker.formula → taken ≡ is_derived_by checker.formula.variables checker.formula.clauses checker.dropped checker.learned (Learn clause hints)
    → next.dropped ≡ checker.dropped → (taken ≡ true → next.learned ≡ checker.learned ++ Some clause ∷ []) → ((taken ≡ true → ⊥) → next.learned ≡ checker.learned)
    → next.refuted ≡ (checker.refuted || (taken && (length clause == 0))) → IsAfter checker next (Learn clause hints) (Ok taken) taken
learn_after checker next clause hints taken f t d m l r = record {
  formula = f;
  derived = t;
  named = λ e. learn_named checker.formula.clauses checker.dropped next.dropped checker.learned next.learned clause d (m (ok_true taken e));
  count = λ e. ap length (m (ok_true taken e)) ∙ length-append checker.learned (Some clause ∷ []);
  long = λ e. ap length d;
  same_dropped = λ e. d;
  same_learned = λ e. l (λ h. e (true_ok taken h));
  refuted = r;
}

same_false : (checker next : CheckerView) (entry : Entry) → IsAfter checker next entry (Ok false) false → next ≡ checker
same_false checker next entry a =
    let dropped = a.same_dropped false_ok in
    let learned = a.same_learned false_ok in
    let refuted : next.refuted ≡ checker.refuted = a.refuted ∙ or-false checker.refuted in
    λ i. record { formula = a.formula i; dropped = dropped i; learned = learned i; refuted = refuted i }

pub sound_after : (checker next : CheckerView) (entry : Entry) (taken : Bool) → IsAfter checker next entry (Ok taken) taken → IsSound checker → IsSound next
sound_after checker next entry true a s = sound_next checker next entry (next_true checker next entry a) s
sound_after checker next entry false a s = subst (λ (v : CheckerView). IsSound v) (sym (same_false checker next entry a)) s

pub taken_after : (checker value next : CheckerView) (entry : Entry) (taken : Bool) → checker ≡ value → IsAfter checker next entry (Ok taken) taken → (log : List Entry) → HasTaken value log → ◌≡◌ {A = Result Bool Memory} (Ok taken) (Ok true) → HasTaken next (log ++ entry ∷ [])
taken_after checker value next entry true v a log h e = taken_next checker next entry log (next_true checker next entry a) (subst (λ (w : CheckerView). HasTaken w log) (sym v) h)
taken_after checker value next entry false v a log h e = absurd (false_ok e)

-- a checker before the first entry
long_none : (n : ℕ) → length (replicate n false) ≡ n
long_none zero = refl
long_none (suc n) = ap (λ (m : ℕ). suc m) (long_none n)

no_entry : (variables : ℕ) (clauses : List (List ℕ)) → IsDerivation variables clauses []
no_entry variables clauses k h = let none : ⊥ = omega (arith, h) in absurd none

pub taken_none : (formula : Cnf) (dropped : List Bool) (learned : List (Option (List ℕ))) (n : ℕ) → dropped ≡ replicate n false → learned ≡ [] → HasTaken (record { formula = formula; dropped = dropped; learned = learned; refuted = false }) []
taken_none formula dropped learned n e f = record {
  derived = no_entry formula.variables formula.clauses;
  known = known-none formula.clauses n dropped learned e f;
  refuted = refl;
}

not_true : false ≡ true → ⊥
not_true e = cc

pub sound_none : (formula : Cnf) (dropped : List Bool) (learned : List (Option (List ℕ))) (n : ℕ) → n ≡ length formula.clauses → IsWithinVariables formula → dropped ≡ replicate n false → learned ≡ [] → IsSound (record { formula = formula; dropped = dropped; learned = learned; refuted = false })
sound_none formula dropped learned n c w e f = record {
  log = [];
  taken = taken_none formula dropped learned n e f;
  unsatisfiable = λ t. absurd (not_true t);
  long = ap length e ∙ long_none n ∙ c;
  below = below-none formula.variables formula.clauses n dropped learned e f w;
}

abbrev pub none_marked : ℕ → FalsifiedView
none_marked n = record { variables = n; falsified = [] }

-- the next entry of a log, at its place
pub entry_at : (formula other : Cnf) (log now rest : List Entry) (n : ℕ) (entry : Entry) (b : Bool) → other ≡ formula → n < length log → now ≡ drop n log → now ≡ entry ∷ rest → b ≡ is_derived_after other.variables other.clauses (take n log) (Some entry) → is_derived_after formula.variables formula.clauses (take n log) (slice_get log n) ≡ b
entry_at formula other log now rest n entry b f within left e t =
    ap (λ (o : Option Entry). is_derived_after formula.variables formula.clauses (take n log) o) (turn log now rest n entry within left e).at
    ∙ sym (ap (λ (c : Cnf). is_derived_after c.variables c.clauses (take n log) (Some entry)) f)
    ∙ sym t

pub taken_more : (checker : CheckerView) (log : List Entry) (n : ℕ) (entry : Entry) → n < length log → entry ≡ get_or log n entry → HasTaken checker (take n log ++ entry ∷ []) → HasTaken checker (take (n + 1) log)
taken_more checker log n entry h e t = subst (λ (es : List Entry). HasTaken checker es) (sym (take_more log n entry h e)) t
