-- A formula's parts: what is added at the end, and clauses by their numbers.
use Rattle.std.proofs.Common.{arith, ◌≡◌, ℕ, ◌+◌, ◌-◌, ◌<◌, ◌≤◌, List, [], ◌∷◌, ◌++◌, length, length-append, append_assoc, refl, sym, ap, ◌∙◌, subst, get_or, take, Some, All, Result, Ok, Err, OnOk, OnErr}
use Rattle.std.specs.List.{slice_get}
use Rattle.std.proofs.lemmas.List.{take_more}
use Rattle.std.proofs.lemmas.Option.{slice_get_within, get_or_from_slice_get}
use Rattle.std.proofs.lemmas.List.Elements.{All-append, All-nil, All-cons}
use Rattle.clause_base.specs.Clause.{HasVariablesBelow}
use Rattle.clause_base.specs.Formula.{Cnf}
use Rattle.clause_base.specs.Repeats.{Repeats, repeated, variables_of}
use Rattle.clause_base.specs.own.Joined.{joined, IsJoined}
use Rattle.containers.specs.declared.memory.Memory.{Memory}
use Rattle.clause_base.proofs.PieceLemmas.{holds_at}
use Rattle.clause_base.proofs.published.RepeatLemmas.{get_right}

-- one more clause at the end
pub joined_more : (told : List (List ℕ)) (part : Repeats) (after : List (List ℕ)) (clause : List ℕ) → joined told part (after ++ clause ∷ []) ≡ joined told part after ++ clause ∷ []
joined_more told part after clause =
    ap (λ (x : List (List ℕ)). told ++ x) (sym (append_assoc (repeated part) after (clause ∷ [])))
    ∙ sym (append_assoc told (repeated part ++ after) (clause ∷ []))

more_joined : (variables : ℕ) (told : List (List ℕ)) (part : Repeats) (after : List (List ℕ)) (clause : List ℕ) → IsJoined variables told part after → length (joined told part after) < 1073741824 → HasVariablesBelow variables clause → IsJoined variables told part (after ++ clause ∷ [])
more_joined variables told part after clause is room h =
    let e = joined_more told part after clause in
    record {
      small = is.small;
      few = let l = length-append (joined told part after) (clause ∷ []) in let m = ap (λ (x : List (List ℕ)). length x) e in omega arith;
      below = subst (λ (x : List (List ℕ)). All (HasVariablesBelow variables) x) (sym e)
          (All-append (HasVariablesBelow variables) (joined told part after) (clause ∷ []) is.below (All-cons (HasVariablesBelow variables) clause [] h (All-nil (HasVariablesBelow variables))));
      fits = is.fits;
    }

-- what an addition leaves
pub joined_by : (r : Result (Unit {0}) Memory) (name variables : ℕ) (told : List (List ℕ)) (part : Repeats) (after new : List (List ℕ)) (clause : List ℕ) (now : Cnf) → record { name = name; variables = variables; clauses = joined told part after } ≡ now → IsJoined variables told part after → length now.clauses < 1073741824 → HasVariablesBelow now.variables clause → OnOk r (new ≡ after ++ clause ∷ []) → OnErr r (new ≡ after) → IsJoined variables told part new
joined_by (Ok u) name variables told part after new clause now v is room h ok err =
    let room_here = subst (λ (f : Cnf). length f.clauses < 1073741824) (sym v) room in
    let below_here = subst (λ (f : Cnf). HasVariablesBelow f.variables clause) (sym v) h in
    subst (λ (x : List (List ℕ)). IsJoined variables told part x) (sym ok) (more_joined variables told part after clause is room_here below_here)
joined_by (Err m) name variables told part after new clause now v is room h ok err = subst (λ (x : List (List ℕ)). IsJoined variables told part x) (sym err) is

-- with nothing added after a repeated part
joined_first : (variables : ℕ) (told : List (List ℕ)) (part : Repeats) → variables ≤ 2147483647 → All (HasVariablesBelow variables) told → variables_of part ≤ variables → All (HasVariablesBelow (variables_of part)) (repeated part) → length told + length (repeated part) ≤ 1073741824 → IsJoined variables told part []
joined_first variables told part small below fits part_below few = record {
  small = small;
  few = let l = length-append told (repeated part ++ []) in let m = length-append (repeated part) [] in omega arith;
  below = All-append (HasVariablesBelow variables) told (repeated part ++ []) below (All-append (HasVariablesBelow variables) (repeated part) [] (λ k d i p b j. let x = part_below k d i p b j in omega arith) (All-nil (HasVariablesBelow variables)));
  fits = fits;
}

-- where nothing came before, what was added is the whole
pub joined_only : (told : List (List ℕ)) (part : Repeats) (after : List (List ℕ)) → length told ≡ 0 → length (repeated part) ≡ 0 → joined told part after ≡ after
joined_only told part after t r = ap (λ (x : List (List ℕ)). x ++ (repeated part ++ after)) (none told t) ∙ ap (λ (x : List (List ℕ)). x ++ after) (none (repeated part) r)
  where
    none : (xs : List (List ℕ)) → length xs ≡ 0 → xs ≡ []
    none [] e = refl
    none (x ∷ xs) e = absurd (omega arith)

-- a repeated part after what was added
pub joined_part : (name variables : ℕ) (told : List (List ℕ)) (old : Repeats) (after : List (List ℕ)) (part : Repeats) (now : Cnf) (none : List (List ℕ)) (t r : ℕ) → record { name = name; variables = variables; clauses = joined told old after } ≡ now → IsJoined variables told old after → t ≡ length told → t ≡ 0 → r ≡ length (repeated old) → r ≡ 0 → none ≡ [] → variables_of part ≤ now.variables → length now.clauses + length (repeated part) ≤ 1073741824 → All (HasVariablesBelow (variables_of part)) (repeated part) → IsJoined variables after part none
joined_part name variables told old after part now none t r v is te t0 re r0 empty fits room below =
    let whole = joined_only told old after (sym te ∙ t0) (sym re ∙ r0) in
    let fits_here = subst (λ (f : Cnf). variables_of part ≤ f.variables) (sym v) fits in
    let room_here = subst (λ (x : List (List ℕ)). length x + length (repeated part) ≤ 1073741824) whole (subst (λ (f : Cnf). length f.clauses + length (repeated part) ≤ 1073741824) (sym v) room) in
    let below_here = subst (λ (x : List (List ℕ)). All (HasVariablesBelow variables) x) whole is.below in
    subst (λ (x : List (List ℕ)). IsJoined variables after part x) (sym empty) (joined_first variables after part is.small below_here fits_here below room_here)

-- a clause after the repeated ones
pub after_at : (told rep after : List (List ℕ)) (number t k : ℕ) (c : List ℕ) → t ≡ length told → k ≡ length rep → t ≤ number → k ≤ number - t → slice_get after (number - t - k) ≡ Some c → slice_get (told ++ (rep ++ after)) number ≡ Some c
after_at told rep after number t k c a b h l at =
    get_right told (rep ++ after) number (number - t) (omega arith) ∙ get_right rep after (number - t) (number - t - k) (omega arith) ∙ at

pub value_at : (name variables : ℕ) (clauses : List (List ℕ)) (now : Cnf) (number : ℕ) (c : List ℕ) → record { name = name; variables = variables; clauses = clauses } ≡ now → slice_get clauses number ≡ Some c → slice_get now.clauses number ≡ Some c
value_at name variables clauses now number c v e = subst (λ (f : Cnf). slice_get f.clauses number ≡ Some c) v e

pub below_at : (name variables : ℕ) (clauses : List (List ℕ)) (now : Cnf) (number : ℕ) (c : List ℕ) → record { name = name; variables = variables; clauses = clauses } ≡ now → All (HasVariablesBelow variables) clauses → slice_get clauses number ≡ Some c → HasVariablesBelow now.variables c
below_at name variables clauses now number c v a e = subst (λ (f : Cnf). HasVariablesBelow f.variables c) v (holds_at (HasVariablesBelow variables) clauses number c a e)

-- one more of the repeated clauses, written out
pub written_more : (old new first : Cnf) (all : List (List ℕ)) (number : ℕ) (c lits : List ℕ) → old ≡ record first { clauses = first.clauses ++ take number all } → slice_get all number ≡ Some c → lits ≡ c → new ≡ record old { clauses = old.clauses ++ lits ∷ [] } → new ≡ record first { clauses = first.clauses ++ take (number + 1) all }
written_more old new first all number c lits i at e n =
    n
    ∙ ap (λ (x : List ℕ). let f : Cnf = record old { clauses = old.clauses ++ x ∷ [] } in f) (e ∙ sym (get_or_from_slice_get all number c c at))
    ∙ ap (λ (o : Cnf). let f : Cnf = record o { clauses = o.clauses ++ get_or all number c ∷ [] } in f) i
    ∙ ap (λ (x : List (List ℕ)). let f : Cnf = record first { clauses = x } in f) (append_assoc first.clauses (take number all) (get_or all number c ∷ []) ∙ ap (λ (x : List (List ℕ)). first.clauses ++ x) (sym (take_more all number c (slice_get_within all number c at))))
