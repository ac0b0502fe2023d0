use Rattle.std.proofs.Common.{◌≡◌, ◌∙◌, ◌++◌, append-nil, ◌∷◌, [], sym, ap, subst, fold, false, true, Bool, List, ℕ, Option, Some, None, Result, Ok, Err, OnOk, if◌then◌else◌}
use Rattle.std.specs.Option.{option_to_list}
use Rattle.containers.specs.declared.memory.Memory.{Memory}
use Rattle.clause_base.specs.Clause.{IsClause, IsRising, clause_of, has_opposite_pair}
use Rattle.containers.specs.Rising.{put}
use Rattle.clause_base.proofs.published.ClauseLemmas.{clause-fold, rising-fold, pair-fold}
use Rattle.clause_base.proofs.clause_list.ClauseList.add_of.Goals as goal

-- the sorted literals are the clause of the given ones, where they have no opposite pair
clause_by : (lits sorted : List ℕ) (b : Bool) → sorted ≡ fold put [] lits → has_opposite_pair sorted ≡ b → clause_of lits ≡ (if b then None else Some sorted)
clause_by lits sorted b e h =
    let pair : has_opposite_pair lits ≡ b = sym (pair-fold lits) ∙ ap has_opposite_pair (sym e) ∙ h in
    ap (λ (c : Bool). if c then None else Some (fold put [] lits)) pair ∙ ap (λ (xs : List ℕ). if b then None else Some xs) (sym e)

ok_by : (r : Result (Unit {0}) Memory) (new old now : List (List ℕ)) (clause : List ℕ) (o : Option (List ℕ)) → old ≡ now → o ≡ Some clause → OnOk r (new ≡ old ++ clause ∷ []) → OnOk r (new ≡ now ++ option_to_list o)
ok_by (Ok u) new old now clause o e f h = h ∙ ap (λ (xss : List (List ℕ)). xss ++ clause ∷ []) e ∙ ap (λ (p : Option (List ℕ)). now ++ option_to_list p) (sym f)
ok_by (Err m) new old now clause o e f h = tt

pub has_opposite_neighbours-requires : goal.has_opposite_neighbours-requires
has_opposite_neighbours-requires c = subst IsRising (sym (c.deref.ensures.value ∙ c.in_ok-sort_into.ensures)) (rising-fold [] c.args.lits.now tt)

pub returns-then-has_opposite_neighbours-clause-ok : goal.returns-then-has_opposite_neighbours-clause-ok
returns-then-has_opposite_neighbours-clause-ok c =
    let pair = ap has_opposite_pair (sym c.deref.ensures.value) ∙ sym c.has_opposite_neighbours.ensures ∙ c.if-has_opposite_neighbours.true in
    let none = clause_by c.args.lits.now c.sort_into.new.sorted.items true c.in_ok-sort_into.ensures pair in
    rw none (c.self.view_is ∙ sym (append-nil c.args.self.now))

pub push_clause-requires-clause-clause : goal.push_clause-requires-clause-clause
push_clause-requires-clause-clause c =
    let pair = ap has_opposite_pair (sym c.deref.ensures.value) ∙ sym c.has_opposite_neighbours.ensures ∙ c.if-has_opposite_neighbours.false in
    let none : has_opposite_pair c.args.lits.now ≡ false = sym (pair-fold c.args.lits.now) ∙ ap has_opposite_pair (sym c.in_ok-sort_into.ensures) ∙ pair in
    subst IsClause (sym (c.deref-2.ensures.value ∙ c.in_ok-sort_into.ensures)) (clause-fold c.args.lits.now none)

pub returns-clause-ok : goal.returns-clause-ok
returns-clause-ok c =
    let pair = ap has_opposite_pair (sym c.deref.ensures.value) ∙ sym c.has_opposite_neighbours.ensures ∙ c.if-has_opposite_neighbours.false in
    let some = clause_by c.args.lits.now c.sort_into.new.sorted.items false c.in_ok-sort_into.ensures pair in
    ok_by c.push_clause.result _ _ c.args.self.now c.deref-2.result.now _ c.self.view_is (some ∙ ap (λ (xs : List ℕ). Some xs) (sym c.deref-2.ensures.value)) c.push_clause.ensures.ok
