use Rattle.std.proofs.Common.{◌≡◌, ◌∙◌, ◌++◌, ◌∷◌, [], List, ℕ, refl, ap}
use Rattle.clause_base.specs.Formula.{Cnf}
use Rattle.never_form.proofs.Turns.{one_turn, kept_more, room_left}
use Rattle.never_form.proofs.adds.add_rest.Goals as goal

pub add_sorted-requires-clause-room : goal.add_sorted-requires-clause-room
add_sorted-requires-clause-room c =
    room_left _ _ c.loop-number.formula.clauses c.args.one.now.clauses c.loop-number.number c.loop-number.invariant.1 c.requires.room (rw (c.count-number-end.ensures.value) at c.loop-number-test.true)

pub loop-number-preserved : goal.loop-number-preserved
loop-number-preserved c =
    let lits : c.deref.result.now ≡ c.clause.result = c.deref.ensures.value ∙ c.in_ok-push_view.ensures ∙ ap (λ (xs : List ℕ). xs ++ c.clause.result) c.clear.ensures.items in
    let is : c.add_sorted.new.self.clauses ≡ c.loop-number.formula.clauses ++ c.clause.result ∷ [] =
    ap (λ (f : Cnf). f.clauses) c.in_ok-add_sorted.ensures.ok ∙ ap (λ (xs : List ℕ). c.loop-number.formula.clauses ++ xs ∷ []) lits in (
      kept_more c.args.formula.now c.loop-number.formula c.add_sorted.new.self _ c.loop-number.invariant.0 c.in_ok-add_sorted.ensures.ok,
      c.loop-number.invariant.1
          ∙ one_turn (λ (xs : List (List ℕ)). xs) (λ (x : List ℕ). x ∷ []) (λ x rest. refl) c.args.one.now.clauses c.loop-number.number c.clause.result c.loop-number.formula.clauses c.add_sorted.new.self.clauses c.clause.ensures.value is,
    )
