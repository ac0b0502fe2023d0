use Rattle.std.proofs.Common.{arith, ◌≡◌, ◌∙◌, ◌++◌, ◌∷◌, [], List, ℕ, map, ap}
use Rattle.clause_base.specs.Formula.{Cnf}
use Rattle.never_form.specs.own.Parts.{made, moved}
use Rattle.never_form.proofs.Turns.{one_turn, kept_more, made_more}
use Rattle.never_form.proofs.Below.{moved_at}
use Rattle.never_form.proofs.adds.add_clauses.Goals as goal

pub add-requires-clause-below : goal.add-requires-clause-below
add-requires-clause-below c =
    let lits : c.deref.result.now ≡ moved c.args.base c.at.result.now = c.deref.ensures.value ∙ c.in_ok-push_moved.ensures ∙ ap (λ (xs : List ℕ). xs ++ moved c.args.base c.at.result.now) c.clear.ensures.items in
    moved_at c.args.base c.args.formula.now.variables _ c.args.clauses.now c.loop-number.number c.at.result.now _ c.at.ensures c.requires.fit (ap (λ (f : Cnf). f.variables) c.loop-number.invariant.0) lits

pub loop-number-preserved : goal.loop-number-preserved
loop-number-preserved c =
    let lits : c.deref.result.now ≡ moved c.args.base c.at.result.now = c.deref.ensures.value ∙ c.in_ok-push_moved.ensures ∙ ap (λ (xs : List ℕ). xs ++ moved c.args.base c.at.result.now) c.clear.ensures.items in
    let is : c.add.new.formula.clauses ≡ c.loop-number.formula.clauses ++ made (moved c.args.base c.at.result.now ∷ []) =
    ap (λ (f : Cnf). f.clauses) c.in_ok-add.ensures.added ∙ ap (λ (xs : List ℕ). c.loop-number.formula.clauses ++ made (xs ∷ [])) lits in
    let few = c.loop-number.invariant.2 in (
      kept_more c.args.formula.now c.loop-number.formula c.add.new.formula _ c.loop-number.invariant.0 c.in_ok-add.ensures.added,
      c.loop-number.invariant.1
          ∙ one_turn (λ (cs : List (List ℕ)). made (map (moved c.args.base) cs)) (λ (x : List ℕ). made (moved c.args.base x ∷ [])) (λ x rest. made_more (moved c.args.base x) (map (moved c.args.base) rest))
          c.args.clauses.now c.loop-number.number c.at.result.now c.loop-number.formula.clauses c.add.new.formula.clauses c.at.ensures is,
      omega (arith, few, c.in_ok-add.ensures.few),
    )
