use Rattle.std.proofs.Common.{arith, ◌≡◌, ◌∙◌, ◌+◌, ◌++◌, List, ℕ, length, map, ap}
use Rattle.std.proofs.lemmas.List.{length-map}
use Rattle.gt_core.specs.Literal.{opposite}
use Rattle.clause_base.specs.Formula.{Cnf}
use Rattle.never_form.specs.own.Parts.{made, cube}
use Rattle.never_form.proofs.Turns.{cubes_turn, kept_more, literals_from}
use Rattle.never_form.proofs.cubes.add_cubes.Goals as goal

pub add_cube-requires-clause-room : goal.add_cube-requires-clause-room
add_cube-requires-clause-room c =
    let lits : c.deref.result.now ≡ map opposite c.at.result.now = c.deref.ensures.value ∙ c.in_ok-push_opposites.ensures ∙ ap (λ (xs : List ℕ). xs ++ map opposite c.at.result.now) c.clear.ensures.items in
    let long : length c.deref.result.now ≡ length c.at.result.now = ap length lits ∙ length-map c.at.result.now opposite in
    let more = literals_from c.args.clauses.now c.loop-number.number c.at.result.now c.at.ensures in
    let few = c.loop-number.invariant.2 in
    let room = c.requires.room in
    omega (arith, long, more, few, room)

pub loop-number-preserved : goal.loop-number-preserved
loop-number-preserved c =
    let lits : c.deref.result.now ≡ map opposite c.at.result.now = c.deref.ensures.value ∙ c.in_ok-push_opposites.ensures ∙ ap (λ (xs : List ℕ). xs ++ map opposite c.at.result.now) c.clear.ensures.items in
    let long : length c.deref.result.now ≡ length c.at.result.now = ap length lits ∙ length-map c.at.result.now opposite in
    let more = literals_from c.args.clauses.now c.loop-number.number c.at.result.now c.at.ensures in
    let few = c.loop-number.invariant.2 in
    let is : c.add_cube.new.formula.clauses ≡ c.loop-number.formula.clauses ++ made (cube c.args.base (c.args.first + c.loop-number.number) (map opposite c.at.result.now)) =
    ap (λ (f : Cnf). f.clauses) c.in_ok-add_cube.ensures.added ∙ ap (λ (xs : List ℕ). c.loop-number.formula.clauses ++ made (cube c.args.base (c.args.first + c.loop-number.number) xs)) lits in (
      kept_more c.args.formula.now c.loop-number.formula c.add_cube.new.formula _ c.loop-number.invariant.0 c.in_ok-add_cube.ensures.added,
      c.loop-number.invariant.1 ∙ cubes_turn c.args.base c.args.first c.args.clauses.now c.loop-number.number c.at.result.now c.loop-number.formula.clauses c.add_cube.new.formula.clauses c.at.ensures is,
      omega (arith, long, more, few, c.in_ok-add_cube.ensures.few),
    )
