use Rattle.std.proofs.Common.{arith, ◌≡◌, ◌+◌, false, sym, ap, ◌∙◌, subst}
use Rattle.clause_base.specs.Formula.{Cnf}
use Rattle.goal_choice.specs.Means.{Means}
use Rattle.goal_choice.specs.Choice.{choice_by}
use Rattle.cdcl_defs.specs.Run.{after}
use Rattle.horizon_run.specs.Run.{RunView, choice_in, reached, IsRun, AddsUp}
use Rattle.horizon_run.proofs.Runs.{goes_on, seen}
use Rattle.horizon_run.proofs.run.HorizonRun.go_on.Goals as goal

pub advance-requires : goal.advance-requires
advance-requires c =
    let now = c.args.self.now in
    let sane : now.spoilt ≡ false = sym (ap (λ (r : RunView). r.spoilt) c.self.view_is) ∙ (sym c.is_spoilt.ensures ∙ c.if-is_spoilt.false) in
    let there = ap (λ (r : RunView). r.state.conflicts) (c.keeps_laws.ensures.moved sane) in
    let few = (c.keeps_laws.ensures.reached now.granted).within in
    let here = ap (λ (r : RunView). r.state.conflicts) c.self.view_is in
    omega (arith, there, few, here)

pub invariant_of-self-2 : goal.invariant_of-self-2
invariant_of-self-2 c =
    let f = c.self.inside.solver.formula in
    let g = c.self.inside.granted in
    let m = c.self.inside.solver.chooser in
    let t = c.advance.new.self.state in
    let sane : c.self.inside.solver.spoilt ≡ false = sym c.is_spoilt.ensures ∙ c.if-is_spoilt.false in
    let add = subst (λ (r : RunView). AddsUp (choice_in r) r.formula) (sym c.self.view_is) c.keeps_laws.ensures.adds_up in
    let there : t ≡ reached (choice_by m) f (g + c.args.conflicts) =
    goes_on (choice_by m) f c.self.inside.solver.state t g c.args.conflicts add (c.self.invariant.moved sane) c.in_ok-advance.ensures.after in
    let end : t ≡ reached (choice_by m) f (g + c.from.result) = there ∙ ap (λ n. reached (choice_by m) f (g + n)) (sym c.from.ensures) in
    let kept : IsRun (choice_by m) f t (g + c.from.result) c.advance.new.self.spoilt =
    record { opens = c.self.invariant.opens; start = c.self.invariant.start; moved = λ _. end } in
    let over = subst (λ (h : Cnf). IsRun (choice_by m) h t (g + c.from.result) c.advance.new.self.spoilt) (sym c.advance.ensures.formula) kept in
    subst (λ (x : Means). IsRun (choice_by x) c.advance.new.self.formula t (g + c.from.result) c.advance.new.self.spoilt) (sym c.advance.ensures.chooser) over

pub returns-clause-after : goal.returns-clause-after
returns-clause-after c = c.in_ok-advance.ensures.after ∙ ap (λ (r : RunView). after (choice_in r) r.state c.args.conflicts) c.self.view_is

pub returns-clause-moved : goal.returns-clause-moved
returns-clause-moved c =
    let now = c.args.self.now in
    let sane : now.spoilt ≡ false = sym (ap (λ (r : RunView). r.spoilt) c.self.view_is) ∙ (sym c.is_spoilt.ensures ∙ c.if-is_spoilt.false) in
    let new : RunView = record { formula = c.advance.new.self.formula; means = c.advance.new.self.chooser; state = c.advance.new.self.state; granted = c.self.inside.granted + c.from.result; spoilt = c.advance.new.self.spoilt } in
    let granted = ap (λ (r : RunView). r.granted) c.self.view_is in
    let more : new.granted ≡ now.granted + c.args.conflicts = omega (arith, granted, c.from.ensures) in
    seen now new c.args.conflicts c.keeps_laws.ensures.adds_up (c.keeps_laws.ensures.moved sane) (returns-clause-after c)
    (c.advance.ensures.formula ∙ ap (λ (r : RunView). r.formula) c.self.view_is)
    (c.advance.ensures.chooser ∙ ap (λ (r : RunView). r.means) c.self.view_is) more c.in_ok-advance.ensures.sound

pub returns-clause-rises : goal.returns-clause-rises
returns-clause-rises c =
    let now = c.args.self.now in
    let sane : now.spoilt ≡ false = sym (ap (λ (r : RunView). r.spoilt) c.self.view_is) ∙ (sym c.is_spoilt.ensures ∙ c.if-is_spoilt.false) in
    let here = ap (λ (r : RunView). r.state.conflicts) (c.keeps_laws.ensures.moved sane) in
    let there = ap (λ (r : RunView). r.state.conflicts) (returns-clause-moved c) in
    let up = (c.keeps_laws.ensures.reached now.granted).rises c.args.conflicts in
    omega (arith, here, there, up)
