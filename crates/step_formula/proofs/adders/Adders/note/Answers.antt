use Rattle.std.proofs.Common.{ℕ, [], ◌∷◌, ◌++◌, sym, ap, ◌∙◌}
use Rattle.step_formula.specs.Rows.{row_of, made_by}
use Rattle.step_formula.proofs.AddersLaw.{noted}
use Rattle.step_formula.proofs.adders.Adders.note.Goals as goal

pub returns : goal.returns
returns c first before n sorted is =
    let z = c.args.layout.now in
    let a = c.args.place.action in
    let number = c.args.place.number in
    let e = c.args.effect.now in
    let old = c.args.self.now in
    let middle = c.go_to.new.self in
    let new = c.push_if.new.self in
    let same = c.push_if.ensures.lit ∙ c.go_to.ensures.lit in
    noted z a first number old.lit new.lit old.vars.items new.vars.items before e (same ∙ c.add_of_fact.ensures) n sorted is middle.vars.items
    (λ q. c.go_to.ensures.again (q ∙ same)) (λ ne. c.go_to.ensures.first (λ q. ne (q ∙ sym same)))
    (c.in_ok-push_if.ensures.vars ∙ ap (λ (k : ℕ). middle.vars.items ++ made_by z a k (row_of a number e ∷ [])) (sym c.push_if.ensures.lit))
