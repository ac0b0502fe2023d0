use Rattle.std.proofs.Common.{arith, ◌≡◌, ◌-◌, ◌+◌, ◌<◌, ◌++◌, ◌∷◌, [], List, Bool, sym, ap, ◌∙◌, subst, append_assoc}
use Rattle.clause_base.specs.Formula.{Cnf, IsModel}
use Rattle.cdcl_defs.specs.declared.standing.Standing.TheVariants.{Found}
use Rattle.cdcl_defs.specs.Sound.{truths_from, made_true}
use Rattle.horizon_run.specs.Run.{RunView, truths_of}
use Rattle.horizon_run.proofs.Runs.{truths-push}
use Rattle.horizon_run.proofs.run.HorizonRun.values.Goals as goal

pub returns-in_err-push-clause-model : goal.returns-in_err-push-clause-model
returns-in_err-push-clause-model c =
    let found : c.standing-found.result ≡ Found = c.standing-found.ensures.value ∙ (ap (λ (r : RunView). r.state.standing) c.self.view_is ∙ c.requires) in
    subst (λ (r : RunView). IsModel r.formula (truths_of r.formula r.state)) c.self.view_is (c.standing-found.ensures.solved found).model

pub loop-v-preserved : goal.loop-v-preserved
loop-v-preserved c =
    let r = c.args.self.now in
    let b = c.is_true.result in
    let many = ap (λ (f : Cnf). f.variables) c.formula-2.ensures in
    let view = ap (λ (w : RunView). w.formula.variables) c.self.view_is in
    let bound : c.loop-v.v < r.formula.variables = omega (arith, many, view) in
    let pushed : c.push.new.self.items ≡ c.loop-v.values.items ++ b ∷ [] = c.in_ok-push.ensures.items in
    let rest = truths-push r.state.trail c.loop-v.v r.formula.variables bound in
    let here : b ≡ made_true r.state.trail c.loop-v.v = c.is_true.ensures in
    ap (λ (xs : List Bool). xs ++ truths_from r.state.trail (c.loop-v.v + 1) (r.formula.variables - (c.loop-v.v + 1))) pushed
    ∙ (append_assoc c.loop-v.values.items (b ∷ []) _
    ∙ (ap (λ (x : Bool). c.loop-v.values.items ++ (x ∷ truths_from r.state.trail (c.loop-v.v + 1) (r.formula.variables - (c.loop-v.v + 1)))) here
    ∙ (ap (λ (xs : List Bool). c.loop-v.values.items ++ xs) (sym rest) ∙ c.loop-v.invariant)))

pub returns-clause-model : goal.returns-clause-model
returns-clause-model c =
    let found : c.standing-found.result ≡ Found = c.standing-found.ensures.value ∙ (ap (λ (r : RunView). r.state.standing) c.self.view_is ∙ c.requires) in
    subst (λ (r : RunView). IsModel r.formula (truths_of r.formula r.state)) c.self.view_is (c.standing-found.ensures.solved found).model
