use Rattle.std.proofs.Common.{arith, ◌+◌, true≢false, sym, ap, ◌∙◌}
use Rattle.horizon_run.specs.Run.{RunView}
use Rattle.horizon_run.specs.own.Seen.{seen_of}
use Rattle.horizon_run.proofs.Grants.{goes_to, went, now-formula, now-means, now-granted, now-spoilt, seen-formula, seen-means, seen-granted, seen-spoilt}
use Rattle.horizon_run.proofs.ahead.AheadRun.go_on.Goals as goal

pub overflow_add-granted : goal.overflow_add-granted
overflow_add-granted c = omega (arith, c.requires, now-granted c.self.inside.run _ c.self.inside.granted c.self.view_is, c.from.ensures)

pub catch_up-requires-clause-few : goal.catch_up-requires-clause-few
catch_up-requires-clause-few c = omega (arith, c.requires, now-granted c.self.inside.run _ c.self.inside.granted c.self.view_is, c.from.ensures)

pub returns-in-Ok-clause-sane : goal.returns-in-Ok-clause-sane
returns-in-Ok-clause-sane c = sym (now-spoilt c.self.inside.run _ c.self.inside.granted c.self.view_is) ∙ c.in-Ok.ensures.sane

pub returns-in-Ok-clause-moved : goal.returns-in-Ok-clause-moved
returns-in-Ok-clause-moved c =
    goes_to c.self.inside.run c.catch_up.new.run c.args.self.now c.self.inside.granted _ c.args.conflicts c.self.view_is c.catch_up.ensures.formula c.catch_up.ensures.means c.in-Ok.ensures.sound
    (ap (λ n. c.self.inside.granted + n) c.from.ensures)

pub returns-in-Ok-clause-after : goal.returns-in-Ok-clause-after
returns-in-Ok-clause-after c =
    went c.args.self.now _ c.args.conflicts c.keeps_laws.ensures.adds_up (c.keeps_laws.ensures.moved (returns-in-Ok-clause-sane c)) (returns-in-Ok-clause-moved c)

pub returns-in-Ok-clause-formula : goal.returns-in-Ok-clause-formula
returns-in-Ok-clause-formula c = seen-formula c.catch_up.new.run (c.self.inside.granted + c.from.result) ∙ c.catch_up.ensures.formula ∙ now-formula c.self.inside.run _ c.self.inside.granted c.self.view_is

pub returns-in-Ok-clause-means : goal.returns-in-Ok-clause-means
returns-in-Ok-clause-means c = seen-means c.catch_up.new.run (c.self.inside.granted + c.from.result) ∙ c.catch_up.ensures.means ∙ now-means c.self.inside.run _ c.self.inside.granted c.self.view_is

pub returns-in-Ok-clause-stays : goal.returns-in-Ok-clause-stays
returns-in-Ok-clause-stays c e = absurd (true≢false (sym e ∙ returns-in-Ok-clause-sane c))

pub returns-in-Err-clause-spoilt : goal.returns-in-Err-clause-spoilt
returns-in-Err-clause-spoilt c = seen-spoilt c.catch_up.new.run c.self.inside.granted ∙ c.in-Err.ensures.spoilt

pub returns-in-Err-clause-granted : goal.returns-in-Err-clause-granted
returns-in-Err-clause-granted c = seen-granted c.catch_up.new.run c.self.inside.granted ∙ now-granted c.self.inside.run _ c.self.inside.granted c.self.view_is

pub returns-in-Err-clause-formula : goal.returns-in-Err-clause-formula
returns-in-Err-clause-formula c = seen-formula c.catch_up.new.run c.self.inside.granted ∙ c.catch_up.ensures.formula ∙ now-formula c.self.inside.run _ c.self.inside.granted c.self.view_is

pub returns-in-Err-clause-means : goal.returns-in-Err-clause-means
returns-in-Err-clause-means c = seen-means c.catch_up.new.run c.self.inside.granted ∙ c.catch_up.ensures.means ∙ now-means c.self.inside.run _ c.self.inside.granted c.self.view_is

pub returns-in-Err-clause-stays : goal.returns-in-Err-clause-stays
returns-in-Err-clause-stays c e =
    ap (λ (r : RunView). seen_of r c.self.inside.granted) (c.catch_up.ensures.stays (now-spoilt c.self.inside.run _ c.self.inside.granted c.self.view_is ∙ e)) ∙ c.self.view_is
