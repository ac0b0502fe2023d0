use Rattle.std.proofs.Common.{◌≡◌, false, sym, refl, ◌∙◌}
use Rattle.horizon_run.specs.own.Seen.{seen_of}
use Rattle.horizon_run.proofs.Grants.{same-origin, stays_seen, sane_before, now-formula, now-means, now-granted, seen-formula, seen-means, seen-granted, seen-spoilt}
use Rattle.horizon_run.proofs.ahead.AheadRun.handle_ahead.Goals as goal

pub returns-clause-formula : goal.returns-clause-formula
returns-clause-formula c =
    seen-formula c.catch_up.new.run c.self.inside.granted ∙ c.catch_up.ensures.formula ∙ now-formula c.self.inside.run _ c.self.inside.granted c.self.view_is

pub returns-clause-origin : goal.returns-clause-origin
returns-clause-origin c =
    same-origin c.args.self.now (seen_of c.catch_up.new.run c.self.inside.granted) (returns-clause-formula c)
    (seen-means c.catch_up.new.run c.self.inside.granted ∙ c.catch_up.ensures.means ∙ now-means c.self.inside.run _ c.self.inside.granted c.self.view_is)

pub returns-clause-granted : goal.returns-clause-granted
returns-clause-granted c = seen-granted c.catch_up.new.run c.self.inside.granted ∙ now-granted c.self.inside.run _ c.self.inside.granted c.self.view_is

pub returns-clause-same : goal.returns-clause-same
returns-clause-same c e =
    let r = c.self.inside.run in
    let n = c.catch_up.new.run in
    let sound : n.spoilt ≡ false = sym (seen-spoilt n c.self.inside.granted) ∙ e in
    stays_seen r n _ c.self.inside.granted c.self.view_is c.catch_up.ensures.formula c.catch_up.ensures.means (sane_before r n r.spoilt refl c.catch_up.ensures.stays sound) sound
