use Rattle.plan_report.proofs.Told.{read_back, steps_told, text_back, horizons_told}
use Rattle.plan_report.proofs.Spelled.{spelled_by, plan_read, text_read}
use Rattle.plan_report.proofs.laws.laws.Goals as goal

pub returns-clause-lines : goal.returns-clause-lines
returns-clause-lines c p g budget end well small has =
    read_back p g c.laws.ensures.read_back (λ call is. c.laws-2.ensures.line p call well is) (c.laws-2.ensures.begins p) budget end small has

pub returns-clause-plans : goal.returns-clause-plans
returns-clause-plans c p g budget horizon steps lines calls well small numbers is =
    plan_read p g (spelled_by c.laws-2.ensures.nothing c.laws-2.ensures.comment c.laws-2.ensures.call c.laws-2.ensures.reads p well) budget horizon steps lines calls small numbers is

pub returns-clause-texts : goal.returns-clause-texts
returns-clause-texts c p g horizon steps calls well small numbers is =
    text_read p g (spelled_by c.laws-2.ensures.nothing c.laws-2.ensures.comment c.laws-2.ensures.call c.laws-2.ensures.reads p well) horizon steps calls small numbers is

pub returns-clause-texts_back : goal.returns-clause-texts_back
returns-clause-texts_back c p g horizon steps calls well small numbers is =
    text_back p g c.laws.ensures.read_back (λ call is. c.laws-2.ensures.line p call well is) (c.laws-2.ensures.begins p) horizon steps calls small numbers is

pub returns-clause-steps : goal.returns-clause-steps
returns-clause-steps c p g budget horizon steps lines well small has =
    steps_told p g c.laws.ensures.read_back (λ call is. c.laws-2.ensures.line p call well is) (c.laws-2.ensures.begins p) budget horizon steps lines small has

pub returns-clause-horizons : goal.returns-clause-horizons
returns-clause-horizons c p g budget end horizon word conflicts well small has one says =
    horizons_told p g c.laws.ensures.entries (λ call is. c.laws-2.ensures.line p call well is) (c.laws-2.ensures.begins p) budget end horizon word conflicts small has one says
