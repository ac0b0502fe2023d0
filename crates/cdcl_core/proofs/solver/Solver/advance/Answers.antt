use Rattle.std.proofs.Common.{◌≤◌, ◌+◌, sym, subst, Result, Ok, Err, OnOk}
use Rattle.cdcl_defs.specs.State.{State}
use Rattle.cdcl_defs.specs.Open.{Opens}
use Rattle.cdcl_defs.specs.Sound.{IsSound}
use Rattle.cdcl_defs.proofs.published.Fuel.{after_is}
use Rattle.cdcl_defs.proofs.published.Cuts.{adds_up, after_within, settled_stays}
use Rattle.cdcl_defs.proofs.published.Stops.{grants, rests_always}
use Rattle.cdcl_defs.specs.Laws.{AddsUp, ComesToRestAlways, Grants}
use Rattle.cdcl_core.specs.own.Between.{IsShortBetween}
use Rattle.cdcl_core.specs.own.Search.{SolverView}
use Rattle.cdcl_core.proofs.Shorts.{short_between}
use Rattle.cdcl_core.proofs.solver.Solver.advance.Given as given
use Rattle.cdcl_core.proofs.solver.Solver.advance.Goals as goal
use Rattle.cdcl_core.proofs.solver.Solver.advance.Goals.{After-conflicts-sound}

on_ok : {T E P Q : Type 0} → (r : Result T E) → (P → Q) → OnOk r P → OnOk r Q
on_ok (Ok x) f p = f p
on_ok (Err e) f p = tt

opens : (g : given.Over) (c : After-conflicts-sound g) → Opens c.args.self.now.formula.variables (g.C.Chooser.choice c.args.self.now.chooser)
opens g c values e =
    let v = c.args.self.now in
    let fits = subst (λ (w : SolverView g.row.C.Denot). g.C.Chooser.fits w.chooser w.formula.variables) c.self.view_is c.self.invariant.0 in
    g.met.C.Chooser.opens v.chooser values (subst (g.C.Chooser.fits v.chooser) (sym e) fits)

sound : (g : given.Over) (c : After-conflicts-sound g) → IsSound c.args.self.now.formula c.args.self.now.state
sound g c = subst (λ (w : SolverView g.row.C.Denot). IsSound w.formula w.state) c.self.view_is c.conflicts-sound.ensures.sound

-- what is said of a solver as it stands
adds : (g : given.Over) (c : After-conflicts-sound g) → AddsUp (g.C.Chooser.choice c.args.self.now.chooser) c.args.self.now.state
adds g c = let v = c.args.self.now in adds_up v.formula (g.C.Chooser.choice v.chooser) v.state (opens g c) (sound g c)

short : (g : given.Over) (c : After-conflicts-sound g) → IsShortBetween (g.C.Chooser.choice c.args.self.now.chooser) c.args.self.now.state
short g c = let v = c.args.self.now in short_between v.formula (g.C.Chooser.choice v.chooser) v.state (opens g c) (sound g c)

rests : (g : given.Over) (c : After-conflicts-sound g) → ComesToRestAlways (g.C.Chooser.choice c.args.self.now.chooser) c.args.self.now.state
rests g c = let v = c.args.self.now in rests_always v.formula (g.C.Chooser.choice v.chooser) v.state (opens g c) (sound g c)

granted : (g : given.Over) (c : After-conflicts-sound g) → Grants (g.C.Chooser.choice c.args.self.now.chooser) c.args.self.now.state
granted g c = let v = c.args.self.now in grants v.formula (g.C.Chooser.choice v.chooser) v.state (opens g c) (sound g c)

pub returns-then-is_spoilt-clause-adds_up : goal.returns-then-is_spoilt-clause-adds_up
returns-then-is_spoilt-clause-adds_up g c = adds g (goal.at.returns-then-is_spoilt-clause-adds_up g c).After-conflicts-sound

pub returns-clause-adds_up : goal.returns-clause-adds_up
returns-clause-adds_up g c = adds g (goal.at.returns-clause-adds_up g c).After-conflicts-sound

pub returns-clause-after : goal.returns-clause-after
returns-clause-after g c =
    let v = c.args.self.now in
    let here = (goal.at.returns-clause-after g c).After-conflicts-sound in
    on_ok c.run.result (after_is v.formula (g.C.Chooser.choice v.chooser) v.state c.run.new.self.state c.args.conflicts (opens g here) (sound g here)) c.run.ensures.after

pub returns-then-is_spoilt-clause-comes_to_rest : goal.returns-then-is_spoilt-clause-comes_to_rest
returns-then-is_spoilt-clause-comes_to_rest g c = rests g (goal.at.returns-then-is_spoilt-clause-comes_to_rest g c).After-conflicts-sound

pub returns-then-is_spoilt-clause-settled : goal.returns-then-is_spoilt-clause-settled
returns-then-is_spoilt-clause-settled g c = settled_stays (g.C.Chooser.choice c.args.self.now.chooser) c.args.self.now.state

pub returns-clause-comes_to_rest : goal.returns-clause-comes_to_rest
returns-clause-comes_to_rest g c = rests g (goal.at.returns-clause-comes_to_rest g c).After-conflicts-sound

pub returns-clause-within : goal.returns-clause-within
returns-clause-within g c =
    let v = c.args.self.now in
    on_ok c.run.result (λ e. subst (λ (s : State). s.conflicts ≤ v.state.conflicts + c.args.conflicts) (sym e) (after_within (g.C.Chooser.choice v.chooser) v.state c.args.conflicts)) (returns-clause-after g c)

pub returns-then-is_spoilt-clause-grants : goal.returns-then-is_spoilt-clause-grants
returns-then-is_spoilt-clause-grants g c = granted g (goal.at.returns-then-is_spoilt-clause-grants g c).After-conflicts-sound

pub returns-clause-grants : goal.returns-clause-grants
returns-clause-grants g c = granted g (goal.at.returns-clause-grants g c).After-conflicts-sound

pub returns-clause-settled : goal.returns-clause-settled
returns-clause-settled g c = settled_stays (g.C.Chooser.choice c.args.self.now.chooser) c.args.self.now.state

pub returns-then-is_spoilt-clause-short : goal.returns-then-is_spoilt-clause-short
returns-then-is_spoilt-clause-short g c = short g (goal.at.returns-then-is_spoilt-clause-short g c).After-conflicts-sound

pub returns-clause-short : goal.returns-clause-short
returns-clause-short g c = short g (goal.at.returns-clause-short g c).After-conflicts-sound
