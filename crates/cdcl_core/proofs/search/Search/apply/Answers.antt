use Rattle.std.proofs.Common.{[], subst, sym}
use Rattle.clause_base.specs.Clause.{IsClause}
use Rattle.cdcl_defs.specs.declared.event.Event.{Event}
use Rattle.cdcl_defs.specs.declared.event.Event.TheVariants.{Conflict, Finish}
use Rattle.cdcl_defs.specs.Learn.{learned, Learned}
use Rattle.cdcl_defs.specs.Run.{with_learned, after_conflict}
use Rattle.cdcl_defs.specs.Sound.{IsSound}
use Rattle.cdcl_defs.specs.Trail.{AllFalse}
use Rattle.cdcl_core.specs.own.Search.{SearchView, IsNextEvent}
use Rattle.cdcl_core.proofs.Keeps.{learned_same, learned_is_clause, learned_is_false, undropped_sound, next_sound}
use Rattle.cdcl_core.proofs.Entries.{IsEntry, MayAssign, may_assign}
use Rattle.cdcl_core.proofs.search.Search.apply.Goals as goal
use Rattle.cdcl_core.proofs.search.Search.apply.Goals.{After-assign-arg-1, in-Force, in-Decide}

pub enter-requires-clause-clause : goal.enter-requires-clause-clause
enter-requires-clause-clause c =
    let v = c.args.self.now in
    let next = subst (IsNextEvent v.formula v.state) c.in-Conflict.is c.requires.next in
    let law = learned_is_clause v.formula v.state c.in-Conflict.number c.requires.sound next in
    subst IsClause (sym c.in_ok-learned-in-Conflict.ensures.clause) law

pub enter-requires-clause-all_false : goal.enter-requires-clause-all_false
enter-requires-clause-all_false c =
    let v = c.args.self.now in
    let next = subst (IsNextEvent v.formula v.state) c.in-Conflict.is c.requires.next in
    let law = learned_is_false v.formula v.state c.in-Conflict.number c.requires.sound next in
    let here = subst (AllFalse v.state.trail) (sym c.in_ok-learned-in-Conflict.ensures.clause) law in
    subst (λ (w : SearchView). AllFalse w.state.trail c.in_ok-learned-in-Conflict.learned.lits) (sym c.in_ok-learned-in-Conflict.ensures.ok) here

pub enter-requires-clause-undropped : goal.enter-requires-clause-undropped
enter-requires-clause-undropped c =
    let v = c.args.self.now in
    let new = learned v.state.clauses v.state.trail c.in-Conflict.number in
    let next = subst (IsNextEvent v.formula v.state) c.in-Conflict.is c.requires.next in
    let law = undropped_sound v.formula v.state c.in-Conflict.number c.requires.sound next in
    let e = learned_same new.clause c.in_ok-learned-in-Conflict.learned.lits new.hints c.in_ok-learned-in-Conflict.learned.hints (sym c.in_ok-learned-in-Conflict.ensures.clause) (sym c.in_ok-learned-in-Conflict.ensures.hints) in
    let here = subst (λ (d : Learned). IsSound v.formula (after_conflict v.state d [])) e law in
    subst (λ (w : SearchView). IsSound w.formula (after_conflict w.state (record { clause = c.in_ok-learned-in-Conflict.learned.lits; hints = c.in_ok-learned-in-Conflict.learned.hints }) [])) (sym c.in_ok-learned-in-Conflict.ensures.ok) here

pub enter-requires-clause-sound : goal.enter-requires-clause-sound
enter-requires-clause-sound c =
    let v = c.args.self.now in
    let new = learned v.state.clauses v.state.trail c.in-Conflict.number in
    let next = subst (IsNextEvent v.formula v.state) c.in-Conflict.is c.requires.next in
    let law = next_sound v.formula v.state (Conflict c.in-Conflict.number) c.requires.sound c.requires.going next in
    let e = learned_same new.clause c.in_ok-learned-in-Conflict.learned.lits new.hints c.in_ok-learned-in-Conflict.learned.hints (sym c.in_ok-learned-in-Conflict.ensures.clause) (sym c.in_ok-learned-in-Conflict.ensures.hints) in
    let here = subst (λ (d : Learned). IsSound v.formula (with_learned v.state d)) e law in
    subst (λ (w : SearchView). IsSound w.formula (with_learned w.state (record { clause = c.in_ok-learned-in-Conflict.learned.lits; hints = c.in_ok-learned-in-Conflict.learned.hints }))) (sym c.in_ok-learned-in-Conflict.ensures.ok) here

-- the entry of an event that makes a literal true
entry : (c : After-assign-arg-1) → MayAssign c.args.self.now.formula c.args.self.now.state c.args.event c.match-event.entry
entry c =
    let v = c.args.self.now in
    let a = c.match-event.entry in
    let may : IsEntry c.args.event a → MayAssign v.formula v.state c.args.event a = may_assign v.formula v.state c.args.event a c.requires.sound c.requires.going c.requires.next in
    elim c.match-event.branch [
      | in-Force w ↦ may (subst (λ (x : Event). IsEntry x a) (sym w.in-Force.is) w.entry-is)
      | in-Decide w ↦ may (subst (λ (x : Event). IsEntry x a) (sym w.in-Decide.is) w.entry-is)
    ]

pub assign-requires-clause-below : goal.assign-requires-clause-below
assign-requires-clause-below c = (entry (goal.at.assign-requires-clause-below c).After-assign-arg-1).below

pub assign-requires-clause-opened : goal.assign-requires-clause-opened
assign-requires-clause-opened c = (entry (goal.at.assign-requires-clause-opened c).After-assign-arg-1).opened

pub assign-requires-clause-sound : goal.assign-requires-clause-sound
assign-requires-clause-sound c = (entry (goal.at.assign-requires-clause-sound c).After-assign-arg-1).sound

pub finish-requires-clause-sound : goal.finish-requires-clause-sound
finish-requires-clause-sound c =
    let v = c.args.self.now in
    let next = subst (IsNextEvent v.formula v.state) c.in-Finish.is c.requires.next in
    next_sound v.formula v.state Finish c.requires.sound c.requires.going next
