use Rattle.std.proofs.Common.{◌≡◌, ◌==◌, ℕ, List, [], ◌++◌, length, map, refl, true, false, ap, sym, ◌∙◌, subst}
use Rattle.clause_base.specs.declared.log.Entry.TheVariants.{Drop}
use Rattle.cdcl_defs.specs.declared.trail.Assigned.{Assigned}
use Rattle.cdcl_defs.specs.Run.{with_learned, trail_after, dropped_after}
use Rattle.cdcl_defs.specs.Reduce.{candidates, first_half, kept_without}
use Rattle.conflict_analysis.specs.Clauses.{ClausesView, all_clauses}
use Rattle.cdcl_defs.specs.Learn.{backtracked}
use Rattle.cdcl_core.specs.own.Search.{SearchView, IsKept, watched, level_after}
use Rattle.propagation.specs.Pending.{PropagatorView}
use Rattle.cdcl_core.proofs.Watching.{search_of, watched_going, watched_learned}
use Rattle.cdcl_core.proofs.Entered.{entered_clauses, entered, gone_back, dropped_none, dropped_half, dropped_clauses}
use Rattle.cdcl_core.proofs.search.Search.enter.Goals as goal
use Rattle.cdcl_core.proofs.search.Search.enter.Goals.{In_ok-add_sorted, then-is_restart+in_ok-reduce, else-is_restart}

-- the trail that is left, before clauses are dropped
abbrev left : In_ok-add_sorted → List Assigned
left c = backtracked c.level_after-level.result c.self.inside.propagator.entries

-- the numbers of the clauses that a restart drops
abbrev half : In_ok-add_sorted → List ℕ
half c = first_half (candidates (length c.learn.new.self.formula.clauses) (all_clauses c.learn.new.self) c.learn.new.self.kept c.add_sorted.new.self.entries)

not_empty : (c : In_ok-add_sorted) → (length c.args.new.lits == 0) ≡ false
not_empty c = ap (λ (ls : List ℕ). length ls == 0) (sym c.as_slice-lits.ensures) ∙ sym c.is_empty-is_empty.ensures ∙ c.if-is_empty.false

learned : (c : In_ok-add_sorted) → c.learn.new.self ≡ entered_clauses c.self.inside.clauses c.args.new.lits c.args.new.hints []
learned c = subst (λ (h : List ℕ). c.learn.new.self ≡ entered_clauses c.self.inside.clauses c.args.new.lits h []) c.as_slice.ensures c.in_ok-learn.ensures.ok

watch : (c : In_ok-add_sorted) → c.add_sorted.new.self ≡ watched c.learn.new.self (left c)
watch c =
    let t = c.self.inside in
    let m = watched_going c.self.invariant c.self.view_is c.requires.sane c.requires.going in
    watched_learned t.clauses c.learn.new.self t.propagator.entries (left c) t.propagator c.backtrack.new.self c.add_sorted.new.self c.args.new.lits c.as_slice.result.now m c.in_ok-learn.ensures.ok c.backtrack.ensures c.in_ok-add_sorted.ensures.ok

back : (c : In_ok-add_sorted) → left c ≡ trail_after c.args.self.now.state c.args.new.lits
back c =
    let t = c.self.inside in
    let level = c.level_after-level.ensures ∙ ap (level_after c.args.self.now.state) c.as_slice-lits.ensures in
    gone_back t.clauses t.propagator.entries t.standing t.spoilt c.args.new.lits c.level_after-level.result c.args.self.now c.self.view_is (not_empty c) level

-- what is kept and what is seen then
abbrev IsEntered : In_ok-add_sorted → ClausesView → PropagatorView → Type 0
IsEntered c clauses propagator =
    let t = c.self.inside in
    let v = c.args.self.now in
    IsKept clauses propagator t.analysis t.standing false
    × (search_of clauses propagator.entries t.standing false ≡ record v { state = with_learned v.state (record { clause = c.args.new.lits; hints = c.args.new.hints }) })

-- where clauses with these numbers were dropped
with_dropped : (c : In_ok-add_sorted) (ds : List ℕ) (trail : List Assigned) (clauses : ClausesView) (propagator : PropagatorView)
    → clauses ≡ entered_clauses c.self.inside.clauses c.args.new.lits c.args.new.hints ds → trail ≡ left c → dropped_after c.args.self.now.state c.args.new.lits ≡ ds → propagator ≡ watched clauses trail
    → IsEntered c clauses propagator
with_dropped c ds trail clauses propagator e same drops m =
    let t = c.self.inside in
    let ready = c.self.invariant.ready (ap (λ (w : SearchView). w.spoilt) c.self.view_is ∙ c.requires.sane) in
    entered t.clauses clauses propagator t.analysis t.propagator.entries trail t.standing t.spoilt c.args.new.lits c.args.new.hints ds c.args.self.now c.self.view_is c.requires.sane c.requires.going (not_empty c) e (same ∙ back c) drops m ready c.requires.sound

-- at a restart
restarted : (c : In_ok-add_sorted) (clauses : ClausesView) (propagator : PropagatorView) → c.is_restart-is_restart.result ≡ true
    → clauses ≡ record c.learn.new.self { log = c.learn.new.self.log ++ map (λ n. Drop n) (half c); kept = kept_without c.learn.new.self.kept (half c) } → propagator ≡ watched clauses c.add_sorted.new.self.entries
    → IsEntered c clauses propagator
restarted c clauses propagator restart e m =
    let t = c.self.inside in
    let k = c.args.new.lits in
    let at = ap (λ (w : PropagatorView). w.entries) (watch c) in
    let drops = dropped_half t.clauses c.learn.new.self t.propagator.entries c.add_sorted.new.self.entries t.standing t.spoilt k c.args.new.hints c.args.self.now c.self.view_is (sym c.is_restart-is_restart.ensures ∙ restart) (not_empty c) (learned c) (at ∙ back c) in
    let gone = dropped_clauses t.clauses c.learn.new.self clauses k c.args.new.hints (half c) (learned c) e in
    with_dropped c (half c) c.add_sorted.new.self.entries clauses propagator gone at drops m

-- and elsewhere
unrestarted : (c : In_ok-add_sorted) → c.is_restart-is_restart.result ≡ false → IsEntered c c.learn.new.self c.add_sorted.new.self
unrestarted c restart = with_dropped c [] (left c) c.learn.new.self c.add_sorted.new.self (learned c) refl (dropped_none c.args.self.now.state c.args.new.lits (sym c.is_restart-is_restart.ensures ∙ restart)) (watch c)

pub invariant_of-self-2 : goal.invariant_of-self-2
invariant_of-self-2 c =
    let at = (goal.at.invariant_of-self-2 c).In_ok-add_sorted in
    elim c.if-is_restart.branch [
      | then-is_restart+in_ok-reduce w ↦ rw (w.self-inside-is) (restarted at w.reduce.new.clauses w.reduce.new.propagator w.if-is_restart.true w.in_ok-reduce.ensures.ok w.in_ok-reduce.ensures.mirrored).0
      | else-is_restart w ↦ rw (w.self-inside-is) (unrestarted at w.if-is_restart.false).0
    ]
