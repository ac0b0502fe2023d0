use Rattle.std.proofs.Common.{arith, ◌≡◌, ◌==◌, ◌∙◌, [], ◌∷◌, ◌&&◌, true, false, not, length, reverse, take, sym, ap, Some, None}
use Rattle.std.proofs.lemmas.List.{reverse-append}
use Rattle.std.proofs.lemmas.Option.{unwrap_or-slice_get}
use Rattle.cdcl_defs.specs.State.{clause_at, decision_count}
use Rattle.cdcl_defs.specs.Learn.{Learned, current, walk, resolvent}
use Rattle.bit_sets.specs.Layered.{words_have}
use Rattle.conflict_analysis.specs.own.Resolvent.{literals, seen}
use Rattle.conflict_analysis.proofs.Steps.{learned_same, stop_at}
use Rattle.conflict_analysis.proofs.Walking.{walk_at, walk_end, walk_stops}
use Rattle.conflict_analysis.proofs.walk.walk_back.Goals as goal
use Rattle.conflict_analysis.proofs.walk.walk_back.Goals.{Else-stops}

pub latest-requires : goal.latest-requires
latest-requires c = let room = c.walking.invariant.over.room in omega (arith, c.walking.invariant.within, room, c.entries-entries.ensures.short)

pub returns-then-stops-clause-walked : goal.returns-then-stops-clause-walked
returns-then-stops-clause-walked c =
    let i = c.walking.invariant in
    let w = c.args.trail.now in
    let stop = stop_at w.entries (literals (seen w c.walking.resolvent)) c.args.level c.count.result true c.requires.level (c.count.ensures ∙ i.over.over.counted) (sym c.stops.ensures ∙ c.if-stops.true) in
    i.walked ∙ walk_stops c.args.store.now.clauses w.entries w.variables (words_have c.walking.resolvent.words) c.walking.index c.in-Some.position (reverse c.walking.hints.items) c.entries-entries.ensures.below c.entries-entries.ensures.apart c.in-Some.ensures i.within stop

-- it goes on
goes : (c : Else-stops)
    → (not (decision_count c.args.trail.now.entries == 0) && (length (current c.args.trail.now.entries (literals (seen c.args.trail.now c.walking.resolvent))) == 1)) ≡ false
goes c =
    stop_at c.args.trail.now.entries (literals (seen c.args.trail.now c.walking.resolvent)) c.args.level c.count.result false c.requires.level
    (c.count.ensures ∙ c.walking.invariant.over.over.counted) (sym c.stops.ensures ∙ c.if-stops.false)

pub returns-in-None-clause-walked : goal.returns-in-None-clause-walked
returns-in-None-clause-walked c =
    let i = c.walking.invariant in
    let e = c.entries-entries.ensures in
    i.walked ∙ walk_at c.args.store.now.clauses c.args.trail.now.entries c.entries-entries.result.now c.args.trail.now.variables (words_have c.walking.resolvent.words) c.walking.index
    c.in-Some.position c.index-entries-position.result (reverse c.walking.hints.items) false None e.below e.apart c.in-Some.ensures i.within e.value c.index-entries-position.is
    (goes (goal.at.returns-in-None-clause-walked c).Else-stops) c.in-None.is

pub walking-preserved : goal.walking-preserved
walking-preserved c =
    let r = c.in-Some-reason.reason in
    let i = c.walking.invariant in
    let w = c.args.trail.now in
    let p = c.in-Some.position in
    let a = c.index-entries-position.result in
    let hints = reverse c.walking.hints.items in
    let clause = literals (seen w c.walking.resolvent) in
    let e = c.entries-entries.ensures in
    let here = walk_at c.args.store.now.clauses w.entries c.entries-entries.result.now w.variables (words_have c.walking.resolvent.words) c.walking.index p a hints false (Some r)
    e.below e.apart c.in-Some.ensures i.within e.value c.index-entries-position.is (goes (goal.at.walking-preserved c).Else-stops) c.in-Some-reason.is in
    let new : resolvent clause a.literal (clause_at c.args.store.now.clauses r) ≡ literals (seen w c.resolve.new.self) = sym (c.resolve.ensures.resolved ∙ ap (resolvent clause a.literal) (c.clause.ensures ∙ sym (unwrap_or-slice_get c.args.store.now.clauses r []))) in
    let more : r ∷ hints ≡ reverse c.push.new.self.items = sym (ap reverse c.in_ok-push-in-Some-reason.ensures.items ∙ reverse-append c.walking.hints.items (r ∷ [])) in
    record {
      within = omega (arith, i.within, c.in-Some.ensures.0);
      over = c.resolve.ensures.over;
      walked = i.walked ∙ here ∙ ap (λ (d : Learned). walk c.args.store.now.clauses w.entries (reverse (take p w.entries)) d) (learned_same (resolvent clause a.literal (clause_at c.args.store.now.clauses r)) (literals (seen w c.resolve.new.self)) (r ∷ hints) (reverse c.push.new.self.items) new more);
    }

pub returns-clause-walked : goal.returns-clause-walked
returns-clause-walked c =
    let i = c.walking.invariant in
    let w = c.args.trail.now in
    i.walked ∙ walk_end c.args.store.now.clauses w.entries w.variables (words_have c.walking.resolvent.words) c.walking.index (reverse c.walking.hints.items) c.entries-entries.ensures.below c.entries-entries.ensures.apart c.in_default.ensures i.within
