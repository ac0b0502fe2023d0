use Rattle.std.proofs.Common.{◌≡◌, ◌<◌, ◌*◌, ◌∷◌, ℕ, List, [], true, sym, subst}
use Rattle.std.specs.Prelude.{slice_index}
use Rattle.gt_core.specs.Literal.{is_in}
use Rattle.gt_core.proofs.published.Basics.{each_at}
use Rattle.gt_core.proofs.published.Literals.{among_in}
use Rattle.never_check.specs.Trail.{Reached}
use Rattle.never_check.specs.Verdicts.{IsBase}
use Rattle.never_check.proofs.Grown.{none_at, some_at}
use Rattle.never_check.proofs.Placed.{among_place}
use Rattle.never_check.proofs.Forwarding.{goal_lits_below}
use Rattle.never_check.proofs.Least.{went_back}
use Rattle.never_check.proofs.Turns.{each_of_take, in_of_take}
use Rattle.never_check.proofs.Excluding.{excluded_by_some, one_has, two_have}
use Rattle.never_check.proofs.excluded.excluded_by.Goals as goal

pub first_refuted-requires-clause-lits : goal.first_refuted-requires-clause-lits
first_refuted-requires-clause-lits c = goal_lits_below c.args.task.now c.requires.lawful c.args.rules.now.known.now.facts c.goal-goal.result.now c.requires.facts c.goal-goal.ensures

pub partner-requires-clause-before : goal.partner-requires-clause-before
partner-requires-clause-before c =
    let facts = c.args.rules.now.known.now.facts in
    each_of_take (λ l. l < 2 * facts) c.goal-goal.result.now c.in-Some.place (goal_lits_below c.args.task.now c.requires.lawful facts c.goal-goal.result.now c.requires.facts c.goal-goal.ensures)

pub partner-requires-clause-lit : goal.partner-requires-clause-lit
partner-requires-clause-lit c =
    let facts = c.args.rules.now.known.now.facts in
    let lits = c.goal-goal.result.now in
    let first = some_at _ _ c.in_ok-first_refuted.field-0 c.in-Some.place c.in-Some.is c.in_ok-first_refuted.ensures.told in
    each_at (λ (l : ℕ). l < 2 * facts) lits (slice_index lits c.in-Some.place) (goal_lits_below c.args.task.now c.requires.lawful facts lits c.requires.facts c.goal-goal.ensures) (among_place lits c.in-Some.place first.0)

pub partner-requires-clause-base : goal.partner-requires-clause-base
partner-requires-clause-base c =
    subst (λ (r : Reached). IsBase c.args.rules.now r)
    (sym (went_back c.args.trail.now c.first_refuted.new.trail c.go_back.new.self c.len-from.result c.go_back.ensures c.in_ok-first_refuted.ensures.facts c.len-from.ensures.is c.in_ok-first_refuted.ensures.front)) c.requires.base

pub returns-in-None-2 : goal.returns-in-None-2
returns-in-None-2 c =
    let task = c.args.task.now in
    let lits = c.goal-goal.result.now in
    let lit = slice_index lits c.in-Some.place in
    let first = some_at _ _ c.in_ok-first_refuted.field-0 c.in-Some.place c.in-Some.is c.in_ok-first_refuted.ensures.told in
    let here : is_in task.goal lit ≡ true = subst (λ (ls : List ℕ). is_in ls lit ≡ true) c.goal-goal.ensures (among_in lits lit (among_place lits c.in-Some.place first.0)) in
    let told = excluded_by_some c.args.rules.now c.requires.none task (lit ∷ []) (one_has task.goal lit here) (none_at _ c.in_ok-partner-in-Some.field-0 c.in-None-2.is c.in_ok-partner-in-Some.ensures) in
    (here, told.0, told.1)

pub returns-in-Some-2 : goal.returns-in-Some-2
returns-in-Some-2 c =
    let task = c.args.task.now in
    let lits = c.goal-goal.result.now in
    let lit = slice_index lits c.in-Some.place in
    let other = c.in-Some-2.other in
    let first = some_at _ _ c.in_ok-first_refuted.field-0 c.in-Some.place c.in-Some.is c.in_ok-first_refuted.ensures.told in
    let both = some_at _ _ c.in_ok-partner-in-Some.field-0 other c.in-Some-2.is c.in_ok-partner-in-Some.ensures in
    let here : is_in task.goal lit ≡ true = subst (λ (ls : List ℕ). is_in ls lit ≡ true) c.goal-goal.ensures (among_in lits lit (among_place lits c.in-Some.place first.0)) in
    let there : is_in task.goal other ≡ true = subst (λ (ls : List ℕ). is_in ls other ≡ true) c.goal-goal.ensures (in_of_take lits c.in-Some.place other both.0) in
    let told = excluded_by_some c.args.rules.now c.requires.none task (other ∷ lit ∷ []) (two_have task.goal other lit there here) both.1 in
    (there, here, told.0, told.1)
