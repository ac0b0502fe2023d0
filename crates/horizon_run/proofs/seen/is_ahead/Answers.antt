use Rattle.std.proofs.Common.{arith, ◌≡◌, ◌<◌, ◌≤◌, ◌∙◌, true≢false, false, sym}
use Rattle.std.proofs.lemmas.Bool.Decides.{nat_tests}
use Rattle.horizon_run.proofs.Grants.{IsLawful, caught_up, behind}
use Rattle.horizon_run.proofs.seen.is_ahead.Goals as goal

pub returns-then-spoilt-clause-caught_up : goal.returns-then-spoilt-clause-caught_up
returns-then-spoilt-clause-caught_up c _ =
    let laws : IsLawful c.args.run.now = record { moved = c.standing-laws.ensures.moved; reached_by = c.standing-laws.ensures.reached; settled = c.standing-laws.ensures.settled } in
    caught_up c.args.run.now c.args.granted laws c.requires (λ sane. absurd (true≢false (sym c.if-spoilt.true ∙ (c.spoilt.ensures ∙ sane))))

pub returns-clause-behind : goal.returns-clause-behind
returns-clause-behind c e =
    let laws : IsLawful c.args.run.now = record { moved = c.standing-laws.ensures.moved; reached_by = c.standing-laws.ensures.reached; settled = c.standing-laws.ensures.settled } in
    let sane : c.args.run.now.spoilt ≡ false = sym c.spoilt.ensures ∙ c.if-spoilt.false in
    let more : c.args.granted < c.conflicts.result = grind (arith, nat_tests, e) in
    let is = c.conflicts.ensures.value in
    let few = c.conflicts.ensures.few in
    let there = behind c.args.run.now c.args.granted laws c.requires sane (omega (arith, more, is)) in
    record { sane = sane; going = there.0; used_up = there.1; few = omega (arith, more, few) }

pub returns-clause-caught_up : goal.returns-clause-caught_up
returns-clause-caught_up c e =
    let laws : IsLawful c.args.run.now = record { moved = c.standing-laws.ensures.moved; reached_by = c.standing-laws.ensures.reached; settled = c.standing-laws.ensures.settled } in
    let no_more : c.conflicts.result ≤ c.args.granted = grind (arith, nat_tests, e) in
    let is = c.conflicts.ensures.value in
    caught_up c.args.run.now c.args.granted laws c.requires (λ _. omega (arith, no_more, is))
