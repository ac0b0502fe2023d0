use Rattle.std.proofs.Common.{arith, ◌∙◌, ◌*◌, ◌+◌, ◌<◌, ◌&&◌, ◌||◌, length}
use Rattle.std.specs.Prelude.{slice_index}
use Rattle.std.proofs.lemmas.List.{get_or_read}
use Rattle.implied_literals.specs.Rows.{clause_in}
use Rattle.implied_literals.specs.Tested.{breaks_by}
use Rattle.two_invariants.proofs.RoundLaw.{one_more_action, losses_to}
use Rattle.two_invariants.proofs.round.piece_losses.Goals as goal

pub loop-i-preserved : goal.loop-i-preserved
loop-i-preserved c =
    let round = c.args.round.now in
    let todo = round.todo.now in
    let acts = round.acts.now in
    let i = c.loop-i.i in
    let inside : i < length todo = search arith in
    let x = get_or_read acts (slice_index todo i) c.index-acts-todo.result (c.requires.can.numbers i inside) c.index-acts-todo.is _ in
    one_more_action round.facts round.known.now round.clauses.now acts todo (2048 * c.args.piece) i c.loop-i.lost.items c.add_losses_of.new.lost.items inside c.loop-i.invariant c.add_losses_of.ensures.long
    (λ l m. c.in_ok-add_losses_of.ensures.lost l m ∙ (λ j. clause_in c.loop-i.lost.items l m || (clause_in round.clauses.now l m && breaks_by round.facts round.known.now (x j) l m)))

pub returns : goal.returns
returns c =
    let round = c.args.round.now in
    losses_to round.facts round.known.now round.clauses.now round.acts.now round.todo.now (2048 * c.args.piece) c.loop-i.i (2048 * c.args.piece + 2048) c.loop-i.lost.items c.loop-i.invariant
    (λ k lk within. omega (arith, lk, within, c.min-count.ensures, c.loop-i-test.false, c.loop-i.auto.i-end))
