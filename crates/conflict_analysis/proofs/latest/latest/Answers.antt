use Rattle.std.proofs.Common.{arith, ◌-◌, ◌+◌, ◌*◌, ◌/◌, ◌<◌, length, get_or, ◌&&◌, Bool, not, ap, ◌∙◌, refl}
use Rattle.bit_sets.specs.Layered.{word_has}
use Rattle.conflict_analysis.proofs.Sought.{sought_first, sought_next, sought_none, sought_found}
use Rattle.conflict_analysis.proofs.latest.latest.Goals as goal

pub loop-word-init : goal.loop-word-init
loop-word-init c =
    let words = c.args.words.now in
    let place = c.args.bound / 64 in
    let inside : place < length words = omega (arith, c.requires) in
    record {
      inside = inside;
      sought = sought_first words c.args.bound place (get_or words place 0) c.without-word.result refl refl (λ k. c.without-word.ensures k ∙ ap (λ (b : Bool). word_has (get_or words place 0) k && not b) (c.from_bit.ensures k));
    }

pub returns-then-place-eq0 : goal.returns-then-place-eq0
returns-then-place-eq0 c = sought_none c.args.words.now c.args.bound c.loop-word.place c.loop-word.word c.loop-word.invariant.sought c.loop-word-test.true c.if-place-eq0.true

pub loop-word-preserved : goal.loop-word-preserved
loop-word-preserved c =
    let words = c.args.words.now in
    let place = c.loop-word.place in
    let inside : place - 1 < length words = omega (arith, c.loop-word.invariant.inside, c.if-place-eq0.false) in
    record {
      inside = inside;
      sought = sought_next words c.args.bound place c.loop-word.word (place - 1) (get_or words (place - 1) 0) c.loop-word.invariant.sought c.loop-word-test.true (omega (arith, c.if-place-eq0.false)) refl;
    }

pub returns : goal.returns
returns c =
    sought_found c.args.words.now c.args.bound c.loop-word.place c.loop-word.word c.greatest_bit.result (64 * c.loop-word.place + c.greatest_bit.result) c.loop-word.invariant.sought c.greatest_bit.ensures.small c.greatest_bit.ensures.has c.greatest_bit.ensures.rest refl
