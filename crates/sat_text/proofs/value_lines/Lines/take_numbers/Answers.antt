use Rattle.std.proofs.Common.{◌∙◌, sym, ap}
use Rattle.sat_text.specs.Values.{with_number}
use Rattle.sat_text.proofs.ValueNumbers.{from_words, words_over, words_bad, words_on, words_stop, goes_none, goes_some, went, went_not}
use Rattle.sat_text.proofs.value_lines.Lines.take_numbers.Goals as goal

pub returns-in_default-clause-goes : goal.returns-in_default-clause-goes
returns-in_default-clause-goes c variables before has =
    let inv = c.taking.invariant.told variables before has in
    goes_none variables c.taking.self (from_words variables before c.args.words.now) (inv.2 ∙ words_bad variables inv.0 c.taking.words (sym c.is_over.ensures ∙ c.taking-test.true) (sym c.in_default.ensures.number))

pub returns-then-not-take_number-clause-goes : goal.returns-then-not-take_number-clause-goes
returns-then-not-take_number-clause-goes c variables before has =
    let inv = c.taking.invariant.told variables before has in
    let none = went_not variables c.take_number.new.self (with_number variables inv.0 c.in-Some.told) (c.if-not-take_number.ensures.goes variables inv.0 inv.1) in
    goes_none variables c.take_number.new.self (from_words variables before c.args.words.now) (inv.2 ∙ words_stop variables inv.0 c.taking.words c.in-Some.told (sym c.in-Some.ensures.number) none)

pub taking-preserved : goal.taking-preserved
taking-preserved c = record {
  at = c.take_number.ensures.at ∙ c.taking.invariant.at;
  told = λ variables before has.
      let inv = c.taking.invariant.told variables before has in
      let w = went variables c.take_number.new.self (with_number variables inv.0 c.in-Some.told) (c.if-not-take_number.ensures.goes variables inv.0 inv.1) in
      (w.0, w.2, inv.2 ∙ (words_on variables inv.0 c.taking.words c.in-Some.told w.0 (sym c.in-Some.ensures.number) w.1 ∙ ap (from_words variables w.0) (sym c.in-Some.ensures.passed)));
}

pub returns-clause-goes : goal.returns-clause-goes
returns-clause-goes c variables before has =
    let inv = c.taking.invariant.told variables before has in
    goes_some variables c.taking.self (from_words variables before c.args.words.now) inv.0 (inv.2 ∙ words_over variables inv.0 c.taking.words (sym c.is_over.ensures ∙ c.taking-test.false)) inv.1
