use Rattle.std.proofs.Common.{false, true, sym, ap}
use Rattle.sat_text.specs.Values.{with_line}
use Rattle.sat_text.specs.Stands.{ReaderView}
use Rattle.sat_text.proofs.ValueNumbers.{line_told, goes_as, goes_same}
use Rattle.sat_text.proofs.value_lines.Lines.take.Goals as goal

pub returns-then-not-take_words-clause-goes : goal.returns-then-not-take_words-clause-goes
returns-then-not-take_words-clause-goes c variables before has =
    goes_as false variables c.take_words.new.self (with_line variables before c.args.bytes.now) (line_told variables before c.of.result) (ap (line_told variables before) (sym c.of.ensures)) (c.if-not-take_words.ensures.goes variables before has)

pub returns-clause-goes : goal.returns-clause-goes
returns-clause-goes c variables before has =
    let goes = goes_as true variables c.take_words.new.self (with_line variables before c.args.bytes.now) (line_told variables before c.of.result) (ap (line_told variables before) (sym c.of.ensures)) (c.if-not-take_words.ensures.goes variables before has) in
    goes_same true variables c.take_words.new.self _ (with_line variables before c.args.bytes.now) (ap (λ (v : ReaderView). v.table) c.self.view_is) (ap (λ (v : ReaderView). v.ended) c.self.view_is) goes
