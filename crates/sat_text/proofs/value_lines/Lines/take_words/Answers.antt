use Rattle.std.proofs.Common.{◌∙◌, ◌&&◌, Bool, sym, ap}
use Rattle.sat_text.specs.Values.{is_satisfiable}
use Rattle.sat_text.proofs.ValueNumbers.{from_words, line_told, empty_told, comment_told, values_told, found_told, goes_some, goes_as}
use Rattle.sat_text.proofs.value_lines.Lines.take_words.Goals as goal

pub returns-in_default-clause-goes : goal.returns-in_default-clause-goes
returns-in_default-clause-goes c variables before has = goes_some variables c.args.self.now (line_told variables before c.args.words.now) before (empty_told variables before c.args.words.now c.in_default.ensures.none) has

pub returns-then-is-clause-goes : goal.returns-then-is-clause-goes
returns-then-is-clause-goes c variables before has =
    goes_some variables c.args.self.now (line_told variables before c.args.words.now) before
    (comment_told variables before c.in-Some.word.now c.next.new.self c.args.words.now c.in-Some.ensures.some (sym c.is.ensures ∙ c.if-is.true)) has

pub returns-then-is-2-clause-goes : goal.returns-then-is-2-clause-goes
returns-then-is-2-clause-goes c variables before has =
    goes_as c.take_numbers.result variables c.take_numbers.new.self (line_told variables before c.args.words.now) (from_words variables before c.next.new.self)
    (values_told variables before c.in-Some.word.now c.next.new.self c.args.words.now c.in-Some.ensures.some (sym c.is.ensures ∙ c.if-is.false) (sym c.is-2.ensures ∙ c.if-is-2.true)) (c.take_numbers.ensures.goes variables before has)

pub returns-then-is-3-clause-goes : goal.returns-then-is-3-clause-goes
returns-then-is-3-clause-goes c variables before has =
    found_told variables before c.in-Some.word.now c.next.new.self c.args.words.now c.in-Some.ensures.some c.is_satisfiable.result c.args.self.now (sym c.is.ensures ∙ c.if-is.false) (sym c.is-2.ensures ∙ c.if-is-2.false)
    (c.is_satisfiable.ensures ∙ sym (ap (λ (b : Bool). b && is_satisfiable c.next.new.self) (sym c.is-3.ensures ∙ c.if-is-3.true))) has

pub returns-else-is-3-clause-goes : goal.returns-else-is-3-clause-goes
returns-else-is-3-clause-goes c variables before has =
    found_told variables before c.in-Some.word.now c.next.new.self c.args.words.now c.in-Some.ensures.some c.is-3.result c.args.self.now (sym c.is.ensures ∙ c.if-is.false) (sym c.is-2.ensures ∙ c.if-is-2.false)
    (c.if-is-3.false ∙ sym (ap (λ (b : Bool). b && is_satisfiable c.next.new.self) (sym c.is-3.ensures ∙ c.if-is-3.false))) has
