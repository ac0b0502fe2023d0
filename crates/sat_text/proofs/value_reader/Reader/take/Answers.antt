use Rattle.std.proofs.Common.{◌∙◌, ◌++◌, ◌∷◌, [], ℕ, List, Ok, sym, ap, subst}
use Rattle.sat_text.proofs.published.Texts.{text_on, text_longer}
use Rattle.sat_text.specs.Values.{model_of}
use Rattle.sat_text.specs.Stands.{HasRead}
use Rattle.sat_text.proofs.published.ValueReading.{refuses, went_on, held_on, ok_too_long}
use Rattle.sat_text.proofs.value_reader.Reader.take.Goals as goal

pub returns-in-Some-2-clause-refused : goal.returns-in-Some-2-clause-refused
returns-in-Some-2-clause-refused c variables text read more =
    let s = c.loop-line.invariant variables text read in
    let line = c.in-Some.ensures.some in
    let whole = s.1 ∙ ap (λ (rest : List ℕ). s.0 ++ rest) line.1 in
    ap (λ (t : List ℕ). model_of variables (t ++ more)) whole ∙ ap (model_of variables) (text_longer s.0 c.in-Some.line.now c.in-Some.others.now more)
    ∙ refuses variables s.0 c.loop-line.self s.2 c.in-Some.line.now line.0 _ c.take_end.new.self (c.in_ok-refused.ensures.comes variables s.2.told s.2.at s.2.count s.2.before) c.in-Some-2.refused (c.in-Some.others.now ++ more) c.in-Some-2.is

pub loop-line-preserved : goal.loop-line-preserved
loop-line-preserved c variables text read =
    let s = c.loop-line.invariant variables text read in
    let line = c.in-Some.ensures.some in
    let whole = s.1 ∙ ap (λ (rest : List ℕ). s.0 ++ rest) line.1 in (
      s.0 ++ (c.in-Some.line.now ++ 10 ∷ []),
      whole ∙ sym (text_on s.0 c.in-Some.line.now c.in-Some.others.now),
      went_on variables s.0 c.loop-line.self s.2 c.in-Some.line.now line.0 _ c.take_end.new.self (c.in_ok-refused.ensures.comes variables s.2.told s.2.at s.2.count s.2.before) c.in_default-2.is (c.in_ok-refused.ensures.front (ap Ok c.in_default-2.is)),
    )

pub returns-clause-read : goal.returns-clause-read
returns-clause-read c variables text read e =
    let s = c.loop-line.invariant variables text read in
    subst (λ (t : List ℕ). HasRead variables t c.hold.new.self) (sym s.1) (held_on variables s.0 c.loop-line.self s.2 c.hold.new.self c.loop-line.rest.now c.in_default.ensures.none (c.hold.ensures.held e))

pub returns-clause-refused : goal.returns-clause-refused
returns-clause-refused c variables text read = ok_too_long c.hold.result variables c.loop-line.self text c.args.piece.now c.loop-line.rest.now (c.loop-line.invariant variables text read) c.in_default.ensures.none c.hold.ensures.long
