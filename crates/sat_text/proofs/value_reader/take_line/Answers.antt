use Rattle.std.proofs.Common.{◌∙◌, ℕ, true, Some, arith, refl, sym, ap}
use Rattle.sat_text.specs.declared.value_reader.Refused.TheVariants as refused
use Rattle.sat_text.specs.Values.{with_line}
use Rattle.sat_text.proofs.ValueNumbers.{goes_same}
use Rattle.sat_text.proofs.published.ValueReading.{line_long, line_refused, line_taken}
use Rattle.sat_text.proofs.value_reader.take_line.Goals as goal

pub returns-then-is_long : goal.returns-then-is_long
returns-then-is_long c variables told at before b =
    let count_is = b.count_is in
    line_long variables told at before c.args.bytes.now _ _ _ _ (sym c.is_long.ensures ∙ c.if-is_long.true) (ap (λ (n : ℕ). Some (refused.LongLine n)) (omega (arith, count_is)))

pub returns-then-not-take : goal.returns-then-not-take
returns-then-not-take c variables told at before b =
    line_refused variables told at before c.args.bytes.now _ _ _ _ (sym c.is_long.ensures ∙ c.if-is_long.false) c.take.new.self (c.if-not-take.ensures.goes variables told (record { holds = b.has.holds; ended = b.has.ended }))
    (ap (λ (n : ℕ). Some (refused.NoText n)) (c.at-at.ensures ∙ b.at_is))

pub returns : goal.returns
returns c variables told at before b =
    let count_is = b.count_is in
    line_taken variables told at before c.args.bytes.now _ _ _ _ (sym c.is_long.ensures ∙ c.if-is_long.false)
    (goes_same true variables c.take.new.self _ (with_line variables told c.args.bytes.now) refl refl (c.if-not-take.ensures.goes variables told (record { holds = b.has.holds; ended = b.has.ended })))
    refl (c.if-not-take.ensures.taken at b.at_is refl) (omega (arith, count_is))
