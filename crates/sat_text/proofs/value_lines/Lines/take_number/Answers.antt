use Rattle.std.proofs.Common.{◌∙◌, true, sym, ap, subst, refl}
use Rattle.sat_text.specs.Values.{with_number}
use Rattle.sat_text.specs.Stands.{ReaderView, Holds}
use Rattle.sat_text.proofs.ValueNumbers.{ended_none, zero_ends, literal_goes, goes_none, goes_some}
use Rattle.sat_text.proofs.value_lines.Lines.take_number.Goals as goal

pub returns-then-self-clause-goes : goal.returns-then-self-clause-goes
returns-then-self-clause-goes c variables before has =
    let ended = sym has.ended ∙ (sym (ap (λ (v : ReaderView). v.ended) c.self.view_is) ∙ c.if-self.true) in
    goes_none variables c.args.self.now (with_number variables before c.args.told) (ended_none variables before c.args.told ended)

pub returns-then-told-eq0-clause-goes : goal.returns-then-told-eq0-clause-goes
returns-then-told-eq0-clause-goes c variables before has =
    let going = sym has.ended ∙ (sym (ap (λ (v : ReaderView). v.ended) c.self.view_is) ∙ c.if-self.false) in
    let holds = subst (λ (v : ReaderView). Holds variables before.literals v.table) (sym c.self.view_is) has.holds in
    goes_some variables _ (with_number variables before c.args.told) (record { literals = before.literals; ended = true }) (zero_ends variables before c.args.told going c.if-told-eq0.true) (record { holds = holds; ended = refl })

pub returns-clause-goes : goal.returns-clause-goes
returns-clause-goes c variables before has =
    let going = sym has.ended ∙ (sym (ap (λ (v : ReaderView). v.ended) c.self.view_is) ∙ c.if-self.false) in
    let holds = subst (λ (v : ReaderView). Holds variables before.literals v.table) (sym c.self.view_is) has.holds in
    literal_goes variables before c.args.told c.tell.result _ going c.if-told-eq0.false c.if-self.false (c.tell.ensures.taken variables before.literals holds) (c.tell.ensures.refused variables before.literals holds)
