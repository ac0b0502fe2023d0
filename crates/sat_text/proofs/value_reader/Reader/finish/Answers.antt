use Rattle.std.proofs.Common.{◌≡◌, ◌∙◌, ℕ, List, length, arith, sym, ap, subst}
use Rattle.sat_text.specs.Lines.{counted, last_part}
use Rattle.sat_text.specs.Stands.{ReaderView, IsBefore}
use Rattle.sat_text.proofs.published.ValueReading.{comes_at, end_refuses, end_values, end_open}
use Rattle.sat_text.proofs.value_reader.Reader.finish.Goals as goal

pub returns-in-Some-clause-refused : goal.returns-in-Some-clause-refused
returns-in-Some-clause-refused c variables text read =
    let b = subst (IsBefore variables read.told read.at read.count) (sym c.self.view_is) read.before in
    let line = c.deref.ensures.value ∙ ap (λ (v : ReaderView). v.front) c.self.view_is in
    let comes = comes_at variables read.told read.at read.count c.deref.result.now c.args.self.now.front line c.take_line.result _ (c.take_line.ensures variables read.told read.at read.count (record { has = record { holds = b.has.holds; ended = b.has.ended }; at_is = b.at_is; count_is = b.count_is })) in
    end_refuses variables text c.args.self.now read c.take_line.result _ _ _ comes c.in-Some.refused c.in-Some.is

pub returns-then-is_ended-clause-values : goal.returns-then-is_ended-clause-values
returns-then-is_ended-clause-values c variables text read none =
    let b = subst (IsBefore variables read.told read.at read.count) (sym c.self.view_is) read.before in
    let line = c.deref.ensures.value ∙ ap (λ (v : ReaderView). v.front) c.self.view_is in
    let comes = comes_at variables read.told read.at read.count c.deref.result.now c.args.self.now.front line c.take_line.result _ (c.take_line.ensures variables read.told read.at read.count (record { has = record { holds = b.has.holds; ended = b.has.ended }; at_is = b.at_is; count_is = b.count_is })) in
    end_values variables text c.args.self.now read c.take_line.result _ _ _ comes c.in_default.is (sym c.is_ended.ensures ∙ c.if-is_ended.true)

pub returns-clause-refused : goal.returns-clause-refused
returns-clause-refused c variables text read =
    let b = subst (IsBefore variables read.told read.at read.count) (sym c.self.view_is) read.before in
    let line = c.deref.ensures.value ∙ ap (λ (v : ReaderView). v.front) c.self.view_is in
    let comes = comes_at variables read.told read.at read.count c.deref.result.now c.args.self.now.front line c.take_line.result _ (c.take_line.ensures variables read.told read.at read.count (record { has = record { holds = b.has.holds; ended = b.has.ended }; at_is = b.at_is; count_is = b.count_is })) in
    let at : c.at-at.result ≡ counted read.at = c.at-at.ensures ∙ b.at_is in
    let long : length c.as_slice.result.now ≡ length (last_part text) = ap (λ (t : List ℕ). length t) c.as_slice.ensures.value ∙ (ap (λ (v : ReaderView). length v.front) c.self.view_is ∙ ap (λ (t : List ℕ). length t) read.front) in
    let begins = read.begins in
    end_open variables text c.args.self.now read c.take_line.result _ _ _ comes c.in_default.is c.saturating_add.result (sym c.is_ended.ensures ∙ c.if-is_ended.false) (omega (arith, at, long, begins))
