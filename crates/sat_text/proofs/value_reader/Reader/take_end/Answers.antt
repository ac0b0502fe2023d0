use Rattle.std.proofs.Common.{◌==◌, ◌∙◌, ◌++◌, List, ℕ, length, refl, sym, ap, subst}
use Rattle.std.proofs.lemmas.Bool.{eqb-true}
use Rattle.std.proofs.lemmas.List.{nil_from_length}
use Rattle.sat_text.specs.Stands.{ReaderView, IsBefore}
use Rattle.sat_text.proofs.published.ValueReading.{comes_as}
use Rattle.sat_text.proofs.value_reader.Reader.take_end.Goals as goal

pub returns-then-is_empty-clause-comes : goal.returns-then-is_empty-clause-comes
returns-then-is_empty-clause-comes c variables told at count before =
    let b = subst (IsBefore variables told at count) (sym c.self.view_is) before in
    let none = ap (λ (v : ReaderView). v.front) (sym c.self.view_is) ∙ nil_from_length c.self.inside.front.items (eqb-true (length c.self.inside.front.items) 0 (ap (λ (front : List ℕ). length front == 0) (sym c.as_slice.ensures.value) ∙ (sym c.is_empty.ensures ∙ c.if-is_empty.true))) in
    comes_as variables told at count c.args.end.now (c.args.self.now.front ++ c.args.end.now) (ap (λ (front : List ℕ). front ++ c.args.end.now) (sym none)) c.take_line.result _ _ refl refl refl refl
    (c.take_line.ensures variables told at count (record { has = record { holds = b.has.holds; ended = b.has.ended }; at_is = b.at_is; count_is = b.count_is }))

pub returns-clause-comes : goal.returns-clause-comes
returns-clause-comes c variables told at count before =
    let b = subst (IsBefore variables told at count) (sym c.self.view_is) before in
    let line = c.deref.ensures.value ∙ (c.in_ok-extend_from_slice.ensures.items ∙ ap (λ (v : ReaderView). v.front ++ c.args.end.now) c.self.view_is) in
    comes_as variables told at count c.deref.result.now (c.args.self.now.front ++ c.args.end.now) line c.take_line-refused.result _ _ refl refl refl refl
    (c.take_line-refused.ensures variables told at count (record { has = record { holds = b.has.holds; ended = b.has.ended }; at_is = b.at_is; count_is = b.count_is }))
