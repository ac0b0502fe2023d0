use Rattle.std.proofs.Common.{◌≡◌, ◌==◌, length, true, sym, ◌∙◌, arith}
use Rattle.std.proofs.lemmas.Bool.Decides.{nat_tests}
use Rattle.std.proofs.lemmas.List.{nil_from_length}
use Rattle.pd_sexp.proofs.published.Views.{view-List, view-Word}
use Rattle.pd_words.proofs.typed.read_typed.Goals as goal

pub returns-in-List : goal.returns-in-List
returns-in-List g c = rw (c.in-Some.ensures.cases.0, c.in-List.is, view-List) at (sym c.loop-item.invariant)

pub returns-in_default-split_first : goal.returns-in_default-split_first
returns-in_default-split_first g c =
    rw (c.in-Some.ensures.cases.0, c.in-Word.is, view-Word, sym c.is_dash.ensures ∙ c.if-is_dash.true, nil_from_length _ c.in_default-split_first.ensures.cases) at (sym c.loop-item.invariant)

pub returns-then-is_empty : goal.returns-then-is_empty
returns-then-is_empty g c =
    let none : (length c.loop-item.waiting.items == 0) ≡ true = grind (arith, nat_tests) in
    rw (c.in-Some.ensures.cases.0, c.in-Word.is, view-Word, sym c.is_dash.ensures ∙ c.if-is_dash.true, c.in-Some-split_first.ensures.cases.0, none) at (sym c.loop-item.invariant)
