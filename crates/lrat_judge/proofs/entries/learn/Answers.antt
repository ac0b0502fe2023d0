use Rattle.std.proofs.Common.{◌∙◌, ◌∷◌, [], ◌++◌, List, ℕ, sym, ap, Ok, Some, subst}
use Rattle.clause_base.specs.Clause.{clause_of}
use Rattle.lrat_judge.specs.Ids.{Rises}
use Rattle.sat_text.specs.LratLine.{plain_ids}
use Rattle.lrat_judge.specs.Follow.{numbers_named}
use Rattle.lrat_judge.proofs.Entering.{none_stands, same_stands, clause_foreign, clause_passed, clause_unnamed, clause_falls, with_clause_is, ok_stands, rises_so, rises_not}
use Rattle.lrat_judge.proofs.entries.learn.Goals as goal

pub returns-then-line-clause-exact : goal.returns-then-line-clause-exact
returns-then-line-clause-exact c known view stands held = none_stands _ _ _ _ (clause_foreign c.args.checker.now.formula known view (sym held.foreign ∙ c.if-line.true))

pub returns-in_default-clause-exact : goal.returns-in_default-clause-exact
returns-in_default-clause-exact c known view stands held =
    let none = ap clause_of (sym held.literals ∙ sym c.deref.ensures.value) ∙ (sym c.in_ok-clause.ensures ∙ c.in_default.is) in
    same_stands _ _ _ known _ (clause_passed c.args.checker.now.formula known view (sym held.foreign ∙ c.if-line.false) none) stands

pub returns-then-not-branch-clause-exact : goal.returns-then-not-branch-clause-exact
returns-then-not-branch-clause-exact c known view stands held =
    let is = ap clause_of (sym held.literals ∙ sym c.deref.ensures.value) ∙ (sym c.in_ok-clause.ensures ∙ c.in-Some.is) in
    let none = ap (λ (t : List ℕ). numbers_named t (plain_ids view.hints)) (sym stands.ids_are) ∙ (ap (numbers_named c.args.ids.now) (sym held.hints) ∙ c.in_ok-read_hints.ensures.unnamed (ap Ok c.if-not-branch.true)) in
    none_stands _ _ _ _ (clause_unnamed c.args.checker.now.formula known view (sym held.foreign ∙ c.if-line.false) _ is none)

pub returns-then-not-branch-2-clause-exact : goal.returns-then-not-branch-2-clause-exact
returns-then-not-branch-2-clause-exact c known view stands held =
    let is = ap clause_of (sym held.literals ∙ sym c.deref.ensures.value) ∙ (sym c.in_ok-clause.ensures ∙ c.in-Some.is) in
    let falls = c.in_ok-push.ensures.falls (ap Ok c.if-not-branch-2.true) in
    let none = rises_not view.id known.ids (λ r. falls (subst (λ (ids : List ℕ). Rises c.args.line.now.id ids) (sym stands.ids_are) (subst (λ (id : ℕ). Rises id known.ids) (sym held.id) r))) in
    none_stands _ _ _ _ (clause_falls c.args.checker.now.formula known view (sym held.foreign ∙ c.if-line.false) _ is none)

pub returns-clause-exact : goal.returns-clause-exact
returns-clause-exact c known view stands held =
    let rise = c.in_ok-push.ensures.rises (ap Ok c.if-not-branch-2.false) in
    let rising = rises_so view.id known.ids (subst (λ (ids : List ℕ). Rises view.id ids) stands.ids_are (subst (λ (id : ℕ). Rises id c.args.ids.now) held.id rise)) in
    let is = ap clause_of (sym held.literals ∙ sym c.deref.ensures.value) ∙ (sym c.in_ok-clause.ensures ∙ (c.in-Some.is ∙ ap (λ (clause : List ℕ). Some clause) (sym c.as_slice.ensures.value))) in
    let named = ap (λ (t : List ℕ). numbers_named t (plain_ids view.hints)) (sym stands.ids_are) ∙ (ap (numbers_named c.args.ids.now) (sym held.hints) ∙ (c.in_ok-read_hints.ensures.named (ap Ok c.if-not-branch.false) ∙ ap (λ (hints : List ℕ). Some hints) (sym c.deref-2.ensures.value))) in
    let added = c.in_ok-push.ensures.added (ap Ok c.if-not-branch-2.false) ∙ (ap (λ (ids : List ℕ). ids ++ c.args.line.now.id ∷ []) stands.ids_are ∙ ap (λ (id : ℕ). known.ids ++ id ∷ []) held.id) in
    let same = with_clause_is c.args.checker.now.formula known view (sym held.foreign ∙ c.if-line.false) c.as_slice.result.now is c.deref-2.result.now rising named in
    ok_stands c.learn_counted.result _ c.push.new.self (known.ids ++ view.id ∷ []) _ _ _ (sym same) added (c.learn_counted.ensures.exact known.log stands.taken stands.entries_are)
