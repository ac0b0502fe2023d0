use Rattle.std.proofs.Common.{arith, ◌≡◌, ◌<◌, ◌≤◌, ◌++◌, ◌∷◌, [], ◌∙◌, List, ℕ, Bool, true, nat_lt, if◌then◌else◌, length, length-append, append_assoc, ap, subst, sym}
use Rattle.clause_base.specs.Derivation.{clauses_of}
use Rattle.clause_base.specs.declared.log.Entry.{Entry}
use Rattle.conflict_analysis.specs.Clauses.{ClausesView, all_clauses, kept_of}
use Rattle.conflict_analysis.specs.Longs.{long_ones}
use Rattle.conflict_analysis.proofs.published.Placed.{length_learned, learned_learn}
use Rattle.conflict_analysis.proofs.Kept.{kept_learn, learned_view, length_kept}
use Rattle.conflict_analysis.proofs.published.Longs.{long_learn}
use Rattle.conflict_analysis.proofs.clauses.Clauses.learn.Goals as goal

pub invariant_of-self-2 : goal.invariant_of-self-2
invariant_of-self-2 c =
    let t = c.self.inside in
    let r = subst (λ (w : ClausesView). length (clauses_of w.log) < 1073741824) (sym c.self.view_is) c.requires.room in
    let given = length t.formula.clauses in
    let all = t.formula.clauses ++ clauses_of t.log in
    let k = c.args.clause.now in
    let read = c.as_slice.result.now in
    let longs_now = long_ones given all (kept_of given t.log) in
    let h = c.args.hints.now in
    let log = c.in_ok-push_shared.ensures.ok in
    let few : length (clauses_of c.push_shared.new.self) ≤ 1073741824 = omega (arith, r, ap (λ (l : List Entry). length (clauses_of l)) log, length_learned t.log k h) in
    let number : c.count-number.result ≡ length all = c.count-number.ensures.value ∙ ap (λ (w : ClausesView). length (all_clauses w)) (sym c.self.view_is) in
    let low : given ≤ length all = omega (arith, length-append t.formula.clauses (clauses_of t.log)) in
    let more : all ++ k ∷ [] ≡ t.formula.clauses ++ clauses_of c.push_shared.new.self =
    append_assoc t.formula.clauses (clauses_of t.log) (k ∷ [])
    ∙ ap (λ (xs : List (List ℕ)). t.formula.clauses ++ xs) (sym (learned_learn t.log k h))
    ∙ ap (λ (l : List Entry). t.formula.clauses ++ clauses_of l) (sym log) in
    let longs : c.add_long.new.longs.items ≡ long_ones given (t.formula.clauses ++ clauses_of c.push_shared.new.self) (kept_of given c.push_shared.new.self) =
    c.add_long.ensures.added
    ∙ ap (λ (xs : List ℕ). if nat_lt 8 (length read) then xs ++ c.count-number.result ∷ [] else xs) c.reserve.ensures.items
    ∙ ap (λ (n : ℕ). if nat_lt 8 (length read) then t.longs.items ++ n ∷ [] else t.longs.items) number
    ∙ ap (λ (xs : List ℕ). if nat_lt 8 (length read) then xs ++ length all ∷ [] else xs) c.self.invariant.1
    ∙ ap (λ (ls : List ℕ). if nat_lt 8 (length ls) then longs_now ++ length all ∷ [] else longs_now) c.as_slice.ensures
    ∙ sym (long_learn given all (kept_of given t.log) k low (length_kept t.formula t.log))
    ∙ ap (λ (xs : List (List ℕ)). long_ones given xs (kept_of given t.log ++ true ∷ [])) more
    ∙ ap (λ (ks : List Bool). long_ones given (t.formula.clauses ++ clauses_of c.push_shared.new.self) ks) (sym (ap (kept_of given) log ∙ kept_learn given t.log k h)) in
    (few, longs)

pub returns-clause-ok : goal.returns-clause-ok
returns-clause-ok c =
    learned_view c.self.inside.formula c.self.inside.log _ c.args.clause.now c.args.hints.now c.in_ok-push_shared.ensures.ok c.self.view_is
