use Rattle.std.proofs.Common.{◌≡◌, ◌≤◌, ◌++◌, ◌==◌, ◌∙◌, List, ℕ, Bool, not, length, map, filter, ap, sym, subst}
use Rattle.std.specs.List.{list_any}
use Rattle.clause_base.specs.Derivation.{clauses_of}
use Rattle.clause_base.specs.declared.log.Entry.{Entry}
use Rattle.clause_base.specs.declared.log.Entry.TheVariants.{Drop}
use Rattle.conflict_analysis.proofs.published.Placed.{learned_drops}
use Rattle.conflict_analysis.proofs.Kept.{kept_drops, dropped_view}
use Rattle.conflict_analysis.proofs.published.Longs.{long_drop}
use Rattle.conflict_analysis.specs.Clauses.{kept_of}
use Rattle.conflict_analysis.specs.Longs.{long_ones}
use Rattle.conflict_analysis.proofs.clauses.Clauses.drop_all.Goals as goal

pub invariant_of-self : goal.invariant_of-self
invariant_of-self c =
    let t = c.self.inside in
    let given = length t.formula.clauses in
    subst (λ (l : List Entry). (length (clauses_of l) ≤ 1073741824) × (t.longs.items ≡ long_ones given (t.formula.clauses ++ clauses_of l) (kept_of given l))) (sym c.pack.ensures) c.self.invariant

pub invariant_of-self-in_err-push_drops : goal.invariant_of-self-in_err-push_drops
invariant_of-self-in_err-push_drops c =
    let t = c.self.inside in
    let given = length t.formula.clauses in
    subst (λ (l : List Entry). (length (clauses_of l) ≤ 1073741824) × (t.longs.items ≡ long_ones given (t.formula.clauses ++ clauses_of l) (kept_of given l)))
    (sym (c.in_err-push_drops.ensures.err ∙ c.pack.ensures)) c.self.invariant

pub invariant_of-self-2 : goal.invariant_of-self-2
invariant_of-self-2 c =
    let t = c.self.inside in
    let given = length t.formula.clauses in
    let ns = c.args.numbers.now in
    let log = c.in_ok-push_drops.ensures.ok ∙ ap (λ (l : List Entry). l ++ map (λ n. Drop n) ns) c.pack.ensures in
    let kept = kept_of given t.log in
    let same : clauses_of c.push_drops.new.self ≡ clauses_of t.log = ap clauses_of log ∙ learned_drops t.log ns in
    let longs : c.keep_longs.new.longs.items ≡ long_ones given (t.formula.clauses ++ clauses_of c.push_drops.new.self) (kept_of given c.push_drops.new.self) =
    c.keep_longs.ensures
    ∙ ap (λ (ls : List ℕ). filter (λ k. not (list_any (λ n. n == k) ns)) ls) c.self.invariant.1
    ∙ long_drop given (t.formula.clauses ++ clauses_of t.log) kept ns
    ∙ ap (λ (ks : List Bool). long_ones given (t.formula.clauses ++ clauses_of t.log) ks) (sym (ap (kept_of given) log ∙ kept_drops given t.log ns))
    ∙ ap (λ (cs : List (List ℕ)). long_ones given (t.formula.clauses ++ cs) (kept_of given c.push_drops.new.self)) (sym same) in
    (subst (λ (n : ℕ). n ≤ 1073741824) (sym (ap (λ (cs : List (List ℕ)). length cs) same)) c.self.invariant.0, longs)

pub returns-clause-ok : goal.returns-clause-ok
returns-clause-ok c =
    dropped_view c.self.inside.formula c.self.inside.log _ c.args.numbers.now
    (c.in_ok-push_drops.ensures.ok ∙ ap (λ (l : List Entry). l ++ map (λ n. Drop n) c.args.numbers.now) c.pack.ensures) c.self.view_is
