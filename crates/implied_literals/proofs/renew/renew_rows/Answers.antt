use Rattle.std.proofs.Common.{arith, ◌≡◌, ◌∙◌, ◌==◌, ◌*◌, ◌<◌, ◌⊎◌, inl, inr, subst, sym, true, false, Bool, ℕ, List}
use Rattle.std.proofs.lemmas.Bool.{cases_lt}
use Rattle.bit_sets.specs.Rows.{row_has}
use Rattle.gt_core.proofs.published.Basics.{apart}
use Rattle.implied_literals.specs.Rows.{row_at, clause_in, IsClosure}
use Rattle.implied_literals.specs.Renewed.{WasTold}
use Rattle.implied_literals.proofs.Renewing.{one_more_closed}
use Rattle.implied_literals.proofs.renew.renew_rows.Goals as goal

pub renew_at-requires-clause-done : goal.renew_at-requires-clause-done
renew_at-requires-clause-done c = λ k a lt. elim (cases_lt k c.loop-x.from) [
  | inl l ↦ c.loop-x.invariant.done k a l
  | inr g ↦ absurd (apart (row_has c.args.rules.now.asked.now k) a (c.in-Some.ensures.2 k g lt))
]

pub loop-x-preserved : goal.loop-x-preserved
loop-x-preserved c =
    let i = c.loop-x.invariant in
    let h = c.in-Some.ensures in
    let asked = row_has c.args.rules.now.asked.now in
    let x = c.in-Some.x in
    let one = c.in_ok-renew_at.ensures in
    let below : (k : ℕ) → asked k ≡ true → k < x → IsClosure (clause_in c.args.rules.now.clauses.now) (λ m. k == m) (row_has (row_at c.loop-x.rows.items k)) = λ k a lt. elim (cases_lt k c.loop-x.from) [
      | inl l ↦ i.done k a l
      | inr g ↦ absurd (apart (asked k) a (h.2 k g lt))
    ] in
    record {
      long = one.long ∙ i.long;
      done = λ k a lt. one_more_closed (clause_in c.args.rules.now.clauses.now) c.loop-x.rows.items c.renew_at.new.rows.items x one.others one.closure k lt (below k a);
      left = λ k le. one.others k (λ e. let lo = h.0 in omega arith) ∙ i.left k (let lo = h.0 in omega arith);
      others = λ k n. one.others k (λ e. apart (asked k) (subst (λ (j : ℕ). asked j ≡ true) (sym e) h.1) n) ∙ i.others k n;
      same = λ k f. same_next c.loop-x.rows.items c.renew_at.new.rows.items x one.others (row_has c.renew_at.new.moved) one.same k f ∙ i.same k (one.more k f);
    }
  where
    same_or_not : (a b : ℕ) → (a ≡ b) ⊎ (a ≡ b → ⊥)
    same_or_not a b = grind arith

    same_next : (old new : List (List ℕ)) (x : ℕ) → ((k : ℕ) → (k ≡ x → ⊥) → row_at new k ≡ row_at old k) → (moved : ℕ → Bool) → (moved x ≡ false → row_at new x ≡ row_at old x) → (k : ℕ) → moved k ≡ false → row_at new k ≡ row_at old k
    same_next old new x others moved same k f = by (same_or_not k x)
      where
        by : (k ≡ x) ⊎ (k ≡ x → ⊥) → row_at new k ≡ row_at old k
        by (inl e) = subst (λ (j : ℕ). row_at new j ≡ row_at old j) (sym e) (same (subst (λ (j : ℕ). moved j ≡ false) e f))
        by (inr d) = others k d

pub returns-clause-each : goal.returns-clause-each
returns-clause-each c = λ k a. elim (cases_lt k c.loop-x.from) [
  | inl l ↦ c.loop-x.invariant.done k a l
  | inr g ↦ absurd (apart (row_has c.args.rules.now.asked.now k) a (c.in_default.ensures k g))
]

pub renew_at-requires-clause-was : goal.renew_at-requires-clause-was
renew_at-requires-clause-was c =
    let h = c.in-Some.ensures in
    subst (λ (r : List ℕ). WasTold (clause_in c.args.rules.now.clauses.now) (row_has c.args.stale.now) (2 * c.args.rules.now.facts) c.in-Some.x (row_has r)) (sym (c.loop-x.invariant.left c.in-Some.x h.0)) (c.requires.were c.in-Some.x h.1)

pub renew_at-requires-clause-x : goal.renew_at-requires-clause-x
renew_at-requires-clause-x c = c.requires.asked c.in-Some.x c.in-Some.ensures.1

pub overflow_add-from : goal.overflow_add-from
overflow_add-from c = omega (arith, c.requires.asked c.in-Some.x c.in-Some.ensures.1, c.requires.rules.clauses.few)

pub loop-x-smaller : goal.loop-x-smaller
loop-x-smaller c = omega (arith, c.in-Some.ensures.0, c.requires.asked c.in-Some.x c.in-Some.ensures.1)
