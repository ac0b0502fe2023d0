use Rattle.std.proofs.Common.{arith, ◌≡◌, ℕ, true, sym, subst, inl, inr}
use Rattle.std.specs.Prelude.{slice_index}
use Rattle.std.proofs.lemmas.Bool.{cases_lt}
use Rattle.gt_core.specs.Literal.{is_in}
use Rattle.gt_core.proofs.published.Literals.{in_among}
use Rattle.never_defs.specs.After.{holds_surely}
use Rattle.never_check.proofs.Placed.{place_of}
use Rattle.never_check.proofs.after.still_sure.Goals as goal

pub loop-place-preserved : goal.loop-place-preserved
loop-place-preserved c =
    let ls = c.args.trail.now.literals in
    record {
      sure = c.in_ok-put_sure.ensures.sure;
      all = λ k lt h. elim (cases_lt k c.loop-place.place) [
        | inl below ↦ c.in_ok-put_sure.ensures.more _ (c.loop-place.invariant.all k below h)
        | inr le ↦
            let same : c.loop-place.place ≡ k = omega arith in
            let here : (c.at.result ≡ slice_index ls k) = subst (λ (n : ℕ). c.at.result ≡ slice_index ls n) same c.at.ensures.is in
            subst (λ (n : ℕ). is_in c.put_sure.new.sure.items n ≡ true) here (c.in_ok-put_sure.ensures.one (subst (λ (n : ℕ). holds_surely (is_in ls) c.args.act.now n ≡ true) (sym here) h))
      ];
    }

pub returns-clause-all : goal.returns-clause-all
returns-clause-all c =
    let ls = c.args.trail.now.literals in
    λ m i h.
    let p = place_of ls m (in_among ls m i) in
    let lt = p.1 in
    let end = c.loop-place-test.false in
    let long = c.len-place-end.ensures.is in
    subst (λ (n : ℕ). is_in c.loop-place.sure.items n ≡ true) p.2 (c.loop-place.invariant.all p.0 (omega (arith, lt, end, long)) (subst (λ (n : ℕ). holds_surely (is_in ls) c.args.act.now n ≡ true) (sym p.2) h))
