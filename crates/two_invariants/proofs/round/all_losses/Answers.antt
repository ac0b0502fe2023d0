use Rattle.std.proofs.Common.{◌≡◌, ℕ, ◌<◌, ◌-◌, ◌+◌, ◌*◌, ◌∙◌, List, length, ap, sym, arith, rules, Result, IfOk, subst, Vec, Global}
use Rattle.std.specs.List.{range_with_len, AllZip}
use Rattle.std.specs.declared.alloc.AllocError.{AllocError}
use Rattle.std.proofs.lemmas.Grind.{div_ceil_times}
use Rattle.std.proofs.lemmas.Slice.Zip.{AllZip-long}
use Rattle.std.proofs.lemmas.List.FromFn.{length-range_with_len}
use Rattle.rayon.specs.Numbers.{nat_range}
use Rattle.rayon.proofs.ListFacts.{AllZip-weaken, IfOk-then}
use Rattle.rayon.proofs.ToStd.{nat_range-All}
use Rattle.two_invariants.specs.own.Losses.{AreLosses}
use Rattle.two_invariants.proofs.Oks.{collected}
use Rattle.two_invariants.proofs.round.all_losses.Goals as goal

pub collect-requires-clause-ready : goal.collect-requires-clause-ready
collect-requires-clause-ready g c κs within =
    let ends = c.into_par_iter.ensures in
    let n = length c.args.round.now.todo.now in
    let ceil = div_ceil_times n 2048 (omega arith) in
    let count = c.div_ceil.result in
    let inside = nat_range-All (λ p. 2048 * p < n) 0 count (λ p low high. let e = c.div_ceil.ensures in omega (arith, ceil, e, high)) in
    rw (c.map.ensures.base, c.map.ensures.f, c.with_min_len.ensures.base, ends.0, ends.1) (λ k d lt. ((c.requires.can, inside k d lt), λ y p. tt))

pub returns : goal.returns
returns g c =
    let round = c.args.round.now in
    let ends = c.into_par_iter.ensures in
    let count = c.div_ceil.result in
    let size : count - 0 ≡ count = omega arith in
    let said = rw (c.map.ensures.base, c.map.ensures.f, c.with_min_len.ensures.base) at c.in_ok-collect.ensures in
    let P : ℕ → Vec (List ℕ) Global → Type 0 = λ p t. AreLosses round.facts round.known.now round.clauses.now round.acts.now round.todo.now (2048 * p) (2048 * p + 2048) t.items in
    let each = AllZip-weaken _ (λ a (r : Result (Vec (List ℕ) Global) AllocError). IfOk r (P a)) (λ a r h. search rules) said.1.0 said.0 said.1.2 in
    let places = said.1.1 ∙ (λ i. nat_range (ends.0 i) (ends.1 i)) ∙ ap (range_with_len 0) size in
    let here = subst (λ (l : List ℕ). AllZip (λ a (r : Result (Vec (List ℕ) Global) AllocError). IfOk r (P a)) l said.0) places each in
    IfOk-then c.in_ok-collect.field-0 _ _ (collected AllocError P (λ (v : Vec (Vec (List ℕ) Global) Global). v.items) _ said.0 c.in_ok-collect.field-0 here said.2)
    (λ v z.
    let long : length v.items ≡ count = AllZip-long P _ v.items z ∙ length-range_with_len 0 count in
    record {
      enough = (let ceil = div_ceil_times (length round.todo.now) 2048 (omega arith) in let e = c.div_ceil.ensures in omega (arith, ceil, e, long));
      pieces = subst (λ (n : ℕ). AllZip P (range_with_len 0 n) v.items) (sym long) z;
    })
