use Rattle.std.proofs.Common.{arith, ◌≡◌, ◌≢◌, ◌<◌, ◌∙◌, ℕ, List, [], ◌∷◌, refl, inl, inr, length, get_or, sym, subst}
use Rattle.std.proofs.lemmas.List.{get_or_read}
use Rattle.propagation.specs.own.Asks.{IsAsk}
use Rattle.propagation.proofs.scan.first_ask.Goals as goal

none : (xs : List ℕ) → length xs ≡ 0 → xs ≡ []
none [] e = refl
none (x ∷ xs) e = absurd (omega (arith, e))

pub returns-then-len-eq0 : goal.returns-then-len-eq0
returns-then-len-eq0 c on h = inl (none c.args.clause.now (omega (arith, c.len.ensures, c.if-len-eq0.true)), refl)

pub returns : goal.returns
returns c on h =
    let xs = c.args.clause.now in
    let some : 0 < length xs = omega (arith, c.len.ensures, c.if-len-eq0.false) in
    let e : c.first.inside.0 ≡ get_or xs 0 0 = c.first.view_is ∙ get_or_read xs 0 c.get-first.result some c.get-first.ensures.item 0 in
    subst (λ (l : ℕ). IsAsk on xs l) (sym e) (inr (record {
      place = 0;
      inside = some;
      own = refl;
      others = λ p l ne. let n : p ≢ 0 = ne in h p (omega (arith, n)) l;
    }))
