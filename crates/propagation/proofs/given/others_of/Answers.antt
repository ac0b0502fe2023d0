use Rattle.std.proofs.Common.{arith, ◌≡◌, ◌+◌, ◌∙◌, ◌∷◌, ◌++◌, [], ℕ, List, length, sym, subst, refl}
use Rattle.cdcl_defs.specs.State.{clause_at}
use Rattle.propagation.specs.own.Given.{AreRising, IsBeside}
use Rattle.propagation.specs.own.Visit.{AreSlotsBelow}
use Rattle.propagation.proofs.published.Assigns.{equal_of}
use Rattle.propagation.proofs.Slotted.{below_more}
use Rattle.propagation.proofs.Templates.{twos_next, twos_push, rising_push}
use Rattle.propagation.proofs.given.others_of.Goals as goal
use Rattle.propagation.proofs.given.others_of.Goals.{then-not-is_two+in_ok-push, else-not-is_two}

pub loop-number-preserved : goal.loop-number-preserved
loop-number-preserved c =
    let list = c.args.list.now in
    let n = c.loop-number.number in
    let old = c.loop-number.places.items in
    let new = c.if-not-is_two.places.items in
    let i = c.loop-number.invariant in
    elim c.if-not-is_two.branch [
      | then-not-is_two+in_ok-push w ↦
          (let e : new ≡ old ++ n ∷ [] = (let p = w.places-is in let q = w.in_ok-push.ensures.items in cc) in
          record {
            below = subst (AreSlotsBelow (n + 1)) (sym e) (below_more n old n refl i.below);
            rising = rising_push old new n e i.below i.rising;
            twos = twos_push list old new n e i.twos;
          })
      | else-not-is_two w ↦
          (let e : new ≡ old = (let p = w.places-is in cc) in
          let two : length (clause_at list n) ≡ 2 = equal_of (length (clause_at list n)) 2 (sym c.is_two.ensures ∙ w.if-not-is_two.false) in
          record {
            below = subst (AreSlotsBelow (n + 1)) (sym e) (λ s g. omega (arith, i.below s g));
            rising = subst AreRising (sym e) i.rising;
            twos = subst (λ (ps : List ℕ). (j : ℕ) → IsBeside ps (n + 1) j → length (clause_at list j) ≡ 2) (sym e) (twos_next list old n i.twos two);
          })
    ]
