-- The least member that is kept and pending is the first clause that is so.
use Rattle.std.proofs.Common.{arith, ◌≡◌, ℕ, List, length, Bool, true, false, Some, None, Option, refl, sym, ap, ◌∙◌}
use Rattle.clause_base.specs.Clause.{has_literal}
use Rattle.cdcl_defs.specs.declared.event.Event.{Event}
use Rattle.cdcl_defs.specs.State.{clause_at}
use Rattle.cdcl_defs.specs.Pending.{is_pending, is_pending_in}
use Rattle.cdcl_defs.proofs.published.Pending.{first_is, none_is}
use Rattle.bit_sets.specs.Layered.{IsLeast, words_have}
use Rattle.propagation.specs.declared.pending.Pending.{Pending}
use Rattle.propagation.specs.Front.{asked_at, first_asked, IsComplete}
use Rattle.propagation.specs.Pending.{is_pending_on}
use Rattle.propagation.proofs.published.Adds.{kept_in}
use Rattle.propagation.proofs.Filters.{pending_at}

off_by : (a b : Bool) → (a ≡ true → b ≡ true) → b ≡ false → a ≡ false
off_by true b h e = let t : b ≡ true = h refl in sym t ∙ e
off_by false b h e = refl

-- what a clause asks for, or none
asked_by : List (List ℕ) → (ℕ → Bool) → Option ℕ → Option Event
asked_by cl on o = elim o as (λ _. Option Event) [ Some number ↦ Some (asked_at cl on number) | None ↦ None ]

pub first_none : (cl : List (List ℕ)) (kept : List Bool) (trail : List ℕ) (p : Pending) → IsComplete (is_pending_on cl kept trail) p
    → IsLeast (words_have p.numbers) None → None ≡ first_asked cl kept (has_literal trail)
unfolding asked_by
first_none cl kept trail p complete least =
    sym (ap (asked_by cl (has_literal trail)) (none_is (is_pending_in cl kept (has_literal trail)) 0 (length cl)
    (λ r a b. off_by (is_pending_on cl kept trail r) (words_have p.numbers r) (complete r) (least r))))

pub first_some : (cl : List (List ℕ)) (kept : List Bool) (trail : List ℕ) (p : Pending) (number : ℕ) (e : Event) → length kept ≡ length cl
    → IsComplete (is_pending_on cl kept trail) p → IsLeast (words_have p.numbers) (Some number)
    → (is_pending_on cl kept trail number ≡ true) × (e ≡ asked_at cl (has_literal trail) number) → Some e ≡ first_asked cl kept (has_literal trail)
unfolding asked_by
first_some cl kept trail p number e many complete least is =
    let high = kept_in kept number (is_pending (has_literal trail) (clause_at cl number)) (sym (pending_at cl kept trail number) ∙ is.0) in
    ap (λ (x : Event). Some x) is.1
    ∙ sym (ap (asked_by cl (has_literal trail)) (first_is (is_pending_in cl kept (has_literal trail)) 0 (length cl) number
    (record {
      passes = is.0;
      low = omega arith;
      high = omega (arith, high, many);
      first = λ j a b. off_by (is_pending_on cl kept trail j)
          (words_have p.numbers j) (complete j) (least.1 j b);
    })))
