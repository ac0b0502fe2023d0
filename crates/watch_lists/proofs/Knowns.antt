-- What is known of the lengths of the trail, as it grows and is taken back and clauses come and go.
use Rattle.std.proofs.Common.{arith, ◌≡◌, ◌==◌, ℕ, ◌+◌, ◌<◌, ◌≤◌, List, [], ◌∷◌, ◌++◌, length, take, set, replicate, Bool, true, false, refl, sym, ap, ◌∙◌, subst}
use Rattle.std.proofs.Common.{length-set, get_or-set_same, get_or-set_other}
use Rattle.std.proofs.lemmas.List.{length_push, length-replicate, length-take-le, take_all, take-append-le, take-take}
use Rattle.clause_base.specs.Clause.{has_literal}
use Rattle.cdcl_defs.specs.declared.trail.Assigned.{Assigned}
use Rattle.cdcl_defs.specs.Pending.{is_pending_in}
use Rattle.cdcl_tables.specs.Assignment.{literals}
use Rattle.propagation.specs.declared.known.PendingUpTo.{PendingUpTo}
use Rattle.propagation.specs.Known.{AreListed}
use Rattle.propagation.specs.Pending.{PropagatorView}
use Rattle.propagation.proofs.published.Adds.{pending_other}
use Rattle.propagation.proofs.published.Assigns.{apart_of, equal_of}
use Rattle.propagation.proofs.published.Removes.{pending_before}
use Rattle.watch_lists.specs.own.Known.{AreKnown, IsKnown, known_at}

-- a length has the same entries on another trail
same_known : (p : PropagatorView) (entries : List Assigned) (n : ℕ) (k : PendingUpTo) → take n entries ≡ take n p.entries → IsKnown p n k
    → IsKnown (record p { entries = entries }) n k
same_known p entries n k e i = record {
  below = i.below;
  listed = subst (λ (es : List Assigned). AreListed (is_pending_in p.clauses p.kept (has_literal (literals es))) k.numbers k.from) (sym e) i.listed;
}

-- nothing has to be known of a trail without entries
pub known_new : (p : PropagatorView) (variables : ℕ) (clauses : List (List ℕ)) (known : List PendingUpTo)
    → p ≡ record { variables = variables; clauses = clauses; kept = replicate (length clauses) true; entries = [] } → length known ≡ variables + 1
    → AreKnown p known
known_new p variables clauses known e size =
    let long = ap (λ (q : PropagatorView). length q.entries) e in
    let over = ap (λ (q : PropagatorView). q.variables) e in
    record {
      kept = ap (λ (q : PropagatorView). length q.kept) e ∙ length-replicate (length clauses) true ∙ sym (ap (λ (q : PropagatorView). length q.clauses) e);
      size = omega (arith, size, over);
      each = λ n b. absurd (omega (arith, b, long));
    }

-- what is known of the whole trail is known of its length once one entry more is there
pub known_push : (p p' : PropagatorView) (known : List PendingUpTo) (here : PendingUpTo) (a : Assigned) → AreKnown p known → length p.entries < length known
    → here.from ≤ length p.clauses → AreListed (is_pending_in p.clauses p.kept (has_literal (literals p.entries))) here.numbers here.from
    → p' ≡ record p { entries = p.entries ++ a ∷ [] } → AreKnown p' (set known (length p.entries) here)
known_push p p' known here a i room below listed e = subst (λ (q : PropagatorView). AreKnown q (set known (length p.entries) here)) (sym e) (record {
  kept = i.kept;
  size = length-set known (length p.entries) here ∙ i.size;
  each = λ n b. by n (omega (arith, b, length_push p.entries a)) (n == length p.entries) refl;
})
  where
    whole : IsKnown p (length p.entries) here
    whole = record {
      below = below;
      listed = subst (λ (es : List Assigned). AreListed (is_pending_in p.clauses p.kept (has_literal (literals es))) here.numbers here.from)
          (sym (take_all (length p.entries) p.entries (omega arith))) listed;
    }

    longer : (n : ℕ) (k : PendingUpTo) → n ≤ length p.entries → IsKnown p n k → IsKnown (record p { entries = p.entries ++ a ∷ [] }) n k
    longer n k h = same_known p (p.entries ++ a ∷ []) n k (take-append-le n p.entries (a ∷ []) h)

    by : (n : ℕ) → n ≤ length p.entries → (b : Bool) → (n == length p.entries) ≡ b
        → IsKnown (record p { entries = p.entries ++ a ∷ [] }) n (known_at (set known (length p.entries) here) n)
    by n h true f =
        subst (λ (m : ℕ). IsKnown (record p { entries = p.entries ++ a ∷ [] }) m (known_at (set known (length p.entries) here) m)) (sym (equal_of n (length p.entries) f))
        (subst (IsKnown (record p { entries = p.entries ++ a ∷ [] }) (length p.entries))
        (sym (get_or-set_same known (length p.entries) here (record { numbers = []; from = 0 }) room)) (longer (length p.entries) here (omega arith) whole))
    by n h false f =
        let ne = apart_of n (length p.entries) f in
        subst (IsKnown (record p { entries = p.entries ++ a ∷ [] }) n) (sym (get_or-set_other known (length p.entries) n here (record { numbers = []; from = 0 }) ne))
        (longer n (known_at known n) h (i.each n (omega (arith, h, ne))))

-- the entry is put on the trail as it was
pub pushed : (p q r : PropagatorView) (a : Assigned) → q ≡ p → r ≡ record q { entries = q.entries ++ a ∷ [] } → r ≡ record p { entries = p.entries ++ a ∷ [] }
pushed p q r a s e = e ∙ ap (λ (x : PropagatorView). let y : PropagatorView = record x { entries = x.entries ++ a ∷ [] } in y) s

-- the trail goes back
pub known_cut : (p p' : PropagatorView) (known : List PendingUpTo) (m : ℕ) → AreKnown p known → m < length p.entries
    → p' ≡ record p { entries = take m p.entries } → AreKnown p' known
known_cut p p' known m i h e = subst (λ (q : PropagatorView). AreKnown q known) (sym e) (record {
  kept = i.kept;
  size = i.size;
  each = λ n b.
      let n_less : n < m = omega (arith, b, length-take-le m p.entries (omega (arith, h))) in
      same_known p (take m p.entries) n (known_at known n) (take-take n m p.entries (omega (arith, n_less))) (i.each n (omega (arith, n_less, h)));
})

-- a clause more is there
pub known_add : (p p' : PropagatorView) (known : List PendingUpTo) (clause : List ℕ) → AreKnown p known
    → p' ≡ record p { clauses = p.clauses ++ clause ∷ []; kept = p.kept ++ true ∷ [] } → AreKnown p' known
known_add p p' known clause i e = subst (λ (q : PropagatorView). AreKnown q known) (sym e) (record {
  kept = omega (arith, i.kept, length_push p.kept true, length_push p.clauses clause);
  size = i.size;
  each = λ n b.
      let was = i.each n b in
      record {
        below = omega (arith, was.below, length_push p.clauses clause);
        listed = λ k q h. was.listed k (sym (pending_other p.clauses clause p.kept (literals (take n p.entries)) k i.kept
            (λ (z : k ≡ length p.clauses). absurd (omega (arith, z, h, was.below)))) ∙ q) h;
      };
})

-- a clause is no longer kept
pub known_remove : (p p' : PropagatorView) (known : List PendingUpTo) (number : ℕ) → AreKnown p known
    → p' ≡ record p { kept = set p.kept number false } → AreKnown p' known
known_remove p p' known number i e = subst (λ (q : PropagatorView). AreKnown q known) (sym e) (record {
  kept = length-set p.kept number false ∙ i.kept;
  size = i.size;
  each = λ n b.
      let was = i.each n b in
      record {
        below = was.below;
        listed = λ k q h. was.listed k (pending_before p.clauses p.kept (literals (take n p.entries)) number k q) h;
      };
})

-- nothing changes
pub known_same : (p p' : PropagatorView) (known : List PendingUpTo) → p' ≡ p → AreKnown p known → AreKnown p' known
known_same p p' known e i = subst (λ (q : PropagatorView). AreKnown q known) (sym e) i
