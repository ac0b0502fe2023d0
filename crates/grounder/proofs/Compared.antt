-- Numbers and effects that are sorted, each once, are the sorted sets of the definitions.
use Rattle.std.proofs.Common.{rules, arith, ◌≡◌, ℕ, zero, suc, ◌<◌, ◌==◌, List, [], ◌∷◌, Bool, true, false, cond, ◌&&◌, ◌||◌, refl, ap, sym, ◌∙◌, subst, map, length, inl, inr, IsTrue}
use Rattle.std.specs.Prelude.{nat_lt, nat_eq, slice_index_or, Option, Some, ◌+◌}
use Rattle.std.specs.List.{list_any, dedup, Contains, AllByRecursion, IsAllAdjacentAnswer}
use Rattle.std.specs.List.Sorted.{IsStrictlySortedBy, IsPermutation}
use Rattle.std.specs.List.Sorted as sort
use Rattle.std.specs.declared.cmp.Ordering.{Ordering}
use Rattle.std.specs.declared.cmp.Ordering.TheVariants.{Less, Equal, Greater}
use Rattle.std.specs.Ordering.{is_eq, is_lt, is_le, is_some_and, ordering_then, partial_ordering_then, ordering_reverse, nat_cmp}
use Rattle.std.specs.Cmp.{IsTotalOrder, IsEquivalence, Agrees, then_agrees, nat_cmp_total, nat_eq_equiv, unsigned_ties}
use Rattle.std.specs.Cmp.Rules.{comparing}
use Rattle.std.specs.Cmp.Lexicographic.{slice_cmp, slice_partial_cmp, lists_agrees, texts_ties}
use Rattle.std.specs.Str.{bytes_eq as same_numbers}
use Rattle.std.proofs.lemmas.Bool.{and_parts, and_from, eqb-true, eq-eqb, false≢true}
use Rattle.std.proofs.lemmas.Slice.Eq.{bytes_eq-Decides}
use Rattle.std.proofs.lemmas.List.Kept.{Any-dedup, Contains-from_dedup, IsStrictlySortedBy-dedup}
use Rattle.std.proofs.lemmas.List.Sorted.{Contains-permutation, IsPermutation-sym}
use Rattle.std.proofs.lemmas.Map.Keys.{sorted_head, sorted_tail}
use Rattle.gt_core.specs.Task.{Effect}
use Rattle.gt_core.specs.Lawful.{list_less, effect_less}
use Rattle.gt_core.proofs.published.Basics.{Among, same_if}
use Rattle.gt_core.proofs.published.Pairwise.{among_map}
use Rattle.pd_model.proofs.published.Equality.{is_eq-then}
use Rattle.grounding_defs.specs.Sorted.{IsSorted, sorted_set}
use Rattle.grounding_defs.proofs.published.Orders.{IsOrder, numbers, effects}
use Rattle.grounding_defs.proofs.published.Sets.{unique, is_sorted, sorted_among, among_sorted}
use Rattle.atom_join.proofs.published.Order.{by_first, less_list}
use Rattle.atom_join.proofs.published.Rising.{deduped_rise}
use Rattle.grounder.specs.declared.effects.Keyed.{Keyed}
use Rattle.grounder.specs.own.Putting.{effect_at, effects_at}

-- ---- who is among the elements

among_at : {X : Type 0} (xs : List X) (k : ℕ) (d x : X) → k < length xs → slice_index_or xs k d ≡ x → Among x xs
among_at [] k d x lt at = absurd (omega (arith, lt))
among_at (y ∷ xs) zero d x lt at = inl (sym at)
among_at (y ∷ xs) (suc k) d x lt at = inr (among_at xs k d x (omega (arith, lt)) at)

contained : {X : Type 0} (xs : List X) (x : X) → Contains xs x → Among x xs
contained xs x h = among_at xs h.0 x x h.1 h.2

contains : {X : Type 0} (xs : List X) (x : X) → Among x xs → Contains xs x
contains [] x a = absurd a
contains (y ∷ xs) x (inl e) = (0, omega arith, sym e)
contains (y ∷ xs) x (inr a) = let h = contains xs x a in (suc h.0, omega (arith, h.1), h.2)

map_among : {X Y : Type 0} (f : X → Y) (xs : List X) (y : Y) → Among y (map f xs) → (x : X) × Among x xs × (y ≡ f x)
map_among f [] y a = absurd a
map_among f (x ∷ xs) y (inl e) = (x, inl refl, e)
map_among f (x ∷ xs) y (inr a) = let h = map_among f xs y a in (h.0, inr h.1, h.2)

-- a list in order with the members of another one is its sorted set
sorted_is : {X : Type 0} (less : X → X → Bool) → IsOrder less → (old new : List X) → IsSorted less new → ((x : X) → Among x new → Among x old) → ((x : X) → Among x old → Among x new) → new ≡ sorted_set less old
sorted_is less order old new rises from to =
    unique less order new (sorted_set less old) rises (is_sorted less order old) (λ x a. among_sorted less order old x (from x a)) (λ x a. to x (sorted_among less order old x a))

-- ---- what stays when a list is sorted and its repeats are left out

module _ {X : Type 0} (E : X → X → Bool) (laws : IsEquivalence E) (old ordered new : List X) (permuted : IsPermutation old ordered) (is : new ≡ dedup E ordered) where
  -- each element that is left was there
  left_was : (x : X) → Among x new → Among x old
  left_was x a =
      contained old x (Contains-permutation ordered old x (IsPermutation-sym old ordered permuted) (Contains-from_dedup E ordered x (subst (λ (xs : List X). Contains xs x) is (contains new x a))))

  -- for each one that was there an equal one is left
  was_left : (x : X) → Among x old → (y : X) × Among y new × (E x y ≡ true)
  was_left x a =
      let h = Any-dedup laws ordered x (Contains-permutation old ordered x permuted (contains old x a)) in
      (h.1, subst (λ (xs : List X). Among h.1 xs) (sym is) (among_at (dedup E ordered) h.0 h.1 h.1 h.2 h.3), h.4)

-- ---- numbers

pub numbers_sorted : (old ordered new : List ℕ) → IsPermutation old ordered → sort.IsSorted nat_cmp ordered → new ≡ dedup nat_eq ordered → new ≡ sorted_set nat_lt old
numbers_sorted old ordered new permuted order is =
    sorted_is nat_lt numbers old new (subst (IsSorted nat_lt) (sym is) (deduped_rise ordered order))
    (left_was nat_eq nat_eq_equiv old ordered new permuted is)
    (λ x a. let h = was_left nat_eq nat_eq_equiv old ordered new permuted is x a in subst (λ (y : ℕ). Among y new) (sym (eqb-true x h.0 h.2)) h.1)

-- ---- effects

abbrev pub key_cmp : Keyed → Keyed → Ordering
key_cmp k l = ordering_then (nat_cmp k.literal l.literal) (slice_cmp nat_cmp k.condition.items l.condition.items)

abbrev pub same_key : Keyed → Keyed → Bool
same_key k l = (k.literal == l.literal) && same_numbers k.condition.items l.condition.items

tied : (k l : Keyed) → is_eq (key_cmp k l) ≡ same_key k l
tied k l =
    is_eq-then (nat_cmp k.literal l.literal) (slice_cmp nat_cmp k.condition.items l.condition.items)
    ∙ λ i. sym (unsigned_ties k.literal l.literal) i && sym (texts_ties k.condition.items l.condition.items) i

-- equal keys stand for one effect
key_is : (k l : Keyed) → same_key k l ≡ true → effect_at k ≡ effect_at l
key_is k l h =
    let parts = and_parts (k.literal == l.literal) (same_numbers k.condition.items l.condition.items) h in
    let literal = eqb-true k.literal l.literal parts.0 in
    let condition = (bytes_eq-Decides k.condition.items l.condition.items).0 parts.1 in
    λ i. record { condition = condition i; literal = literal i }

abbrev same_effect : Effect → Effect → Bool
same_effect d e = (d.literal == e.literal) && same_numbers d.condition e.condition

itself : (k : Keyed) → same_key k k ≡ true
itself k = and_from _ _ (eq-eqb k.literal k.literal refl) ((bytes_eq-Decides k.condition.items k.condition.items).1 refl)

equivalence : IsEquivalence same_key
equivalence = record {
  refl = itself;
  symm = λ k l. same_if _ _ (turned k l) (turned l k);
  congr = λ k l m h i. same_effect (key_is k l h i) (effect_at m);
}
  where
    turned : (k l : Keyed) → same_key k l ≡ true → same_key l k ≡ true
    turned k l h = subst (λ (e : Effect). same_effect e (effect_at k) ≡ true) (key_is k l h) (itself k)

total : IsTotalOrder key_cmp
total = search (comparing, rules)

less_key : (k l : Keyed) → is_lt (key_cmp k l) ≡ effect_less (effect_at k) (effect_at l)
less_key k l =
    by_first (nat_lt k.literal l.literal) (k.literal == l.literal) (slice_cmp nat_cmp k.condition.items l.condition.items) (list_less k.condition.items l.condition.items)
    (less_list k.condition.items l.condition.items)

all_less : (k : Keyed) (keys : List Keyed) → AllByRecursion (λ l. key_cmp k l ≡ Less) keys → AllByRecursion (λ e. IsTrue (effect_less (effect_at k) e)) (effects_at keys)
all_less k [] h = tt
all_less k (l ∷ keys) h = (sym (less_key k l) ∙ ap is_lt h.0, all_less k keys h.1)

keys_rise : (keys : List Keyed) → IsStrictlySortedBy key_cmp keys → IsSorted effect_less (effects_at keys)
keys_rise [] h = tt
keys_rise (k ∷ keys) h = (all_less k keys (sorted_head key_cmp k keys h), keys_rise keys (sorted_tail key_cmp k keys h))

pub effects_sorted : (old ordered new : List Keyed) → IsPermutation old ordered → sort.IsSorted key_cmp ordered → new ≡ dedup same_key ordered → effects_at new ≡ sorted_set effect_less (effects_at old)
effects_sorted old ordered new permuted order is =
    sorted_is effect_less effects (effects_at old) (effects_at new)
    (keys_rise new (subst (IsStrictlySortedBy key_cmp) (sym is) (IsStrictlySortedBy-dedup total (λ k l. sym (tied k l)) ordered order)))
    (λ e a.
    let h = map_among effect_at new e a in
    subst (λ (d : Effect). Among d (effects_at old)) (sym h.2) (among_map effect_at old h.0 (left_was same_key equivalence old ordered new permuted is h.0 h.1)))
    (λ e a.
    let h = map_among effect_at old e a in
    let l = was_left same_key equivalence old ordered new permuted is h.0 h.1 in
    subst (λ (d : Effect). Among d (effects_at new)) (sym (h.2 ∙ key_is h.0 l.0 l.2)) (among_map effect_at new l.0 l.1))

abbrev pub key_partial_cmp : Keyed → Keyed → Option Ordering
key_partial_cmp k l = partial_ordering_then (Some (nat_cmp k.literal l.literal)) (slice_partial_cmp (λ x y. Some (nat_cmp x y)) k.condition.items l.condition.items)

agree : Agrees key_partial_cmp key_cmp
agree = then_agrees (λ k l. refl) (λ k l. lists_agrees (λ x y. refl) k.condition.items l.condition.items)

-- effects of which none is greater than the next one are in order
pub in_order_already : (keys : List Keyed) (r : Bool) → IsAllAdjacentAnswer (λ x y b. is_some_and is_le (key_partial_cmp x y) ≡ b) keys r → r ≡ true → sort.IsSorted key_cmp keys
in_order_already keys false h e = absurd (false≢true e)
in_order_already keys true h e = λ k d from below.
    let x = slice_index_or keys k d in
    let y = slice_index_or keys (k + 1) d in
    not_before (key_cmp y x) (key_cmp x y) (total.antisymm y x) (sym (ap (is_some_and is_le) (agree x y)) ∙ h k d below)
  where
    not_before : (back forth : Ordering) → back ≡ ordering_reverse forth → is_le forth ≡ true → is_lt back ≡ false
    not_before back Less e t = ap is_lt e
    not_before back Equal e t = ap is_lt e
    not_before back Greater e t = absurd (false≢true t)
