use Rattle.std.proofs.Common.{arith, ◌≡◌, ◌==◌, ℕ, ◌+◌, ◌<◌, ◌≤◌, List, [], length, take, ◌-◌, Bool, true, false, not, ◌&&◌, ◌||◌, refl, sym, ap, ◌∙◌, subst, ◌⊎◌, inl, inr, set}
use Rattle.std.specs.Prelude.{nat_lt, slice_index_or, Option, Some}
use Rattle.std.proofs.lemmas.List.{length-set, get_or-set_same, get_or-set_other, get_or-take}
use Rattle.std.proofs.lemmas.Bool.{cases_eq}
use Rattle.std.proofs.lemmas.Bool.Decides.{nat_tests}
use Rattle.bit_sets.specs.Rows.{row_has}
use Rattle.gt_core.proofs.published.Basics.{and_split, and_both, not_split, not_false, not_true, or_split, or_left, or_right, same_test, test_same, apart}
use Rattle.action_order.specs.own.Graph.{leads, row_at, IsGraph, class_at, IsClassed}
use Rattle.action_order.specs.own.Quotient.{Crosses, AreUnited, IsWithoutOwn, IsQuotient, AreNames}
use Rattle.action_order.specs.own.Sorting.{AreNamedComponents}

-- The rows of the vertices go into those of their components, and the own vertices out of them.

-- the row of one more vertex
module _ (targets : List (List ℕ)) (classes : List ℕ) (count a : ℕ) (rows : List (List ℕ)) (row : List ℕ) (u : AreUnited targets classes count (a + 1) rows) (lt : a < length targets) (below : class_at classes a < count) (joined : (b : ℕ) → row_has row b ≡ (row_has (row_at rows (class_at classes a)) b || leads targets a b)) where
  abbrev own : ℕ
  own = class_at classes a

  abbrev after : List (List ℕ)
  after = set rows own row

  own_row : row_at after own ≡ row
  own_row = get_or-set_same rows own row [] (let l = u.long in omega arith)

  other_row : (c : ℕ) → (c ≡ own → ⊥) → row_at after c ≡ row_at rows c
  other_row c ne = get_or-set_other rows own c row [] ne

  sound_after : (c b : ℕ) → leads after c b ≡ true → Crosses targets classes c b
  sound_after c b e = elim (cases_eq c own) [
    | inl s ↦
        let here : row_has row b ≡ true = subst (λ (xs : List ℕ). row_has xs b ≡ true) own_row (subst (λ (x : ℕ). leads after x b ≡ true) s e) in
        subst (λ (x : ℕ). Crosses targets classes x b) (sym s) (elim (or_split (leads rows own b) (leads targets a b) (sym (joined b) ∙ here)) [
          | inl i ↦ u.sound own b i
          | inr i ↦ record { source = a; source_below = lt; source_class = refl; edge = i }
        ])
    | inr n ↦ u.sound c b (subst (λ (xs : List ℕ). row_has xs b ≡ true) (other_row c n) e)
  ]

  kept : (c b : ℕ) → leads rows c b ≡ true → leads after c b ≡ true
  kept c b e = elim (cases_eq c own) [
    | inl s ↦ subst (λ (x : ℕ). leads after x b ≡ true) (sym s) (subst (λ (xs : List ℕ). row_has xs b ≡ true) (sym own_row) (joined b ∙ or_left (leads rows own b) (leads targets a b) (subst (λ (x : ℕ). leads rows x b ≡ true) s e)))
    | inr n ↦ subst (λ (xs : List ℕ). row_has xs b ≡ true) (sym (other_row c n)) e
  ]

  complete_after : (x b : ℕ) → a ≤ x → x < length targets → leads targets x b ≡ true → leads after (class_at classes x) b ≡ true
  complete_after x b le lx e = elim (cases_eq x a) [
    | inl s ↦
        subst (λ (y : ℕ). leads after (class_at classes y) b ≡ true) (sym s)
        (subst (λ (xs : List ℕ). row_has xs b ≡ true) (sym own_row) (joined b ∙ or_right (leads rows own b) (leads targets a b) (subst (λ (y : ℕ). leads targets y b ≡ true) s e)))
    | inr n ↦ kept (class_at classes x) b (u.complete x b (omega arith) lx e)
  ]

  pub united_more : AreUnited targets classes count a after
  united_more = record { long = length-set rows own row ∙ u.long; sound = sound_after; complete = complete_after }

-- one more vertex was taken out
pub without_more : (classes : List ℕ) (b : ℕ) (before rows : List (List ℕ)) (row : List ℕ) → IsWithoutOwn classes b before rows → class_at classes b < length before → ((x : ℕ) → row_has row x ≡ (not (b == x) && row_has (row_at rows (class_at classes b)) x)) → IsWithoutOwn classes (b + 1) before (set rows (class_at classes b) row)
without_more classes b before rows row h lt out = record {
  long = length-set rows own row ∙ h.long;
  tells = λ c x. by c x (cases_eq c own);
}
  where
    own : ℕ
    own = class_at classes b

    taken : (x : ℕ) (o t : Bool) → (b == x) ≡ t → (not t && (o && not (nat_lt x b && (class_at classes x == class_at classes b)))) ≡ (o && not (nat_lt x (b + 1) && (class_at classes x == class_at classes b)))
    taken x o true e =
        let same : b ≡ x = test_same b x e in
        let less : nat_lt x (b + 1) ≡ true = grind (arith, nat_tests) in
        let own_class : (class_at classes x == class_at classes b) ≡ true = same_test _ _ (ap (class_at classes) (sym same)) in
        rw (less, own_class) (none o)
      where
        none : (o : Bool) → false ≡ (o && not (true && true))
        none true = refl
        none false = refl
    taken x o false e =
        let less : nat_lt x b ≡ nat_lt x (b + 1) = grind (arith, nat_tests) in
        ap (λ (l : Bool). o && not (l && (class_at classes x == class_at classes b))) less

    others : (c x : ℕ) (o t : Bool) → (c ≡ class_at classes b → ⊥) → (b == x) ≡ t → (o && not (nat_lt x b && (class_at classes x == c))) ≡ (o && not (nat_lt x (b + 1) && (class_at classes x == c)))
    others c x o true n e =
        let same : b ≡ x = test_same b x e in
        let no : (class_at classes x == c) ≡ false = not_true _ (λ t. n (sym (test_same _ _ t) ∙ ap (class_at classes) (sym same))) in
        rw no (neither o (nat_lt x b) (nat_lt x (b + 1)))
      where
        neither : (o l m : Bool) → (o && not (l && false)) ≡ (o && not (m && false))
        neither o true true = refl
        neither o true false = refl
        neither o false true = refl
        neither o false false = refl
    others c x o false n e =
        let less : nat_lt x b ≡ nat_lt x (b + 1) = grind (arith, nat_tests) in
        ap (λ (l : Bool). o && not (l && (class_at classes x == c))) less

    by : (c x : ℕ) → (c ≡ class_at classes b) ⊎ (c ≡ class_at classes b → ⊥) → leads (set rows (class_at classes b) row) c x ≡ (leads before c x && not (nat_lt x (b + 1) && (class_at classes x == c)))
    by c x (inl s) =
        subst (λ (d : ℕ). leads (set rows (class_at classes b) row) d x ≡ (leads before d x && not (nat_lt x (b + 1) && (class_at classes x == d)))) (sym s)
        (ap (λ (xs : List ℕ). row_has xs x) (get_or-set_same rows (class_at classes b) row [] (let l = h.long in omega arith))
        ∙ out x ∙ ap (λ (t : Bool). not (b == x) && t) (h.tells (class_at classes b) x)
        ∙ taken x (leads before (class_at classes b) x) (b == x) refl)
    by c x (inr n) =
        ap (λ (xs : List ℕ). row_has xs x) (get_or-set_other rows (class_at classes b) c row [] n)
        ∙ h.tells c x
        ∙ others c x (leads before c x) (b == x) n refl

pub is_quotient : (targets : List (List ℕ)) (classes roots : List ℕ) (united rows : List (List ℕ)) → IsGraph targets → IsClassed targets classes roots → AreUnited targets classes (length roots) 0 united → IsWithoutOwn classes (length classes) united rows → IsQuotient targets classes (length roots) rows
is_quotient targets classes roots united rows graph classed u o = record {
  long = o.long ∙ u.long;
  sound = λ c b e.
      let p = and_split (leads united c b) _ (sym (o.tells c b) ∙ e) in
      let x = u.sound c b p.0 in (
        x,
        λ s.
            let lt : nat_lt b (length classes) ≡ true = let g = graph x.source b x.edge in let l = classed.long in grind (arith, nat_tests) in
            apart _ (and_both (nat_lt b (length classes)) (class_at classes b == c) lt (same_test _ _ s)) (not_split _ p.1),
      );
  complete = λ a b lt e ne.
      o.tells (class_at classes a) b
      ∙ and_both (leads united (class_at classes a) b) _ (u.complete a b (omega arith) lt e)
      (not_false _ (not_true _ (λ t. ne (test_same _ _ (and_split (nat_lt b (length classes)) _ t).1))));
}

-- the components with their names
pub named_components : (targets : List (List ℕ)) (classes roots : List ℕ) (rows : List (List ℕ)) (names : List ℕ) → IsGraph targets → IsClassed targets classes roots → IsQuotient targets classes (length roots) rows → AreNames classes (length roots) (length classes) names → AreNamedComponents rows names classes
named_components targets classes roots rows names graph classed q n = record {
  vertex = λ c b e. let g = graph (q.sound c b e).0.source b (q.sound c b e).0.edge in let l = classed.long in omega arith;
  falls = λ c b lc e.
      let x = q.sound c b e in
      let le = classed.falls x.0.source b x.0.source_below (graph x.0.source b x.0.edge) x.0.edge in
      let s = x.0.source_class in
      let ne = x.1 in
      omega arith;
  named = n.long ∙ sym q.long;
  apart = λ c d lc ld e.
      let l = q.long in
      sym (n.member c (omega arith)).1 ∙ ap (class_at classes) e ∙ (n.member d (omega arith)).1;
  members = λ c lc. let l = q.long in n.member c (omega arith);
}

-- the last row that is left
pub popped_row : (targets left : List (List ℕ)) (n a : ℕ) (r : Option (List ℕ)) (row : List ℕ) → a + 1 ≡ n → n ≤ length targets → left ≡ take n targets → r ≡ Some (slice_index_or left (n - 1) []) → r ≡ Some row → row ≡ row_at targets a
popped_row targets left n a r row one few is v e =
    let same : Some row ≡ Some (slice_index_or left (n - 1) []) = sym e ∙ v in
    let row_is : row ≡ slice_index_or left (n - 1) [] = cc in
    let last : n - 1 ≡ a = omega arith in
    row_is ∙ ap (λ (k : ℕ). slice_index_or left k []) last ∙ ap (λ (xs : List (List ℕ)). slice_index_or xs a []) is ∙ get_or-take n targets a [] (omega arith)
