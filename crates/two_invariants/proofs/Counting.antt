use Rattle.std.proofs.Common.{arith, ◌≡◌, ◌==◌, ℕ, ◌+◌, ◌*◌, ◌<◌, ◌≤◌, List, Option, Some, None, length, Bool, true, false, ◌&&◌, ap, sym, ◌∙◌, ◌⊎◌, inl, inr, subst}
use Rattle.std.specs.Prelude.{slice_get}
use Rattle.std.specs.List.{list_all}
use Rattle.std.proofs.lemmas.Bool.{cases_lt}
use Rattle.bit_sets.specs.Rows.{row_has}
use Rattle.gt_core.specs.Literal.{opposite}
use Rattle.gt_core.proofs.published.Basics.{and_split, and_both}
use Rattle.implied_literals.specs.Rows.{IsPart}
use Rattle.implied_literals.specs.Tested.{with_more, has_no_pair}
use Rattle.two_invariants.specs.own.Groups.{group_with, GroupFits}
use Rattle.two_invariants.specs.own.Numbers.{finds, FindsMore}
use Rattle.two_invariants.specs.own.Index.{IsNumbered, gives_in, IsGiver, AreGivers, IsTaker, AreTakers}
use Rattle.two_invariants.specs.declared.groups.Group.{Group}
use Rattle.two_invariants.specs.declared.givers.Givers.{Givers}
use Rattle.two_invariants.specs.declared.takers.Takers.{Takers}
use Rattle.two_invariants.proofs.Indexing.{from_place}

-- One more group is noted.

-- a number has one group
pub same_group : (groups : List Group) (n : ℕ) (g h : Group) → slice_get groups n ≡ Some g → slice_get groups n ≡ Some h → g ≡ h
same_group groups n g h one other = ap (of g) (sym one ∙ other)
  where
    of : Group → Option Group → Group
    of d None = d
    of d (Some x) = x

-- what holds of each group below a number and of its own holds below the next
pub one_more : (groups : List Group) (number : ℕ) (group : Group) (P : ℕ → Group → Type 0) → slice_get groups number ≡ Some group → P number group
    → ((n : ℕ) (g : Group) → n < number → IsNumbered groups n g → P n g) → (n : ℕ) (g : Group) → n < number + 1 → IsNumbered groups n g → P n g
one_more groups number group P here own below n g lt at = by (cases_lt n number)
  where
    by : (n < number) ⊎ (number ≤ n) → P n g
    by (inl l) = below n g l at
    by (inr h) =
        let e : number ≡ n = omega arith in
        let same = same_group groups n group g (subst (λ (k : ℕ). slice_get groups k ≡ Some group) e here) at in
        subst (λ (x : Group). P n x) same (subst (λ (k : ℕ). P k group) e own)

module _ (set : ℕ → Bool) (groups : List Group) (number : ℕ) (group : Group) (here : slice_get groups number ≡ Some group) where
  still_giver : (old new : Givers) → IsPart (row_has old.base) (row_has new.base) → FindsMore old.by new.by → (n : ℕ) (g : Group) → IsGiver g n old → IsGiver g n new
  still_giver old new more found n g (inl part) = inl (λ m t. more m (part m t))
  still_giver old new more found n g (inr h) = inr (h.0, (h.1.0, found h.0 n h.1.1))

  pub more_givers : (old new : Givers) → length new.by.lists.items ≡ length old.by.lists.items
      → ((m : ℕ) → row_has new.base m ≡ true → (row_has old.base m ≡ true) ⊎ (gives_in set group m ≡ true)) → IsPart (row_has old.base) (row_has new.base) → FindsMore old.by new.by → IsGiver group number new
      → AreGivers set groups number old → AreGivers set groups (number + 1) new
  more_givers old new long base more found own are = record {
    lists = subst (λ (n : ℕ). 0 < n) (sym long) are.lists;
    base = λ m t. by m (base m t);
    each = one_more groups number group (λ n g. IsGiver g n new) here own (λ n g lt at. still_giver old new more found n g (are.each n g lt at));
  }
    where
      by : (m : ℕ) → (row_has old.base m ≡ true) ⊎ (gives_in set group m ≡ true) → group_with groups m (list_all set) ≡ true
      by m (inl h) = are.base m h
      by m (inr h) = from_place (λ (g : Group). row_has g.literals m && list_all set g.condition.items) groups number group here h

  module _ (facts : ℕ) (rows : List (List ℕ)) (fits : GroupFits (2 * facts) group) where
    still_taker : (old new : Takers) → IsPart (row_has old.plain) (row_has new.plain) → FindsMore old.by new.by → (n : ℕ) (g : Group) → IsTaker facts rows set g n old → IsTaker facts rows set g n new
    still_taker old new more found n g is m o = by (is m o)
      where
        by : (row_has old.plain m ≡ true) ⊎ ((has_no_pair facts (with_more rows set g.condition.items) ≡ false) ⊎ (finds old.by m n ≡ true))
            → (row_has new.plain m ≡ true) ⊎ ((has_no_pair facts (with_more rows set g.condition.items) ≡ false) ⊎ (finds new.by m n ≡ true))
        by (inl h) = inl (more m h)
        by (inr (inl h)) = inr (inl h)
        by (inr (inr h)) = inr (inr (found m n h))

    pub more_takers : (old new : Takers) → length new.by.lists.items ≡ length old.by.lists.items
        → ((m : ℕ) → row_has new.plain m ≡ true → (row_has old.plain m ≡ true) ⊎ ((row_has group.opposites m && (length group.condition.items == 0)) ≡ true))
        → IsPart (row_has old.plain) (row_has new.plain) → FindsMore old.by new.by → IsTaker facts rows set group number new
        → AreTakers facts rows set groups number old → AreTakers facts rows set groups (number + 1) new
    more_takers old new long plain more found own are = record {
      lists = subst (λ (n : ℕ). 0 < n) (sym long) are.lists;
      plain = λ m t. by m (plain m t);
      each = one_more groups number group (λ n g. IsTaker facts rows set g n new) here own (λ n g lt at. still_taker old new more found n g (are.each n g lt at));
    }
      where
        by : (m : ℕ) → (row_has old.plain m ≡ true) ⊎ ((row_has group.opposites m && (length group.condition.items == 0)) ≡ true) → group_with groups (opposite m) (λ c. length c == 0) ≡ true
        by m (inl h) = are.plain m h
        by m (inr h) =
            let p = and_split (row_has group.opposites m) _ h in
            from_place (λ (g : Group). row_has g.literals (opposite m) && (length g.condition.items == 0)) groups number group here
            (and_both _ _ (sym (fits.turned m) ∙ p.0) p.1)
