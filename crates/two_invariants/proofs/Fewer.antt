use Rattle.std.proofs.Common.{◌≡◌, ℕ, List, [], ◌++◌, Bool, true, ◌⊎◌, inl, inr}
use Rattle.gt_core.specs.Literal.{opposite}
use Rattle.gt_core.specs.Task.{Effect, Action}
use Rattle.implied_literals.specs.Known.{IsKnown, AllKnown, IsConsistent}
use Rattle.implied_literals.specs.Breaks.{Takes, Loses, Gives, Sure, BreaksBy, Breaks}
use Rattle.implied_literals.proofs.published.Lists.{any_map, all_map}

-- Under a larger set of clauses an action breaks fewer of them.

abbrev pub IsWithin : (ℕ → ℕ → Bool) → (ℕ → ℕ → Bool) → Type 0
IsWithin V W = (l m : ℕ) → V l m ≡ true → W l m ≡ true

module _ (V W : ℕ → ℕ → Bool) (within : IsWithin V W) where
  pub known_more : (base : List ℕ) (m : ℕ) → IsKnown V base m → IsKnown W base m
  known_more base m known set full = known set (record {
    given = full.given;
    single = λ l t. full.single l (within l l t);
    chain = λ x y i t. full.chain x y i (within (opposite x) y t);
  })

  pub all_more : (base lits : List ℕ) → AllKnown V base lits → AllKnown W base lits
  all_more base lits all = all_map _ _ (known_more base) lits all

  pub consistent_less : (base : List ℕ) → IsConsistent W base → IsConsistent V base
  consistent_less base consistent m p q = consistent m (known_more base m p) (known_more base (opposite m) q)

  takes_less : (x : Action) (c : List ℕ) (e : Effect) (l : ℕ) → Takes W x c e l → Takes V x c e l
  takes_less x c e l takes = record {
    against = takes.against;
    consistent = consistent_less (x.precondition ++ (c ++ e.condition)) takes.consistent;
    stands = λ add. all_map _ _ (λ f no is known. no is (all_more (x.precondition ++ (c ++ e.condition)) f.condition known)) x.effects (takes.stands add);
  }

  loses_less : (x : Action) (c : List ℕ) (l : ℕ) → Loses W x c l → Loses V x c l
  loses_less x c l = any_map _ _ (λ e. takes_less x c e l) x.effects

  sure_more : (x : Action) (c : List ℕ) (m : ℕ) → Sure V x c m → Sure W x c m
  sure_more x c m sure = record { stays = λ loses. sure.stays (loses_less x c m loses); holds = step sure.holds }
    where
      step : IsKnown V (x.precondition ++ c) m ⊎ Gives V x c m → IsKnown W (x.precondition ++ c) m ⊎ Gives W x c m
      step (inl known) = inl (known_more (x.precondition ++ c) m known)
      step (inr g) = inr (any_map _ _ (λ e h. (h.0, all_more (x.precondition ++ c) e.condition h.1)) x.effects g)

  by_less : (x : Action) (l m : ℕ) → BreaksBy W x l m → BreaksBy V x l m
  by_less x l m = any_map _ _ (λ e b. (takes_less x [] e l b.0, λ sure. b.1 (sure_more x e.condition m sure))) x.effects

  pub breaks_less : (x : Action) (l m : ℕ) → Breaks W x l m → Breaks V x l m
  breaks_less x l m (inl p) = inl (p.0, loses_less x [] l p.1)
  breaks_less x l m (inr p) = inr (p.0, step p.1)
    where
      step : BreaksBy W x l m ⊎ BreaksBy W x m l → BreaksBy V x l m ⊎ BreaksBy V x m l
      step (inl b) = inl (by_less x l m b)
      step (inr b) = inr (by_less x m l b)
