use Rattle.std.proofs.Common.{◌≡◌, ◌==◌, ℕ, zero, suc, ◌/◌, ◌<◌, List, [], ◌∷◌, length, reverse, Bool, true, false, not, ◌&&◌, sym, ap, ◌∙◌, subst, filter, if◌then◌else◌, Option, Some, None, unwrap_or, ◌⊎◌, inl, inr}
use Rattle.std.specs.List.{list_any, slice_get, AllByRecursion}
use Rattle.std.proofs.lemmas.List.Elements.{All-from_recursion}
use Rattle.clause_base.specs.Literal.{opposite}
use Rattle.clause_base.specs.Clause.{IsRising, IsClause, HasVariablesBelow}
use Rattle.clause_base.proofs.published.ClauseLemmas.{rising-fold}
use Rattle.cdcl_defs.specs.declared.trail.Assigned.{Assigned}
use Rattle.cdcl_defs.specs.State.{clause_at, is_on, decision_count}
use Rattle.cdcl_defs.specs.Learn.{resolvent, walk, current, Learned, learned}
use Rattle.cdcl_defs.proofs.published.Tests.{or_true, or_split, and_split, not_true, not_split, apart, same_test}
use Rattle.cdcl_defs.proofs.published.Members.{is_in, all_members, none_in, at_clause}
use Rattle.cdcl_defs.proofs.Chain.{is_in-resolvent}
use Rattle.cdcl_defs.specs.Trail.{AllFalse, HasReason, IsTrail}
use Rattle.cdcl_defs.proofs.published.WalkLaw.{Names, opposite_twice}
use Rattle.cdcl_defs.proofs.published.Trails.{is_on-reverse, trail_apart}
use Rattle.cdcl_defs.proofs.published.Orders.{filter_rising}

-- a clause of the walk: sorted, false, with variables in range
pub record IsGood (n : ℕ) (trail : List Assigned) (c : List ℕ) : Type 0 where
  pub rising : IsRising c
  pub refuted : AllFalse trail c
  pub below : (m : ℕ) → is_in c m ≡ true → m / 2 < n

good_resolvent : (n : ℕ) (trail : List Assigned) (clause : List ℕ) (x : ℕ) (forcing : List ℕ) → IsGood n trail clause → ((m : ℕ) → is_in forcing m ≡ true → (m ≡ x) ⊎ (is_on trail (opposite m) ≡ true)) → ((m : ℕ) → is_in forcing m ≡ true → m / 2 < n) → IsGood n trail (resolvent clause x forcing)
good_resolvent n trail clause x forcing g f b = record {
  rising = rising-fold (filter (λ l. not (l == opposite x)) clause) (filter (λ l. not (l == x)) forcing) (filter_rising (λ l. not (l == opposite x)) clause g.rising);
  refuted = λ m e. refuted_by m (split m e);
  below = λ m e. below_by m (split m e);
}
  where
    split : (m : ℕ) → is_in (resolvent clause x forcing) m ≡ true → ((is_in clause m && not (m == opposite x)) ≡ true) ⊎ ((is_in forcing m && not (m == x)) ≡ true)
    split m e = or_split (is_in clause m && not (m == opposite x)) (is_in forcing m && not (m == x)) (sym (is_in-resolvent clause x forcing m) ∙ e)

    other : (m : ℕ) → not (m == x) ≡ true → (m ≡ x) ⊎ (is_on trail (opposite m) ≡ true) → is_on trail (opposite m) ≡ true
    other m k (inl s) = absurd (apart (m == x) (same_test m x s) (not_split (m == x) k))
    other m k (inr s) = s

    refuted_by : (m : ℕ) → ((is_in clause m && not (m == opposite x)) ≡ true) ⊎ ((is_in forcing m && not (m == x)) ≡ true) → is_on trail (opposite m) ≡ true
    refuted_by m (inl p) = g.refuted m (and_split (is_in clause m) (not (m == opposite x)) p).0
    refuted_by m (inr p) = let q = and_split (is_in forcing m) (not (m == x)) p in other m q.1 (f m q.0)

    below_by : (m : ℕ) → ((is_in clause m && not (m == opposite x)) ≡ true) ⊎ ((is_in forcing m && not (m == x)) ≡ true) → m / 2 < n
    below_by m (inl p) = g.below m (and_split (is_in clause m) (not (m == opposite x)) p).0
    below_by m (inr p) = b m (and_split (is_in forcing m) (not (m == x)) p).0

abbrev pub HasMembersBelow : ℕ → List ℕ → Type 0
HasMembersBelow n c = (m : ℕ) → is_in c m ≡ true → m / 2 < n

below_at : (n : ℕ) (clauses : List (List ℕ)) (r : ℕ) (k : List ℕ) → AllByRecursion (HasMembersBelow n) clauses → slice_get clauses r ≡ Some k → HasMembersBelow n k
below_at n [] r k a e = cc
below_at n (c ∷ clauses) zero k a e = let s : c ≡ k = cc in subst (HasMembersBelow n) s a.0
below_at n (c ∷ clauses) (suc r) k a e = below_at n clauses r k a.1 e

good_by : (n : ℕ) (named : ℕ → Option (List ℕ)) (clauses : List (List ℕ)) → Names named clauses → (trail : List Assigned) (a : Assigned) (older : List Assigned) (c : Learned) (found stop : Bool) (o : Option ℕ) → HasReason named older a.literal o → ((l : ℕ) → is_on older l ≡ true → is_on trail l ≡ true) → AllByRecursion (HasMembersBelow n) clauses → IsGood n trail c.clause → ((d : Learned) → IsGood n trail d.clause → IsGood n trail (walk clauses trail older d).clause) → IsGood n trail (if not found then walk clauses trail older c else if stop then c else elim o [ None ↦ c | Some r ↦ walk clauses trail older (record { clause = resolvent c.clause a.literal (clause_at clauses r); hints = r ∷ c.hints }) ]).clause
good_by n named clauses names trail a older c false stop o h w b g on = on c g
good_by n named clauses names trail a older c true true o h w b g on = g
good_by n named clauses names trail a older c true false None h w b g on = g
good_by n named clauses names trail a older c true false (Some r) h w b g on =
    let same : h.clause ≡ clause_at clauses r = sym (ap (λ (o : Option (List ℕ)). unwrap_or o []) (names r h.clause h.is_named)) in
    let new = good_resolvent n trail c.clause a.literal h.clause g (λ m e. widen m (h.others m e)) (below_at n clauses r h.clause b (names r h.clause h.is_named)) in
    on _ (subst (λ (k : List ℕ). IsGood n trail (resolvent c.clause a.literal k)) same new)
  where
    widen : (m : ℕ) → (m ≡ a.literal) ⊎ (is_on older (opposite m) ≡ true) → (m ≡ a.literal) ⊎ (is_on trail (opposite m) ≡ true)
    widen m (inl s) = inl s
    widen m (inr s) = inr (w (opposite m) s)

walk_good : (n : ℕ) (named : ℕ → Option (List ℕ)) (clauses : List (List ℕ)) → Names named clauses → (trail entries : List Assigned) (c : Learned) → IsTrail named entries → ((l : ℕ) → is_on entries l ≡ true → is_on trail l ≡ true) → AllByRecursion (HasMembersBelow n) clauses → IsGood n trail c.clause → IsGood n trail (walk clauses trail entries c).clause
walk_good n named clauses names trail [] c t w b g = g
walk_good n named clauses names trail (a ∷ older) c t w b g =
    let v : (l : ℕ) → is_on older l ≡ true → is_on trail l ≡ true = λ l e. w l (rw e (or_true (a.literal == l))) in
    good_by n named clauses names trail a older c (is_in c.clause (opposite a.literal)) (not (decision_count trail == 0) && (length (current trail c.clause) == 1)) a.reason t.0.reason v b g (λ d k. walk_good n named clauses names trail older d t.1 v b k)

pub learned_good : (n : ℕ) (named : ℕ → Option (List ℕ)) (clauses : List (List ℕ)) → Names named clauses → (trail : List Assigned) (i : ℕ) → IsTrail named (reverse trail) → AllByRecursion (HasMembersBelow n) clauses → IsRising (clause_at clauses i) → AllFalse trail (clause_at clauses i) → IsGood n trail (learned clauses trail i).clause
learned_good n named clauses names trail i t b rising false_ones =
    let below = at_clause (HasMembersBelow n) clauses i (λ m e. let z : false ≡ true = e in cc) b in
    walk_good n named clauses names trail (reverse trail) (record { clause = clause_at clauses i; hints = [] }) t (λ l e. sym (is_on-reverse trail l) ∙ e) b
    (record { rising = rising; refuted = false_ones; below = below })

-- such a clause is lawful
pub good_clause : (n : ℕ) (named : ℕ → Option (List ℕ)) (trail : List Assigned) (c : List ℕ) → IsTrail named (reverse trail) → IsGood n trail c → IsClause c
good_clause n named trail c t g = record {
  rising = g.rising;
  no_pair = none_in (λ l. list_any (λ m. m == opposite l) c) c (λ l e. not_true (is_in c (opposite l)) (λ (f : is_in c (opposite l) ≡ true). both l e f));
}
  where
    both : (l : ℕ) → is_in c l ≡ true → is_in c (opposite l) ≡ true → ⊥
    both l e f =
        let p : is_on (reverse trail) (opposite l) ≡ true = is_on-reverse trail (opposite l) ∙ g.refuted l e in
        let q : is_on (reverse trail) l ≡ true = is_on-reverse trail l ∙ ap (is_on trail) (sym (opposite_twice l)) ∙ g.refuted (opposite l) f in
        trail_apart named (reverse trail) l t q p

pub good_below : (n : ℕ) (trail : List Assigned) (c : List ℕ) → IsGood n trail c → HasVariablesBelow n c
good_below n trail c g = All-from_recursion (λ l. l / 2 < n) c (all_members (λ l. l / 2 < n) c g.below)
