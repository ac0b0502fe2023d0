use Rattle.std.proofs.Common.{arith, ◌≡◌, ◌==◌, ℕ, List, [], ◌∷◌, ◌++◌, length, Bool, true, false, not, ◌||◌, ◌&&◌, refl, sym, ap, ◌∙◌, subst, if◌then◌else◌, Option, Some, None, ◌⊎◌, inl, inr, unwrap_or, reverse}
use Rattle.std.specs.List.{slice_get, AllByRecursion}
use Rattle.std.proofs.lemmas.Bool.Decides.{nat_tests}
use Rattle.clause_base.specs.Literal.{opposite}
pub use Rattle.containers.proofs.published.CodeLaw.{opposite_twice}
use Rattle.clause_base.specs.Clause.{IsRising}
use Rattle.clause_base.specs.Derivation.{leads_to_conflict}
use Rattle.cdcl_defs.specs.declared.trail.Assigned.{Assigned}
use Rattle.cdcl_defs.specs.State.{clause_at, is_on, decision_count}
use Rattle.cdcl_defs.specs.Trail.{IsReason, HasReason, IsEntry, IsTrail}
use Rattle.cdcl_defs.specs.Learn.{resolvent, walk, current, Learned, learned}
use Rattle.cdcl_defs.proofs.published.Tests.{or_split, or_none, and_split, not_split, not_true, apart, same_test, test_same}
use Rattle.cdcl_defs.proofs.published.Members.{is_in}
use Rattle.cdcl_defs.proofs.Chain.{IsFresh, Chain, chain_resolved, chain_leads, is_in-resolvent, is_in-push}

-- what the walk keeps, over the entries that are left
pub record IsWalk (named : ℕ → Option (List ℕ)) (entries : List Assigned) (i : ℕ) (c : Learned) : Type 0 where
  pub forced : List ℕ
  pub chain : Chain named c.clause (c.hints ++ i ∷ []) forced
  pub refuted : (m : ℕ) → is_in c.clause m ≡ true → is_on entries (opposite m) ≡ true
  pub later : AllByRecursion (λ l. (is_on entries l ≡ false) × (is_on entries (opposite l) ≡ false)) forced

older_later : (a : Assigned) (older : List Assigned) (ls : List ℕ) → AllByRecursion (λ l. (is_on (a ∷ older) l ≡ false) × (is_on (a ∷ older) (opposite l) ≡ false)) ls → AllByRecursion (λ l. (is_on older l ≡ false) × (is_on older (opposite l) ≡ false)) ls
older_later a older [] h = tt
older_later a older (l ∷ ls) h = (((or_none (a.literal == l) (is_on older l) h.0.0).1, (or_none (a.literal == opposite l) (is_on older (opposite l)) h.0.1).1), older_later a older ls h.1)

-- an entry whose opposite is not in the clause is passed over
passed : (named : ℕ → Option (List ℕ)) (a : Assigned) (older : List Assigned) (i : ℕ) (c : Learned) → is_in c.clause (opposite a.literal) ≡ false → IsWalk named (a ∷ older) i c → IsWalk named older i c
passed named a older i c off w = record {
  forced = w.forced;
  chain = w.chain;
  refuted = λ m e. by m e (or_split (a.literal == opposite m) (is_on older (opposite m)) (w.refuted m e));
  later = older_later a older w.forced w.later;
}
  where
    by : (m : ℕ) → is_in c.clause m ≡ true → ((a.literal == opposite m) ≡ true) ⊎ (is_on older (opposite m) ≡ true) → is_on older (opposite m) ≡ true
    by m e (inr h) = h
    by m e (inl h) =
        let s : a.literal ≡ opposite m = grind (arith, nat_tests) in
        let t : opposite a.literal ≡ m = ap opposite s ∙ opposite_twice m in
        let u : is_in c.clause m ≡ false = ap (is_in c.clause) (sym t) ∙ off in
        cc

opposite_of : (l m : ℕ) → l ≡ opposite m → opposite l ≡ m
opposite_of l m e = ap opposite e ∙ opposite_twice m

-- the literals of a resolvent were false before the entry
pub resolvent_refuted : (a : Assigned) (older : List Assigned) (clause forcing : List ℕ) → ((m : ℕ) → is_in clause m ≡ true → is_on (a ∷ older) (opposite m) ≡ true) → ((m : ℕ) → is_in forcing m ≡ true → (m ≡ a.literal) ⊎ (is_on older (opposite m) ≡ true)) → (m : ℕ) → is_in (resolvent clause a.literal forcing) m ≡ true → is_on older (opposite m) ≡ true
resolvent_refuted a older clause forcing h k m e =
    by (or_split (is_in clause m && not (m == opposite a.literal)) (is_in forcing m && not (m == a.literal)) (sym (is_in-resolvent clause a.literal forcing m) ∙ e))
  where
    old : (m == opposite a.literal) ≡ false → ((a.literal == opposite m) ≡ true) ⊎ (is_on older (opposite m) ≡ true) → is_on older (opposite m) ≡ true
    old d (inr x) = x
    old d (inl x) = absurd (apart (m == opposite a.literal) (same_test m (opposite a.literal) (sym (opposite_of a.literal m (test_same a.literal (opposite m) x)))) d)

    new : (m == a.literal) ≡ false → (m ≡ a.literal) ⊎ (is_on older (opposite m) ≡ true) → is_on older (opposite m) ≡ true
    new d (inr x) = x
    new d (inl x) = absurd (apart (m == a.literal) (same_test m a.literal x) d)

    by : ((is_in clause m && not (m == opposite a.literal)) ≡ true) ⊎ ((is_in forcing m && not (m == a.literal)) ≡ true) → is_on older (opposite m) ≡ true
    by (inl x) =
        let p = and_split (is_in clause m) (not (m == opposite a.literal)) x in
        old (not_split (m == opposite a.literal) p.1) (or_split (a.literal == opposite m) (is_on older (opposite m)) (h m p.0))
    by (inr x) =
        let p = and_split (is_in forcing m) (not (m == a.literal)) x in
        new (not_split (m == a.literal) p.1) (k m p.0)

none_of : (a b : Bool) → a ≡ false → b ≡ false → (a || b) ≡ false
none_of true b e f = cc
none_of false b e f = f

fresh_one : (a : Assigned) (older : List Assigned) (clause : List ℕ) (l : ℕ) → ((m : ℕ) → is_in clause m ≡ true → is_on older (opposite m) ≡ true) → is_on (a ∷ older) l ≡ false → is_on (a ∷ older) (opposite l) ≡ false → IsFresh (clause ++ opposite a.literal ∷ []) l
fresh_one a older clause l r f g =
    let p = or_none (a.literal == l) (is_on older l) f in
    let q = or_none (a.literal == opposite l) (is_on older (opposite l)) g in (
      is_in-push clause (opposite a.literal) l ∙ none_of (is_in clause l) (opposite a.literal == l)
          (not_true (is_in clause l) (λ (t : is_in clause l ≡ true). apart (is_on older (opposite l)) (r l t) q.1))
          (not_true (opposite a.literal == l) (λ (t : (opposite a.literal == l) ≡ true). apart (a.literal == opposite l) (same_test a.literal (opposite l) (sym (opposite_twice a.literal) ∙ ap opposite (test_same (opposite a.literal) l t))) q.0)),
      is_in-push clause (opposite a.literal) (opposite l) ∙ none_of (is_in clause (opposite l)) (opposite a.literal == opposite l)
          (not_true (is_in clause (opposite l)) (λ (t : is_in clause (opposite l) ≡ true). apart (is_on older l) (ap (is_on older) (sym (opposite_twice l)) ∙ r (opposite l) t) p.1))
          (not_true (opposite a.literal == opposite l) (λ (t : (opposite a.literal == opposite l) ≡ true). apart (a.literal == l) (same_test a.literal l (sym (opposite_twice a.literal) ∙ opposite_of (opposite a.literal) l (test_same (opposite a.literal) (opposite l) t))) p.0)),
    )

fresh_all : (a : Assigned) (older : List Assigned) (clause : List ℕ) (ls : List ℕ) → ((m : ℕ) → is_in clause m ≡ true → is_on older (opposite m) ≡ true) → AllByRecursion (λ l. (is_on (a ∷ older) l ≡ false) × (is_on (a ∷ older) (opposite l) ≡ false)) ls → AllByRecursion (IsFresh (clause ++ opposite a.literal ∷ [])) ls
fresh_all a older clause [] r h = tt
fresh_all a older clause (l ∷ ls) r h = (fresh_one a older clause l r h.0.0 h.0.1, fresh_all a older clause ls r h.1)

-- to resolve on an entry keeps the walk
resolved : (named : ℕ → Option (List ℕ)) (a : Assigned) (older : List Assigned) (i r : ℕ) (c : Learned) → IsEntry named a older → (reason : IsReason named older a.literal r) → IsWalk named (a ∷ older) i c → IsWalk named older i (record { clause = resolvent c.clause a.literal reason.clause; hints = r ∷ c.hints })
resolved named a older i r c entry reason w =
    let refuted = resolvent_refuted a older c.clause reason.clause w.refuted reason.others in
    let x = a.literal in
    let new = resolvent c.clause a.literal reason.clause in
    let fresh : IsFresh new x = (
      not_true (is_in new x) (λ (t : is_in new x ≡ true). apart (is_on older (opposite x)) (refuted x t) entry.free),
      not_true (is_in new (opposite x)) (λ (t : is_in new (opposite x) ≡ true). apart (is_on older x) (ap (is_on older) (sym (opposite_twice x)) ∙ refuted (opposite x) t) entry.off),
    ) in
    record {
      forced = x ∷ w.forced;
      chain = chain_resolved named c.clause reason.clause (c.hints ++ i ∷ []) w.forced x r reason.is_named reason.has fresh (fresh_all a older new w.forced refuted w.later) w.chain;
      refuted = refuted;
      later = ((entry.off, entry.free), older_later a older w.forced w.later);
    }

-- the clauses that are named are among these, at their numbers
abbrev pub Names : (ℕ → Option (List ℕ)) → List (List ℕ) → Type 0
Names named clauses = (n : ℕ) (k : List ℕ) → named n ≡ Some k → slice_get clauses n ≡ Some k

abbrev pub Ends : (ℕ → Option (List ℕ)) → ℕ → Learned → Type 0
Ends named i c = (forced : List ℕ) × Chain named c.clause (c.hints ++ i ∷ []) forced

walk_by : (named : ℕ → Option (List ℕ)) (clauses : List (List ℕ)) → Names named clauses → (trail : List Assigned) (a : Assigned) (older : List Assigned) (i : ℕ) (c : Learned) (found stop : Bool) (o : Option ℕ) → is_in c.clause (opposite a.literal) ≡ found → IsEntry named a older → HasReason named older a.literal o → IsWalk named (a ∷ older) i c → ((d : Learned) → IsWalk named older i d → Ends named i (walk clauses trail older d)) → Ends named i (if not found then walk clauses trail older c else if stop then c else elim o [ None ↦ c | Some r ↦ walk clauses trail older (record { clause = resolvent c.clause a.literal (clause_at clauses r); hints = r ∷ c.hints }) ])
walk_by named clauses names trail a older i c false stop o f entry reason w on = on c (passed named a older i c f w)
walk_by named clauses names trail a older i c true true o f entry reason w on = (w.forced, w.chain)
walk_by named clauses names trail a older i c true false None f entry reason w on = (w.forced, w.chain)
walk_by named clauses names trail a older i c true false (Some r) f entry reason w on =
    let same : reason.clause ≡ clause_at clauses r = sym (ap (λ (o : Option (List ℕ)). unwrap_or o []) (names r reason.clause reason.is_named)) in
    let next = subst (λ (k : List ℕ). IsWalk named older i (record { clause = resolvent c.clause a.literal k; hints = r ∷ c.hints })) same (resolved named a older i r c entry reason w) in
    on _ next

-- the walk ends in a clause that its hints derive
pub walk_keeps : (named : ℕ → Option (List ℕ)) (clauses : List (List ℕ)) → Names named clauses → (trail entries : List Assigned) (i : ℕ) (c : Learned) → IsTrail named entries → IsWalk named entries i c → Ends named i (walk clauses trail entries c)
walk_keeps named clauses names trail [] i c t w = (w.forced, w.chain)
walk_keeps named clauses names trail (a ∷ older) i c t w =
    walk_by named clauses names trail a older i c (is_in c.clause (opposite a.literal)) (not (decision_count trail == 0) && (length (current trail c.clause) == 1)) a.reason refl t.0 t.0.reason w (λ d v. walk_keeps named clauses names trail older i d t.1 v)

-- the learned clause is derived by its hints from the clauses that are named
pub learned_derived : (named : ℕ → Option (List ℕ)) (clauses : List (List ℕ)) → Names named clauses → (trail : List Assigned) (i : ℕ) (k : List ℕ) → ((n : ℕ) (clause : List ℕ) → named n ≡ Some clause → IsRising clause) → IsTrail named (reverse trail) → named i ≡ Some k → ((m : ℕ) → is_in k m ≡ true → is_on (reverse trail) (opposite m) ≡ true) → leads_to_conflict named (learned clauses trail i).clause (learned clauses trail i).hints ≡ true
learned_derived named clauses names trail i k rising t is_named false_ones =
    let begin : Learned = record { clause = clause_at clauses i; hints = [] } in
    let is : k ≡ clause_at clauses i = sym (ap (λ (o : Option (List ℕ)). unwrap_or o []) (names i k is_named)) in
    let w : IsWalk named (reverse trail) i begin = record {
      forced = [];
      chain = record { hint = i; clause = k; only = refl; is_named = is_named; all = λ m e. ap (λ (c : List ℕ). is_in c m) (sym is) ∙ e };
      refuted = λ m e. false_ones m (ap (λ (c : List ℕ). is_in c m) is ∙ e);
      later = tt;
    } in
    let end = walk_keeps named clauses names trail (reverse trail) i begin t w in
    chain_leads named _ _ end.0 rising end.1
