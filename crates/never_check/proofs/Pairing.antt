-- What a pair of an action and a clause asks of literals, and what was told of one way for the literals of the clause.
use Rattle.std.proofs.Common.{arith, ◌≡◌, ◌==◌, ◌<◌, ◌+◌, ◌*◌, ℕ, zero, suc, List, [], ◌∷◌, ◌++◌, map, length, take, drop, get_or, Bool, true, false, refl, ap, sym, ◌∙◌, subst, inl, inr}
use Rattle.std.specs.Prelude.{if◌then◌else◌, slice_index, MatchBool}
use Rattle.std.specs.List.{AllByRecursion, filter}
use Rattle.std.proofs.lemmas.List.{drop_more, take_all}
use Rattle.gt_core.specs.Literal.{opposite, is_in}
use Rattle.gt_core.specs.Task.{Effect, Action}
use Rattle.gt_core.proofs.published.Basics.{Among, each_at}
use Rattle.implied_literals.proofs.published.Steps.{opposite_below}
use Rattle.implied_literals.specs.Rows.{HasNoPair}
use Rattle.implied_literals.specs.Tested.{EffectFits}
use Rattle.gt_core.specs.Interference.{action_surely_makes}
use Rattle.never_defs.specs.Cases.{Case, cases_of, none_makes}
use Rattle.never_check.specs.Trail.{Reached}
use Rattle.never_check.specs.Follow.{AreBelow}
use Rattle.never_check.specs.Rules.{AreFollowed}
use Rattle.never_check.specs.Refuted.{AreContradicted, IsWayContradicted}
use Rattle.never_check.specs.Pairs.{IsReady}
use Rattle.never_check.specs.declared.rules.Rules.{Rules}
use Rattle.never_check.specs.declared.cases.Pair.{Pair}
use Rattle.never_check.specs.declared.cases.Held.{Held}
use Rattle.never_check.proofs.Grown.{front_long}
use Rattle.never_check.proofs.Placed.{among_place}
use Rattle.never_check.proofs.Casing.{all_joined, followed_more}

pub among_any : {A : Type 0} (xs : List A) (k : ℕ) (d : A) → k < length xs → Among (get_or xs k d) xs
among_any [] k d lt = absurd (omega arith)
among_any (x ∷ xs) zero d lt = inl refl
among_any (x ∷ xs) (suc k) d lt = inr (among_any xs k d (omega arith))

-- ---- literals below the size

pub literal_below : (facts : ℕ) (clause : List ℕ) (k lit : ℕ) → AreBelow (2 * facts) clause → k < length clause → lit ≡ opposite (slice_index clause k) → lit < 2 * facts
literal_below facts clause k lit below lt e =
    let one : slice_index clause k < 2 * facts = each_at (λ (l : ℕ). l < 2 * facts) clause (slice_index clause k) below (among_place clause k lt) in
    subst (λ (l : ℕ). l < 2 * facts) (sym e) (opposite_below (slice_index clause k) facts one)

pub turned_below : (facts : ℕ) (ls : List ℕ) → AreBelow (2 * facts) ls → AreBelow (2 * facts) (map opposite ls)
turned_below facts [] h = tt
turned_below facts (l ∷ ls) h = (opposite_below l facts h.0, turned_below facts ls h.1)

pub none_below : (facts l : ℕ) (es : List Effect) → AllByRecursion (EffectFits (2 * facts)) es → AllByRecursion (AreBelow (2 * facts)) (map (map opposite) (map (λ e. e.condition) (filter (λ e. e.literal == l) es)))
none_below facts l [] h = tt
none_below facts l (e ∷ es) h = by (e.literal == l) (none_below facts l es h.1)
  where
    by : (b : Bool) → AllByRecursion (AreBelow (2 * facts)) (map (map opposite) (map (λ d. d.condition) (filter (λ d. d.literal == l) es)))
        → AllByRecursion (AreBelow (2 * facts)) (map (map opposite) (map (λ d. d.condition) (if b then e ∷ filter (λ d. d.literal == l) es else filter (λ d. d.literal == l) es)))
    by true rest = (turned_below facts e.condition h.0.condition, rest)
    by false rest = rest

-- ---- ready for more

module _ (pair : Pair) (held : Held) (trail next : Reached) (ready : IsReady pair held trail) (facts : next.facts ≡ trail.facts)
    (front : take (length trail.literals) next.literals ≡ trail.literals) (apart : HasNoPair (is_in trail.literals) → HasNoPair (is_in next.literals)) where
  pub ready_next : IsReady pair held next
  ready_next = record {
    facts = facts ∙ ready.facts;
    more = subst (λ (k : ℕ). AllByRecursion (AreBelow (2 * k)) held.more.now) (sym facts) ready.more;
    within = let long = front_long trail.literals next.literals front in let w = ready.within in omega (arith, long, w);
    followed = followed_more pair.rules.now.known.now.clauses pair.rules.now.clauses.now trail.literals next.literals held.from ready.within front ready.followed;
    apart = apart ready.apart;
  }

  pub ready_joined : (other : Held) (clauses : List (List ℕ)) → other.from ≡ held.from → other.more.now ≡ held.more.now ++ clauses → AllByRecursion (AreBelow (2 * trail.facts)) clauses → IsReady pair other next
  ready_joined other clauses from more below = record {
    facts = facts ∙ ready.facts;
    more =
        subst (λ (cs : List (List ℕ)). AllByRecursion (AreBelow (2 * next.facts)) cs) (sym more)
        (subst (λ (k : ℕ). AllByRecursion (AreBelow (2 * k)) (held.more.now ++ clauses)) (sym facts) (all_joined (AreBelow (2 * trail.facts)) held.more.now clauses ready.more below));
    within = let long = front_long trail.literals next.literals front in let w = ready.within in omega (arith, long, w, from);
    followed = subst (λ (k : ℕ). AreFollowed pair.rules.now (take k next.literals) next.literals) (sym from) (followed_more pair.rules.now.known.now.clauses pair.rules.now.clauses.now trail.literals next.literals held.from ready.within front ready.followed);
    apart = apart ready.apart;
  }

  -- the same after all was followed
  pub ready_settled : (other : Held) → other.more.now ≡ held.more.now → other.from ≡ length next.literals → AreFollowed pair.rules.now next.literals next.literals → IsReady pair other next
  ready_settled other more from followed = record {
    facts = facts ∙ ready.facts;
    more = subst (λ (cs : List (List ℕ)). AllByRecursion (AreBelow (2 * next.facts)) cs) (sym more) (subst (λ (k : ℕ). AllByRecursion (AreBelow (2 * k)) held.more.now) (sym facts) ready.more);
    within = omega (arith, from);
    followed = subst (λ (ls : List ℕ). AreFollowed pair.rules.now ls next.literals) (sym (take_all other.from next.literals (omega (arith, from)))) followed;
    apart = apart ready.apart;
  }

-- ---- one way more

nil_of : (cs : List (List ℕ)) → length cs ≡ 0 → cs ≡ []
nil_of [] e = refl
nil_of (c ∷ cs) e = absurd (omega (arith, e))

append_nil : (cs : List (List ℕ)) → cs ++ [] ≡ cs
append_nil [] = refl
append_nil (c ∷ cs) = ap (λ (ds : List (List ℕ)). c ∷ ds) (append_nil cs)

pub joins_none : (more clauses : List (List ℕ)) → length clauses ≡ 0 → more ≡ more ++ clauses
joins_none more clauses e = sym (ap (λ (cs : List (List ℕ)). more ++ cs) (nil_of clauses e) ∙ append_nil more)

-- a way in other words
pub way_same : (rules : Rules) (more : List (List ℕ)) (tr us : List ℕ) (qs : List Case) (literals others : List ℕ) (clauses ds : List (List ℕ)) (b : Bool) → tr ≡ us → literals ≡ others → clauses ≡ ds
    → MatchBool b (IsWayContradicted rules more tr qs (record { literals = literals; clauses = clauses })) (IsWayContradicted rules more tr qs (record { literals = literals; clauses = clauses }) → ⊥)
    → MatchBool b (IsWayContradicted rules more us qs (record { literals = others; clauses = ds })) (IsWayContradicted rules more us qs (record { literals = others; clauses = ds }) → ⊥)
way_same rules more tr us qs literals others clauses ds b t l c told =
    subst (λ (cs : List (List ℕ)). MatchBool b (IsWayContradicted rules more us qs (record { literals = others; clauses = cs })) (IsWayContradicted rules more us qs (record { literals = others; clauses = cs }) → ⊥)) c
    (subst (λ (ls : List ℕ). MatchBool b (IsWayContradicted rules more us qs (record { literals = ls; clauses = clauses })) (IsWayContradicted rules more us qs (record { literals = ls; clauses = clauses }) → ⊥)) l
    (subst (λ (ls : List ℕ). MatchBool b (IsWayContradicted rules more ls qs (record { literals = literals; clauses = clauses })) (IsWayContradicted rules more ls qs (record { literals = literals; clauses = clauses }) → ⊥)) t told))

-- the literal at a place is the first of the rest
pub at_place : (clause : List ℕ) (place : ℕ) → place < length clause → drop place clause ≡ slice_index clause place ∷ drop (place + 1) clause
at_place clause place lt = drop_more clause place 0 lt

none_left : (clause : List ℕ) → drop (length clause) clause ≡ []
none_left [] = refl
none_left (l ∷ clause) = none_left clause

pub at_end : (clause : List ℕ) (place : ℕ) → place ≡ length clause → drop place clause ≡ []
at_end clause place e = ap (λ (k : ℕ). drop k clause) e ∙ none_left clause

-- what is said of the cases from a place on, of the rest in other words
pub rest_same : (rules : Rules) (more : List (List ℕ)) (tr : List ℕ) (x : Action) (rest other : List ℕ) (b : Bool) → rest ≡ other
    → MatchBool b (AreContradicted rules more tr (cases_of x other)) (AreContradicted rules more tr (cases_of x other) → ⊥)
    → MatchBool b (AreContradicted rules more tr (cases_of x rest)) (AreContradicted rules more tr (cases_of x rest) → ⊥)
rest_same rules more tr x rest other b e told = subst (λ (c : List ℕ). MatchBool b (AreContradicted rules more tr (cases_of x c)) (AreContradicted rules more tr (cases_of x c) → ⊥)) (sym e) told

-- what is told at a place of the clause where no effect without a condition makes the opposite literal true: of the way in which it stays
pub record IsToldPlace (pair : Pair) (place : ℕ) (more : List (List ℕ)) (tr : List ℕ) (b : Bool) : Type 0 where
  pub within : place < length pair.clause.now
  pub unsure : action_surely_makes pair.act.now (opposite (slice_index pair.clause.now place)) ≡ false
  pub way :
      MatchBool b
      (IsWayContradicted pair.rules.now more tr (cases_of pair.act.now (drop (place + 1) pair.clause.now))
      (record { literals = opposite (slice_index pair.clause.now place) ∷ []; clauses = none_makes pair.act.now (opposite (opposite (slice_index pair.clause.now place))) }))
      (IsWayContradicted pair.rules.now more tr (cases_of pair.act.now (drop (place + 1) pair.clause.now))
      (record { literals = opposite (slice_index pair.clause.now place) ∷ []; clauses = none_makes pair.act.now (opposite (opposite (slice_index pair.clause.now place))) }) → ⊥)

pub place_told : (pair : Pair) (place : ℕ) (more : List (List ℕ)) (tr : List ℕ) → place < length pair.clause.now → (lit : ℕ) → lit ≡ opposite (slice_index pair.clause.now place) → (back : ℕ) → back ≡ opposite lit
    → (none : List (List ℕ)) → none ≡ none_makes pair.act.now back → (sure : Bool) → sure ≡ action_surely_makes pair.act.now lit → sure ≡ false → (b : Bool)
    → MatchBool b (IsWayContradicted pair.rules.now more tr (cases_of pair.act.now (drop (place + 1) pair.clause.now)) (record { literals = lit ∷ []; clauses = none }))
    (IsWayContradicted pair.rules.now more tr (cases_of pair.act.now (drop (place + 1) pair.clause.now)) (record { literals = lit ∷ []; clauses = none }) → ⊥) → IsToldPlace pair place more tr b
place_told pair place more tr lt lit is back turned none nones sure surely unsure b told =
    let l = slice_index pair.clause.now place in
    let x = pair.act.now in
    record {
      within = lt;
      unsure = ap (action_surely_makes x) (sym is) ∙ sym surely ∙ unsure;
      way =
          way_same pair.rules.now more tr tr (cases_of x (drop (place + 1) pair.clause.now)) (lit ∷ []) (opposite l ∷ []) none (none_makes x (opposite (opposite l))) b refl (ap (λ (k : ℕ). k ∷ []) is)
          (nones ∙ ap (none_makes x) (turned ∙ ap opposite is)) told;
    }
