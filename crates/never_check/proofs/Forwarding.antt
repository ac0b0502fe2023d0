-- From what was found on a trail to the definition of the check.
use Rattle.std.proofs.Common.{arith, ◌≡◌, ◌==◌, ◌<◌, ◌*◌, ℕ, ◌/◌, List, [], length, Bool, true, false, refl, ap, sym, ◌∙◌, subst}
use Rattle.std.specs.Prelude.{slice_index_or, MatchBool, MatchOption, Option, Some, None, is_some}
use Rattle.std.specs.List.{AllByRecursion}
use Rattle.gt_core.specs.Literal.{opposite, is_in}
use Rattle.gt_core.specs.Task.{Effect, Action, Task, action, initial_state}
use Rattle.gt_core.specs.Active.{EffectWithin}
use Rattle.gt_core.specs.Lawful.{is_task}
use Rattle.gt_core.proofs.published.Within.{literals_within, lawful, precondition_within, action_effects_within}
use Rattle.implied_literals.proofs.published.Steps.{opposite_below}
use Rattle.implied_literals.specs.Tested.{ActionFits}
use Rattle.never_defs.specs.Sets.{AreTrue}
use Rattle.gt_core.specs.Interference.{action_may_make}
use Rattle.gt_core.proofs.published.Basics.{Among, each_at, each_from, passing, any_at, apart, same_test, test_same}
use Rattle.gt_core.proofs.published.Literals.{in_among, among_in, opposite_twice}
use Rattle.never_defs.specs.Propagation.{IsPropagated}
use Rattle.never_defs.specs.Cases.{Case, cases_of}
use Rattle.never_defs.specs.Forward.{IsCaseRefuted, GoalPassesForward, IsForwardCertificate}
use Rattle.never_check.specs.Trail.{Reached}
use Rattle.never_check.specs.Follow.{HasAll, AreBelow, Obeys, IsGrown, IsContradiction, AreUses}
use Rattle.never_check.specs.Rules.{ObeysRules, ObeysWith, AreFollowed, ArePlain}
use Rattle.never_check.specs.Given.{AreGiven, AreGivenPlain}
use Rattle.never_check.specs.declared.given.Given.{Given}
use Rattle.gt_core.specs.Clauses.{KnownClauses}
use Rattle.never_check.specs.Refuted.{IsContradicted, AreContradicted}
use Rattle.never_check.specs.Verdicts.{IsBase, IsLeast, AreCasesRefuted, ArePassed, DoesNotPass}
use Rattle.never_check.specs.declared.rules.Rules.{Rules}
use Rattle.never_check.proofs.Grown.{front_in, grown_then, grown_by, either_way}
use Rattle.never_check.proofs.Beginning.{each_map}
use Rattle.never_check.proofs.Casing.{all_joined, all_split, has_split, has_joined}
use Rattle.never_check.proofs.Following.{clause_number}

-- a trail that was followed whole, as a set that is propagated
pub trail_propagated : (rules : Rules) (base : ℕ → Bool) (tr : List ℕ) → AreFollowed rules tr tr → ((l : ℕ) → base l ≡ true → is_in tr l ≡ true) → IsPropagated rules.known.now.clauses rules.clauses.now base (is_in tr)
trail_propagated rules base tr f given = record { given = given; full = record { given = tt; single = f.single; chain = f.chain }; unit = f.unit }

module _ (rules : Rules) (x : Action) (trail : Reached) (is : IsLeast rules x.precondition trail) where
  -- a case that is contradicted is refuted
  case_refuted : (q : Case) → IsContradicted rules [] trail.literals q → IsCaseRefuted rules.known.now.clauses rules.clauses.now x q
  case_refuted q k = λ set p none.
      let us = all_split (Obeys set) q.clauses rules.clauses.now p.unit in
      let hs = has_split set x.precondition q.literals p.given in
      k set ((p.full, us.1), tt) us.0 (is.sound set ((p.full, us.1), hs.0)) hs.1 none

  case_contradicted : (q : Case) → IsCaseRefuted rules.known.now.clauses rules.clauses.now x q → IsContradicted rules [] trail.literals q
  case_contradicted q r = λ set obeys obq has hasq none.
      r set (record {
        given = has_joined set x.precondition q.literals (λ l i. has l (is.has l i)) hasq;
        full = obeys.0.0;
        unit = all_joined (Obeys set) q.clauses rules.clauses.now obq obeys.0.1;
      }) none

  pub cases_refuted : (qs : List Case) → AreContradicted rules [] trail.literals qs → AllByRecursion (IsCaseRefuted rules.known.now.clauses rules.clauses.now x) qs
  cases_refuted qs all = each_map (IsContradicted rules [] trail.literals) (IsCaseRefuted rules.known.now.clauses rules.clauses.now x) qs case_refuted all

  pub cases_contradicted : (qs : List Case) → AllByRecursion (IsCaseRefuted rules.known.now.clauses rules.clauses.now x) qs → AreContradicted rules [] trail.literals qs
  cases_contradicted qs all = each_map (IsCaseRefuted rules.known.now.clauses rules.clauses.now x) (IsContradicted rules [] trail.literals) qs case_contradicted all

-- ---- literals that are given

module _ (rules : Rules) (given : List ℕ) (trail mid : List ℕ) (assumed : IsGrown (λ set. HasAll set given) trail mid × HasAll (is_in mid) given) where
  pub given_clash : IsContradiction (ObeysRules rules) mid → IsContradiction (ObeysWith rules given) trail
  given_clash k = λ set obeys has. k set obeys.0 (assumed.0.sound set obeys.1 has)

  pub given_grown : (new : List ℕ) → IsGrown (ObeysRules rules) mid new × AreFollowed rules new new → IsGrown (ObeysWith rules given) trail new × AreFollowed rules new new × HasAll (is_in new) given
  given_grown new g = (
    grown_then (ObeysWith rules given) trail mid new (grown_by (ObeysWith rules given) (λ set. HasAll set given) trail mid (λ set obeys has. obeys.1) assumed.0)
        (grown_by (ObeysWith rules given) (ObeysRules rules) mid new (λ set obeys has. obeys.0) g.0),
    g.1,
    λ l i. front_in mid new g.0.front l (assumed.1 l i),
  )

module _ (task : Task) (rules : Rules) (trail : Reached) (base : IsBase rules trail) where
  pub goal_passes : IsContradiction (ObeysWith rules task.goal) trail.literals → GoalPassesForward task rules.known.now.clauses rules.clauses.now
  goal_passes k = λ hope set p none. k set ((p.full, p.unit), p.given) (base.sound set (p.full, p.unit)) none

  pub goal_fails : (new : List ℕ) → task.hopeless ≡ false → IsGrown (ObeysWith rules task.goal) trail.literals new × AreFollowed rules new new × HasAll (is_in new) task.goal → GoalPassesForward task rules.known.now.clauses rules.clauses.now → ⊥
  goal_fails new hope g goal = goal hope (is_in new) (trail_propagated rules (is_in task.goal) new g.1 g.2) (g.0.apart base.apart)

module _ (rules : Rules) (trail : Reached) (base : IsBase rules trail) where
  -- what has some literals, and all that follows, is the least such set
  pub now_least : (given : List ℕ) (next : Reached) → next.facts ≡ trail.facts → IsGrown (ObeysWith rules given) trail.literals next.literals × AreFollowed rules next.literals next.literals × HasAll (is_in next.literals) given → IsLeast rules given next
  now_least given next facts g = record {
    facts = facts ∙ base.facts;
    followed = g.1;
    apart = g.0.apart base.apart;
    sound = λ set obeys. g.0.sound set obeys (base.sound set obeys.0);
    has = g.2;
  }

  -- where the precondition is contradicted an action passes
  pub never_runs : (x : Action) → IsContradiction (ObeysWith rules x.precondition) trail.literals → ArePassed rules x
  never_runs x k = each_from _ rules.clauses.now (λ c i may. each_from _ (cases_of x c) (λ q j set p none.
      let us = all_split (Obeys set) q.clauses rules.clauses.now p.unit in
      let hs = has_split set x.precondition q.literals p.given in
      k set ((p.full, us.1), hs.0) (base.sound set (p.full, us.1)) none))

-- where the rules contradict themselves all passes
pub all_passes : (task : Task) (rules : Rules) → IsContradiction (ObeysRules rules) [] → AreTrue (initial_state task) rules.clauses.now → IsForwardCertificate task rules.known.now.clauses rules.clauses.now
all_passes task rules k initial = record {
  initial = initial;
  goal = λ hope set p none. k set (p.full, p.unit) (λ l i. absurd (apart _ i refl)) none;
  next = λ a lt. each_from _ rules.clauses.now (λ c i may. each_from _ (cases_of (action task a) c) (λ q j set p none.
      let us = all_split (Obeys set) q.clauses rules.clauses.now p.unit in
      k set (p.full, us.1) (λ l h. absurd (apart _ h refl)) none));
}

-- ---- clauses by their literals

-- an action makes a literal of a clause false by an effect that is found by it
pub all_passed : (rules : Rules) (x : Action) → AreUses (2 * rules.known.now.facts) rules.clauses.now rules.uses.now
    → AllByRecursion (λ e. (k : ℕ) → is_in (slice_index_or rules.uses.now (opposite e.literal) []) k ≡ true → AreCasesRefuted rules x k) x.effects → ArePassed rules x
all_passed rules x uses all = each_from _ rules.clauses.now (λ c i may.
    let n = clause_number rules.clauses.now c i in
    let p = passing (λ l. action_may_make x (opposite l)) c may in
    let e = passing (λ d. d.literal == opposite p.one) x.effects p.passes in
    let same : opposite e.one.literal ≡ p.one = ap opposite (test_same _ _ e.passes) ∙ opposite_twice p.one in
    let found = uses.each n.0 p.one n.1 (subst (λ (d : List ℕ). is_in d p.one ≡ true) (sym n.2) (among_in c p.one p.among)) in
    let told = each_at (λ (d : Effect). (k : ℕ) → is_in (slice_index_or rules.uses.now (opposite d.literal) []) k ≡ true → AreCasesRefuted rules x k) x.effects e.one all e.among in
    subst (λ (d : List ℕ). AllByRecursion (IsCaseRefuted rules.known.now.clauses rules.clauses.now x) (cases_of x d)) n.2
    (told n.0 (subst (λ (l : ℕ). is_in (slice_index_or rules.uses.now l []) n.0 ≡ true) (sym same) found)))

pub one_fails : (rules : Rules) (x : Action) (e : Effect) (k : ℕ) → AreUses (2 * rules.known.now.facts) rules.clauses.now rules.uses.now → Among e x.effects
    → (k < length rules.clauses.now) × (is_in (slice_index_or rules.uses.now (opposite e.literal) []) k ≡ true) × (AreCasesRefuted rules x k → ⊥) → DoesNotPass rules x k
one_fails rules x e k uses among t = (
  t.0,
  λ passes.
      let here = uses.only k (opposite e.literal) t.1 in
      let may : action_may_make x (opposite (opposite e.literal)) ≡ true = any_at (λ d. d.literal == opposite (opposite e.literal)) x.effects e among (same_test _ _ (sym (opposite_twice e.literal))) in
      t.2 (passes (any_at (λ l. action_may_make x (opposite l)) (slice_index_or rules.clauses.now k []) (opposite e.literal) (in_among _ _ here) may)),
)

-- ---- the actions of a task

pub goal_below : (task : Task) → is_task task ≡ true → AreBelow (2 * task.facts) task.goal
goal_below task t = each_from _ task.goal (λ l i. let h : l / 2 < task.facts = each_at (λ (k : ℕ). k / 2 < task.facts) task.goal l (literals_within task.facts task.goal (lawful task t).goal) i in omega arith)

-- the same of what reads the goal
pub goal_lits_below : (task : Task) → is_task task ≡ true → (facts : ℕ) (lits : List ℕ) → facts ≡ task.facts → lits ≡ task.goal → AreBelow (2 * facts) lits
goal_lits_below task lawful facts lits same is = subst (λ (ls : List ℕ). AreBelow (2 * facts) ls) (sym is) (subst (λ (k : ℕ). AreBelow (2 * k) task.goal) (sym same) (goal_below task lawful))

pub action_fits : (task : Task) (a : ℕ) → is_task task ≡ true → a < length task.actions → ActionFits (2 * task.facts) (action task a)
action_fits task a t lt = record {
  precondition = each_from _ (action task a).precondition (λ l i. let h : l / 2 < task.facts = each_at (λ (k : ℕ). k / 2 < task.facts) (action task a).precondition l (precondition_within task a t lt) i in omega arith);
  effects = each_from _ (action task a).effects (λ e i.
      let w = each_at (EffectWithin task.facts) (action task a).effects e (action_effects_within task a t lt) i in
      record {
        literal = opposite_below e.literal task.facts w.literal;
        condition = each_from _ e.condition (λ l j. let h : l / 2 < task.facts = each_at (λ (k : ℕ). k / 2 < task.facts) e.condition l w.condition j in omega arith);
      });
}

-- ---- what was told, in other words

pub pair_told : (rules : Rules) (x : Action) (trail : Reached) → IsLeast rules x.precondition trail → (more : List (List ℕ)) (c : List ℕ) (k : ℕ) (b : Bool) → more ≡ [] → slice_index_or rules.clauses.now k [] ≡ c
    → MatchBool b (AreContradicted rules more trail.literals (cases_of x c)) (AreContradicted rules more trail.literals (cases_of x c) → ⊥)
    → MatchBool b (AreCasesRefuted rules x k) (AreCasesRefuted rules x k → ⊥)
pair_told rules x trail is more c k b none at told =
    let there : AreContradicted rules more trail.literals (cases_of x c) → AreCasesRefuted rules x k = λ all.
    subst (λ (d : List ℕ). AllByRecursion (IsCaseRefuted rules.known.now.clauses rules.clauses.now x) (cases_of x d)) (sym at)
    (cases_refuted rules x trail is (cases_of x c) (subst (λ (cs : List (List ℕ)). AreContradicted rules cs trail.literals (cases_of x c)) none all)) in
    let back : AreCasesRefuted rules x k → AreContradicted rules more trail.literals (cases_of x c) = λ all.
    subst (λ (cs : List (List ℕ)). AreContradicted rules cs trail.literals (cases_of x c)) (sym none)
    (cases_contradicted rules x trail is (cases_of x c) (subst (λ (d : List ℕ). AllByRecursion (IsCaseRefuted rules.known.now.clauses rules.clauses.now x) (cases_of x d)) at all)) in
    either_way b there (λ nay all. nay (back all)) told

pub some_way : (P R : Type 0) (Q S : ℕ → Type 0) (o : Option ℕ) → is_some o ≡ true → ((k : ℕ) → Q k → S k) → MatchOption o P Q → MatchOption o R S
some_way P R Q S None e f told = let z : false ≡ true = e in absurd (let w : ⊥ = cc in w)
some_way P R Q S (Some k) e f told = f k told

pub given_plain : (plain : Rules) (given : Given) → AreGiven given → ArePlain given.known.now plain → AreGivenPlain plain given
given_plain plain given g p = record {
  rules = p.rules;
  none = p.none;
  lawful = g.lawful;
  facts = ap (λ (k : KnownClauses). k.facts) p.known ∙ g.facts;
  few = g.few;
  over = g.over;
}

pub begun_base : (rules : Rules) (trail : Reached) → trail.facts ≡ rules.known.now.facts → IsGrown (ObeysRules rules) [] trail.literals × AreFollowed rules trail.literals trail.literals → IsBase rules trail
begun_base rules trail facts g = record {
  facts = facts;
  followed = g.1;
  apart = g.0.apart (λ f t u. absurd (apart _ t refl));
  sound = λ set obeys. g.0.sound set obeys (λ l i. absurd (apart _ i refl));
}
