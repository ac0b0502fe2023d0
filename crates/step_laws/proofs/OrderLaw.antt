use Rattle.std.proofs.Common.{arith, ◌≡◌, ◌==◌, ℕ, ◌+◌, ◌*◌, ◌/◌, ◌<◌, List, length, [], ◌∷◌, ◌++◌, map, Bool, true, false, not, ◌&&◌, refl, sym, ap, ◌∙◌, ◌⊎◌, inl, inr}
use Rattle.std.specs.List.{list_any, AllByRecursion}
use Rattle.gt_core.specs.Literal.{opposite, holds, all_hold, is_in, range}
use Rattle.gt_core.specs.Task.{Task, action, precondition}
use Rattle.gt_core.specs.Active.{is_active}
use Rattle.gt_core.specs.Execution.{makes, gains, loses}
use Rattle.gt_core.specs.Interference.{surely_gains, surely_loses, may_make, disables, Knows, has_clause, exclusive, surely_makes, surely_clash, together, takes, reads, asks}
use Rattle.gt_core.specs.Published.{Pairwise, KeepsApart}
use Rattle.gt_core.proofs.published.Basics.{Among, passing, any_at, all_at, each_at, each_from, or_split, or_left, or_right, and_split, and_both, not_split, not_false, not_true, apart, same_test, test_same}
use Rattle.gt_core.proofs.published.Literals.{opposite_holds, opposite_twice, half_opposite, among_range}
use Rattle.gt_core.proofs.published.Makers.{own_among}
use Rattle.gt_core.proofs.published.Pairwise.{pairwise_map, pairwise_all, among_map, among_flat}
use Rattle.formula_defs.specs.Clause.{AllTrue}
use Rattle.formula_defs.specs.Chain.{chain_length, enter_clauses, pass_clauses}
use Rattle.formula_defs.specs.Variables.{Chain, chains_from, chain_places, chains}
use Rattle.formula_defs.specs.Formula.{chain_clauses}
use Rattle.formula_defs.proofs.published.Satisfied.{parted, satisfied_each}
use Rattle.step_laws.proofs.ChainLaw.{NoneBefore, chain_holds}
use Rattle.formula_defs.proofs.published.InRange.{HasFacts}

-- two actions that can run in one state without a clash are not kept apart by what is known of it
pub clause_known : (pairs : List (ℕ × ℕ)) (s : ℕ → Bool) (l m : ℕ) → Knows pairs s → has_clause pairs l m ≡ true → (holds s l ≡ true) ⊎ (holds s m ≡ true)
clause_known pairs s l m k h =
    let p = passing _ pairs h in
    let c = or_split (holds s p.one.0) (holds s p.one.1) (each_at _ pairs p.one k p.among) in
    elim (or_split ((p.one.0 == l) && (p.one.1 == m)) ((p.one.0 == m) && (p.one.1 == l)) p.passes) [
      | inl x ↦ let y = and_split (p.one.0 == l) (p.one.1 == m) x in
          elim c [ inl t ↦ inl (ap (holds s) (sym (test_same _ _ y.0)) ∙ t) | inr t ↦ inr (ap (holds s) (sym (test_same _ _ y.1)) ∙ t) ]
      | inr x ↦ let y = and_split (p.one.0 == m) (p.one.1 == l) x in
          elim c [ inl t ↦ inr (ap (holds s) (sym (test_same _ _ y.0)) ∙ t) | inr t ↦ inl (ap (holds s) (sym (test_same _ _ y.1)) ∙ t) ]
    ]

opposite_false : (s : ℕ → Bool) (l : ℕ) → holds s l ≡ true → holds s (opposite l) ≡ true → ⊥
opposite_false s l h o = let n : not (holds s l) ≡ true = sym (opposite_holds s l) ∙ o in apart (holds s l) h (not_split (holds s l) n)

not_exclusive : (pairs : List (ℕ × ℕ)) (s : ℕ → Bool) (p q : ℕ) → Knows pairs s → holds s p ≡ true → holds s q ≡ true → exclusive pairs p q ≡ true → ⊥
not_exclusive pairs s p q k hp hq e =
    elim (or_split (q == opposite p) _ e) [
      | inl x ↦ opposite_false s p hp (ap (holds s) (sym (test_same _ _ x)) ∙ hq)
      | inr x ↦ elim (or_split (has_clause pairs (opposite p) (opposite q)) _ x) [
        | inl y ↦ elim (clause_known pairs s (opposite p) (opposite q) k y) [ inl t ↦ opposite_false s p hp t | inr t ↦ opposite_false s q hq t ]
        | inr y ↦ elim (or_split (has_clause pairs (opposite p) (opposite p)) _ y) [
          | inl z ↦ elim (clause_known pairs s (opposite p) (opposite p) k z) [ inl t ↦ opposite_false s p hp t | inr t ↦ opposite_false s p hp t ]
          | inr z ↦ elim (clause_known pairs s (opposite q) (opposite q) k z) [ inl t ↦ opposite_false s q hq t | inr t ↦ opposite_false s q hq t ]
        ]
      ]
    ]

none_hold : (s : ℕ → Bool) (cs : List ℕ) → (length cs == 0) ≡ true → all_hold s cs ≡ true
none_hold s [] e = refl
none_hold s (c ∷ cs) e = let n : length (c ∷ cs) ≡ 0 = test_same _ _ e in absurd (omega arith)

sure : (task : Task) (s : ℕ → Bool) (a l : ℕ) → surely_makes task a l ≡ true → makes task s a l ≡ true
sure task s a l h =
    let p = passing _ (action task a).effects h in
    let y = and_split (p.one.literal == l) _ p.passes in
    any_at (is_active s l) (action task a).effects p.one p.among (and_both (p.one.literal == l) _ y.0 (none_hold s p.one.condition y.1))

never : (task : Task) (s : ℕ → Bool) (a l : ℕ) → may_make task a l ≡ false → makes task s a l ≡ true → ⊥
never task s a l n h =
    let p = passing (is_active s l) (action task a).effects h in
    let y = and_split (p.one.literal == l) _ p.passes in
    apart (may_make task a l) (any_at (λ e. e.literal == l) (action task a).effects p.one p.among y.0) n

clash_of : (task : Task) (s : ℕ → Bool) (a b : ℕ) → surely_clash task a b ≡ true → (f : ℕ) × gains task s a f ≡ true × loses task s b f ≡ true
clash_of task s a b h =
    let p = passing (λ e. surely_gains task a (e.literal / 2) && surely_loses task b (e.literal / 2)) (action task a).effects h in
    let f = p.one.literal / 2 in
    let x = and_split (surely_gains task a f) (surely_loses task b f) p.passes in
    let y = and_split (surely_makes task b (2 * f + 1)) _ x.1 in (
      f,
      sure task s a (2 * f) x.0,
      and_both _ _ (sure task s b (2 * f + 1) y.0) (not_false _ (not_true _ (λ g. never task s b (2 * f) (not_split _ y.1) g))),
    )

module _ (task : Task) (pairs : List (ℕ × ℕ)) (members s : ℕ → Bool) where
  abbrev pub AllRun : Type 0
  AllRun = (a : ℕ) → members a ≡ true → all_hold s (precondition task a) ≡ true

  abbrev pub NoClash : Type 0
  NoClash = (a b f : ℕ) → members a ≡ true → members b ≡ true → gains task s a f ≡ true → loses task s b f ≡ true → ⊥

  pub are_together : Knows pairs s → AllRun → NoClash → (a b : ℕ) → members a ≡ true → members b ≡ true → together task pairs a b ≡ true
  are_together k runs clash a b x y =
      and_both _ _
      (not_false _ (not_true _ (λ h.
      let p = passing (λ p. list_any (exclusive pairs p) (precondition task b)) (precondition task a) h in
      let q = passing (exclusive pairs p.one) (precondition task b) p.passes in
      not_exclusive pairs s p.one q.one k (all_at (holds s) (precondition task a) p.one (runs a x) p.among) (all_at (holds s) (precondition task b) q.one (runs b y) q.among) q.passes)))
      (and_both _ _
      (not_false _ (not_true _ (λ h. let c = clash_of task s a b h in clash a b c.0 x y c.1 c.2)))
      (not_false _ (not_true _ (λ h. let c = clash_of task s b a h in clash b a c.0 y x c.1 c.2))))

  -- across components: by the order's law
  pub across : (components : List (List ℕ)) → Knows pairs s → AllRun → NoClash → KeepsApart task pairs components → Pairwise (λ ks ls. AllByRecursion (λ a. AllByRecursion (λ b. members a ≡ true → members b ≡ true → disables task a b ≡ false) ls) ks) components
  across components k runs clash o =
      pairwise_map _ _ components (λ ks ls h.
      each_from _ ks (λ a i. each_from _ ls (λ b j x y.
      not_true (disables task a b) (λ d. apart (together task pairs a b) (are_together k runs clash a b x y) (each_at _ ls b (each_at _ ks a h i) j d))))) o

-- the literal over which one action disables another
pub record Reason (task : Task) (a b : ℕ) : Type 0 where
  pub literal : ℕ
  pub in_facts : literal < 2 * task.facts
  pub takes_it : takes task literal a ≡ true
  pub reads_it : reads task literal b ≡ true

pub reason : (task : Task) (a b : ℕ) → HasFacts task → disables task a b ≡ true → Reason task a b
reason task a b has d =
    let p = passing _ (action task a).effects (and_split (not (a == b)) _ d).1 in
    let l = p.one.literal in
    let h = half_opposite l in
    let f = has (record { action = a; condition = p.one.condition; literal = l }) (own_among task a p.one p.among) in
    let t : takes task (opposite l) a ≡ true = any_at (λ e. e.literal == opposite (opposite l)) (action task a).effects p.one p.among (same_test _ _ (sym (opposite_twice l))) in
    let r : reads task (opposite l) b ≡ true = elim (or_split (is_in (precondition task b) (opposite l)) _ p.passes) [
      | inl i ↦ or_left _ _ i
      | inr i ↦ or_right _ _ (ap (asks task b) h ∙ i)
    ] in
    record { literal = opposite l; in_facts = omega (arith, h, f); takes_it = t; reads_it = r }

-- the chain of a component and a literal
pub record ChainOf (task : Task) (cs : List Chain) (ks : List ℕ) (m : ℕ) : Type 0 where
  pub chain : Chain
  pub among : Among chain cs
  pub members : chain.members ≡ ks
  pub literal : chain.literal ≡ m

chain_from : (task : Task) (first : ℕ) (places : List (List ℕ × ℕ)) (ks : List ℕ) (m : ℕ) → Among (ks, m) places → ChainOf task (chains_from task first places) ks m
chain_from task first [] ks m a = absurd a
chain_from task first (p ∷ ps) ks m (inl e) = record { chain = record { members = p.0; literal = p.1; first = first }; among = inl refl; members = sym (ap (λ (x : List ℕ × ℕ). x.0) e); literal = sym (ap (λ (x : List ℕ × ℕ). x.1) e) }
chain_from task first (p ∷ ps) ks m (inr a) =
    let r = chain_from task (first + chain_length (takes task p.1) (reads task p.1) false p.0) ps ks m a in
    record { chain = r.chain; among = inr r.among; members = r.members; literal = r.literal }

-- each component has a place for each literal
pub component_place : (task : Task) (components : List (List ℕ)) (ks : List ℕ) → Among ks components → (m : ℕ) → m < 2 * task.facts → Among {A = List ℕ × ℕ} (ks, m) (chain_places task components)
component_place task components ks a m lt =
    among_flat (λ ks. map (λ m. (ks, m)) (range (2 * task.facts))) components ks (ks, m) a
    (among_map (λ (m : ℕ). (ks, m)) (range (2 * task.facts)) m (among_range (2 * task.facts) 0 m (omega arith) (omega arith)))

-- among members with a place for each literal: by the chains
pub within : (v : ℕ → Bool) (act var : ℕ → ℕ) (task : Task) (places : List (List ℕ × ℕ)) (ks : List ℕ) → HasFacts task → AllTrue v (chain_clauses act var task (chains task places)) → ((m : ℕ) → m < 2 * task.facts → Among {A = List ℕ × ℕ} (ks, m) places) → Pairwise (λ a b. v (act a) ≡ true → v (act b) ≡ true → disables task a b ≡ false) ks
within v act var task places ks has s at =
    pairwise_map _ _ ks (λ x y h ex ey. not_true (disables task x y) (λ d.
    let r = reason task x y has d in
    apart (v (act y)) ey (h (r.literal, r.in_facts) r.takes_it ex r.reads_it)))
    (pairwise_all {I = (m : ℕ) × m < 2 * task.facts} (λ i x y. takes task i.0 x ≡ true → v (act x) ≡ true → reads task i.0 y ≡ true → v (act y) ≡ false) ks (λ i. none_before i.0 i.1))
  where
    none_before : (m : ℕ) → m < 2 * task.facts → Pairwise (λ x y. takes task m x ≡ true → v (act x) ≡ true → reads task m y ≡ true → v (act y) ≡ false) ks
    none_before m lt =
        let c = chain_from task 0 places ks m (at m lt) in
        let t = takes task c.chain.literal in
        let r = reads task c.chain.literal in
        let all = satisfied_each v (λ c. enter_clauses act var (takes task c.literal) (reads task c.literal) false c.first c.members ++ pass_clauses act var (takes task c.literal) (reads task c.literal) false c.first c.members) (chains task places) s c.chain c.among in
        let both = parted v (enter_clauses act var t r false c.chain.first c.chain.members) _ all in
        let n : NoneBefore v act var t r c.chain.members = chain_holds v act var t r false c.chain.first c.chain.members both.0 both.1 in
        rw (c.members, c.literal) at n
