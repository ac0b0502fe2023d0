use Rattle.std.proofs.Common.{arith, ◌≡◌, ◌==◌, ℕ, zero, suc, ◌*◌, ◌/◌, ◌<◌, ◌≤◌, List, [], ◌∷◌, length, Bool, true, false, not, ◌&&◌, ◌||◌, refl, sym, ap, ◌∙◌, inl, inr}
use Rattle.std.specs.Prelude.{nat_lt}
use Rattle.std.specs.List.{list_any, AllByRecursion}
use Rattle.std.proofs.lemmas.List.{get_or_past}
use Rattle.std.proofs.lemmas.Bool.{cases_lt}
use Rattle.std.proofs.lemmas.Bool.Decides.{nat_tests}
use Rattle.bit_sets.specs.Rows.{row_has}
use Rattle.bit_sets.proofs.published.WordLaw.{zero_has}
use Rattle.gt_core.specs.Literal.{opposite, range}
use Rattle.gt_core.specs.Task.{Action}
use Rattle.gt_core.specs.Active.{EffectWithin}
use Rattle.gt_core.specs.Interference.{action_needs, action_asks, action_disables, actions_clash, actions_together, exclusive}
use Rattle.gt_core.proofs.published.Basics.{passing, any_at, any_same, each_at, and_split, and_both, or_split, same_if, apart, not_true}
use Rattle.gt_core.proofs.published.Literals.{in_among, among_in, among_range, below_range}
use Rattle.action_order.specs.own.Graph.{row_at, leads, IsGraph}
use Rattle.action_order.specs.own.Readers.{ActionWithin, act_at, AreRowsOf, AreExclusions, needs, asks_of, is_excluded}
use Rattle.action_order.specs.own.Sure.{AreSure}
use Rattle.action_order.specs.own.Edges.{edge_in, AreEdges, is_touched, is_in_rows, is_opposed, surely}
use Rattle.action_order.proofs.ReadersLaw.{opposite_below}
use Rattle.action_order.proofs.SureLaw.{clash_is}
use Rattle.gt_core.proofs.published.Lists.{each_number}

-- The row of an action has the actions to which an edge leads.

-- what needs a literal, or asks for a fact, is one of the actions
reads_below : (acts : List Action) (b : ℕ) (t : Action → Bool) → t (record { precondition = []; effects = [] }) ≡ false → t (act_at acts b) ≡ true → b < length acts
reads_below [] b t none e = absurd (apart (t (record { precondition = []; effects = [] })) e none)
reads_below (x ∷ acts) zero t none e = omega arith
reads_below (x ∷ acts) (suc b) t none e = let r = reads_below acts b t none e in omega arith

-- a row of the actions that pass a test which a missing one does not
row_tells : (acts : List Action) (t : Action → ℕ → Bool) (keys k b : ℕ) (rows : List (List ℕ)) → AreRowsOf (λ b k. t (act_at acts b) k) keys (length acts) rows → t (record { precondition = []; effects = [] }) k ≡ false → k < keys → row_has (row_at rows k) b ≡ t (act_at acts b) k
row_tells acts t keys k b rows r none lt = r.tells k b lt ∙ elim (cases_lt b (length acts)) [
  | inl l ↦ let e : nat_lt b (length acts) ≡ true = grind (arith, nat_tests) in rw e refl
  | inr g ↦
      let e : nat_lt b (length acts) ≡ false = grind (arith, nat_tests) in
      let past : act_at acts b ≡ record { precondition = []; effects = [] } = get_or_past acts b (record { precondition = []; effects = [] }) g in
      rw e (sym (ap (λ (x : Action). t x k) past ∙ none))
]

module _ (clauses : List (ℕ × ℕ)) (facts : ℕ) (acts : List Action) (needing asking : List (List ℕ)) (n : AreRowsOf (needs acts) (2 * facts) (length acts) needing) (k : AreRowsOf (asks_of acts) facts (length acts) asking) (within : AllByRecursion (ActionWithin facts) acts) where
  needs_is : (l b : ℕ) → l < 2 * facts → row_has (row_at needing l) b ≡ action_needs (act_at acts b) l
  needs_is l b lt = row_tells acts action_needs (2 * facts) l b needing n refl lt

  asks_is : (f b : ℕ) → f < facts → row_has (row_at asking f) b ≡ action_asks (act_at acts b) f
  asks_is f b lt = row_tells acts action_asks facts f b asking k refl lt

  pub touched_is : (x : Action) (b : ℕ) → AllByRecursion (EffectWithin facts) x.effects → is_touched needing asking x.effects b ≡ action_disables x (act_at acts b)
  touched_is x b w =
      any_same _ (λ e. action_needs (act_at acts b) (opposite e.literal) || action_asks (act_at acts b) (e.literal / 2)) x.effects (λ e i.
      let lt = (each_at (EffectWithin facts) x.effects e w i).literal in
      ap (λ (t : Bool). t || row_has (row_at asking (e.literal / 2)) b) (needs_is (opposite e.literal) b (opposite_below e.literal facts lt))
      ∙ ap (λ (t : Bool). action_needs (act_at acts b) (opposite e.literal) || t) (asks_is (e.literal / 2) b (omega arith)))

  act_within : (b : ℕ) → b < length acts → ActionWithin facts (act_at acts b)
  act_within b lt = each_number (ActionWithin facts) acts b (record { precondition = []; effects = [] }) within lt

  -- the actions with a precondition that a literal excludes
  excluded_is : (p b : ℕ) → is_excluded clauses needing p (length needing) b ≡ list_any (exclusive clauses p) (act_at acts b).precondition
  excluded_is p b = same_if _ _
      (λ h.
      let q = passing (λ q. exclusive clauses p q && row_has (row_at needing q) b) (range (length needing)) h in
      let x = and_split (exclusive clauses p q.one) _ q.passes in
      let lt = below_range (length needing) q.one q.among in
      any_at (exclusive clauses p) (act_at acts b).precondition q.one (in_among (act_at acts b).precondition q.one (sym (needs_is q.one b (let l = n.long in omega arith)) ∙ x.1)) x.0)
      (λ h.
      let q = passing (exclusive clauses p) (act_at acts b).precondition h in
      let i = among_in (act_at acts b).precondition q.one q.among in
      let lb = reads_below acts b (λ x. action_needs x q.one) refl i in
      let lt = each_at (λ l. l < 2 * facts) (act_at acts b).precondition q.one (act_within b lb).precondition q.among in
      let l = n.long in
      any_at (λ q. exclusive clauses p q && row_has (row_at needing q) b) (range (length needing)) q.one (among_range (length needing) 0 q.one (omega arith) (omega arith))
      (and_both (exclusive clauses p q.one) _ q.passes (needs_is q.one b lt ∙ i)))

  pub excluding_is : (excluding : List (List ℕ)) (a b : ℕ) → AreExclusions clauses needing (2 * facts) excluding → a < length acts → is_in_rows excluding (act_at acts a).precondition b ≡ list_any (λ p. list_any (exclusive clauses p) (act_at acts b).precondition) (act_at acts a).precondition
  excluding_is excluding a b x la =
      any_same _ (λ p. list_any (exclusive clauses p) (act_at acts b).precondition) (act_at acts a).precondition (λ p i.
      let lt = each_at (λ l. l < 2 * facts) (act_at acts a).precondition p (act_within a la).precondition i in
      x.tells p a b lt (needs_is p a lt ∙ among_in (act_at acts a).precondition p i) ∙ excluded_is p b)

-- what holds of each row by its number
pub each_row : (P : List ℕ → Type 0) (rows : List (List ℕ)) → ((a : ℕ) → a < length rows → P (row_at rows a)) → AllByRecursion P rows
each_row P [] h = tt
each_row P (r ∷ rows) h = (h 0 (omega arith), each_row P rows (λ a lt. h (suc a) (omega arith)))

-- the actions that surely undo what an action surely does
pub opposed_is : (facts : ℕ) (acts : List Action) (sure making : List (List ℕ)) (a b : ℕ) → AreSure (2 * facts) acts sure → AreRowsOf (surely sure) (2 * facts) (length acts) making → a < length acts → b < length acts → is_opposed making (row_at sure a) b ≡ (actions_clash (act_at acts b) (act_at acts a) || actions_clash (act_at acts a) (act_at acts b))
opposed_is facts acts sure making a b s m la lb =
    clash_is (act_at acts b).effects (act_at acts a).effects (λ l. row_has (row_at making l) b) (row_at sure a) (s.each a la).tells (λ l i.
    let lt = each_at (λ k. k < 2 * facts) (row_at sure a) l (s.each a la).below (in_among (row_at sure a) l i) in
    let yes : nat_lt b (length acts) ≡ true = grind (arith, nat_tests) in
    m.tells (opposite l) b (opposite_below l facts lt) ∙ ap (λ (t : Bool). t && surely sure b (opposite l)) yes ∙ (s.each b lb).tells (opposite l))

-- an action past the last one reads nothing, so no edge leads to it
disabled_below : (acts : List Action) (x : Action) (b : ℕ) → action_disables x (act_at acts b) ≡ true → b < length acts
disabled_below acts x b e =
    let p = passing _ x.effects e in
    elim (or_split (action_needs (act_at acts b) (opposite p.one.literal)) _ p.passes) [
      | inl i ↦ reads_below acts b (λ y. action_needs y (opposite p.one.literal)) refl i
      | inr i ↦ reads_below acts b (λ y. action_asks y (p.one.literal / 2)) refl i
    ]

pub edge_below : (clauses : List (ℕ × ℕ)) (acts : List Action) (a b : ℕ) → edge_in clauses acts a b ≡ true → b < length acts
edge_below clauses acts a b e =
    let x = and_split (not (a == b) && action_disables (act_at acts a) (act_at acts b)) _ e in
    disabled_below acts (act_at acts a) b (and_split (not (a == b)) _ x.0).1

turned : (n d x p q : Bool) → (n && ((d && not x) && not (p || q))) ≡ ((n && d) && (not x && (not q && not p)))
turned n d x p q = grind arith

no_edge : (n d x t y : Bool) → d ≡ false → (n && ((d && x) && t)) ≡ ((n && d) && y)
no_edge true true x t y e = cc
no_edge true false x t y e = refl
no_edge false d x t y e = refl

-- the parts of an edge, in the order in which the row is made
pub edge_is : (clauses : List (ℕ × ℕ)) (facts : ℕ) (acts : List Action) (sure making excluding : List (List ℕ)) (a b : ℕ) (disabled excluded opposed : Bool) → AreSure (2 * facts) acts sure → AreRowsOf (surely sure) (2 * facts) (length acts) making → a < length acts
    → disabled ≡ action_disables (act_at acts a) (act_at acts b) → excluded ≡ list_any (λ p. list_any (exclusive clauses p) (act_at acts b).precondition) (act_at acts a).precondition → opposed ≡ is_opposed making (row_at sure a) b
    → (not (a == b) && ((disabled && not excluded) && not opposed)) ≡ edge_in clauses acts a b
edge_is clauses facts acts sure making excluding a b disabled excluded opposed s m la d x o = by (action_disables (act_at acts a) (act_at acts b)) refl
  where
    by : (t : Bool) → action_disables (act_at acts a) (act_at acts b) ≡ t → (not (a == b) && ((disabled && not excluded) && not opposed)) ≡ edge_in clauses acts a b
    by true e =
        let lb = disabled_below acts (act_at acts a) b e in
        let c = o ∙ opposed_is facts acts sure making a b s m la lb in
        ap (λ (t : Bool). not (a == b) && ((disabled && not excluded) && not t)) c
        ∙ ap (λ (t : Bool). not (a == b) && ((disabled && not t) && not (actions_clash (act_at acts b) (act_at acts a) || actions_clash (act_at acts a) (act_at acts b)))) x
        ∙ ap (λ (t : Bool). not (a == b) && ((t && not (list_any (λ p. list_any (exclusive clauses p) (act_at acts b).precondition) (act_at acts a).precondition)) && not (actions_clash (act_at acts b) (act_at acts a) || actions_clash (act_at acts a) (act_at acts b)))) d
        ∙ turned (not (a == b)) (action_disables (act_at acts a) (act_at acts b)) (list_any (λ p. list_any (exclusive clauses p) (act_at acts b).precondition) (act_at acts a).precondition) (actions_clash (act_at acts b) (act_at acts a)) (actions_clash (act_at acts a) (act_at acts b))
    by false e =
        ap (λ (t : Bool). not (a == b) && ((t && not excluded) && not opposed)) d
        ∙ no_edge (not (a == b)) (action_disables (act_at acts a) (act_at acts b)) (not excluded) (not opposed) (actions_together clauses (act_at acts a) (act_at acts b)) e

-- no edge leads from past the last row
past_leads : (rows : List (List ℕ)) (a b : ℕ) → length rows ≤ a → leads rows a b ≡ false
past_leads rows a b le = ap (λ (xs : List ℕ). row_has xs b) (get_or_past rows a [] le) ∙ zero_has _

pub is_graph : (clauses : List (ℕ × ℕ)) (acts : List Action) (rows : List (List ℕ)) → AreEdges clauses acts (length acts) rows → IsGraph rows
is_graph clauses acts rows e a b h = elim (cases_lt a (length acts)) [
  | inl la ↦ let lt = edge_below clauses acts a b (sym (e.tells a b la) ∙ h) in let l = e.long in omega arith
  | inr le ↦ absurd (apart (leads rows a b) h (past_leads rows a b (let l = e.long in omega arith)))
]

pub leads_is : (clauses : List (ℕ × ℕ)) (acts : List Action) (rows : List (List ℕ)) → AreEdges clauses acts (length acts) rows → (a b : ℕ) → leads rows a b ≡ edge_in clauses acts a b
leads_is clauses acts rows e a b = elim (cases_lt a (length acts)) [
  | inl la ↦ e.tells a b la
  | inr le ↦ past_leads rows a b (let l = e.long in omega arith) ∙ sym (not_true (edge_in clauses acts a b) (λ h.
      let x = and_split (not (a == b) && action_disables (act_at acts a) (act_at acts b)) _ h in
      let p = passing _ (act_at acts a).effects (and_split (not (a == b)) _ x.0).1 in
      let lt = reads_below acts a (λ y. list_any (λ e. action_needs (act_at acts b) (opposite e.literal) || action_asks (act_at acts b) (e.literal / 2)) y.effects) refl (and_split (not (a == b)) _ x.0).1 in
      omega arith))
]
