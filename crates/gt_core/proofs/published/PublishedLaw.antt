use Rattle.std.proofs.Common.{arith, ◌≡◌, ◌==◌, ℕ, ◌<◌, List, [], ◌∷◌, ◌++◌, Bool, true, false, refl, sym, subst, ◌⊎◌, inl, inr}
use Rattle.std.specs.List.{flat_map, AllByRecursion}
use Rattle.std.proofs.lemmas.Bool.Decides.{nat_tests}
use Rattle.gt_core.specs.Literal.{is_in}
use Rattle.gt_core.specs.Task.{Task, action_numbers}
use Rattle.gt_core.specs.Interference.{together, has_edge}
use Rattle.gt_core.specs.Published.{IsMutual, IsComponent, IsListed, IsPublished, Pairwise, order_of, KeepsApart}
use Rattle.gt_core.proofs.published.Basics.{Among, each_at, each_from, or_left, and_both, not_true, apart, same_test, test_same}
use Rattle.gt_core.proofs.published.Literals.{in_among, among_in, in_split, in_left, in_right}
use Rattle.gt_core.proofs.published.Pairwise.{among_left, among_right, pairwise_map, pairwise_flat}

-- A published order lists each action once, and no edge leads to a later component.

module _ (edge : ℕ → ℕ → Bool) (actions : List ℕ) where
  -- with an action all that are mutual with it are taken
  abbrev Closed : List ℕ → Type 0
  Closed taken = (a b : ℕ) → is_in taken a ≡ true → is_in actions b ≡ true → IsMutual edge a b → is_in taken b ≡ true

  closed_more : (taken ks : List ℕ) → Closed taken → IsComponent edge actions ks → Closed (taken ++ ks)
  closed_more taken ks c k a b i j m =
      elim (in_split taken ks a i) [
        | inl h ↦ in_left taken ks b (c a b h j m)
        | inr h ↦ in_right taken ks b (k.whole a b h j m)
      ]

  -- no member of a listed component was taken
  pub fresh : (taken : List ℕ) (components : List (List ℕ)) → Closed taken → IsListed edge actions taken components → (ls : List ℕ) → Among ls components → (b : ℕ) → is_in ls b ≡ true → is_in taken b ≡ true → ⊥
  fresh taken [] c h ls i b j t = i
  fresh taken ([] ∷ rest) c h ls i b j t = h
  fresh taken ((name ∷ ks) ∷ rest) c h ls (inl e) b j t =
      let n = h.0 in
      let first : is_in (name ∷ ks) name ≡ true = or_left (name == name) (is_in ks name) (same_test name name refl) in
      let own : is_in (name ∷ ks) b ≡ true = subst (λ (x : List ℕ). is_in x b ≡ true) e j in
      apart (is_in taken name) (c b name t (n.component.of_actions name first) (n.component.each_way b name own first)) n.new
  fresh taken ((name ∷ ks) ∷ rest) c h ls (inr i) b j t =
      fresh (taken ++ name ∷ ks) rest (closed_more taken (name ∷ ks) c h.0.component) h.1 ls i b j (in_left taken (name ∷ ks) b t)

  -- no edge leads to a later component
  pub no_later : (taken : List ℕ) (components : List (List ℕ)) → Closed taken → IsListed edge actions taken components → ((ls : List ℕ) → Among ls components → (b : ℕ) → is_in ls b ≡ true → is_in actions b ≡ true) → Pairwise (λ ks ls. AllByRecursion (λ a. AllByRecursion (λ b. ((a == b) ≡ false) × edge a b ≡ false) ls) ks) components
  no_later taken [] c h w = tt
  no_later taken ([] ∷ rest) c h w = absurd h
  no_later taken ((name ∷ ks) ∷ rest) c h w =
      let more = closed_more taken (name ∷ ks) c h.0.component in (
        each_from _ rest (λ ls i. each_from _ (name ∷ ks) (λ a j. each_from _ ls (λ b k.
            let off : is_in (taken ++ name ∷ ks) b ≡ true → ⊥ = fresh (taken ++ name ∷ ks) rest more h.1 ls i b (among_in ls b k) in (
              not_true (a == b) (λ s. off (in_right taken (name ∷ ks) b (among_in (name ∷ ks) b (subst (λ (x : ℕ). Among x (name ∷ ks)) (test_same a b s) j)))),
              not_true (edge a b) (λ e. elim (h.0.ready a b (among_in (name ∷ ks) a j) (w ls (inr i) b (among_in ls b k)) e) [
                | inl own ↦ off (in_right taken (name ∷ ks) b own)
                | inr old ↦ off (in_left taken (name ∷ ks) b old)
              ]),
            )))),
        no_later (taken ++ name ∷ ks) rest more h.1 (λ ls i. w ls (inr i)),
      )

  -- each component of the list is one, each action is in one
  pub components_of_list : (taken : List ℕ) (components : List (List ℕ)) → IsListed edge actions taken components → (ks : List ℕ) → Among ks components → IsComponent edge actions ks
  components_of_list taken [] h ks i = absurd i
  components_of_list taken ([] ∷ rest) h ks i = absurd h
  components_of_list taken ((name ∷ ls) ∷ rest) h ks (inl e) = subst (λ (x : List ℕ). IsComponent edge actions x) (sym e) h.0.component
  components_of_list taken ((name ∷ ls) ∷ rest) h ks (inr i) = components_of_list (taken ++ name ∷ ls) rest h.1 ks i

  pub all_listed : (taken : List ℕ) (components : List (List ℕ)) → IsListed edge actions taken components → (a : ℕ) → is_in actions a ≡ true → is_in taken a ≡ true ⊎ Among a (order_of components)
  all_listed taken [] h a i = inl (h a i)
  all_listed taken ([] ∷ rest) h a i = absurd h
  all_listed taken ((name ∷ ls) ∷ rest) h a i =
      elim (all_listed (taken ++ name ∷ ls) rest h.1 a i) [
        | inl t ↦ elim (in_split taken (name ∷ ls) a t) [ inl x ↦ inl x | inr x ↦ inr (among_left (name ∷ ls) (flat_map (λ ks. ks) rest) a (in_among (name ∷ ls) a x)) ]
        | inr x ↦ inr (among_right (name ∷ ls) (flat_map (λ ks. ks) rest) a x)
      ]

below_apart : (a b : ℕ) → a < b → (a == b) ≡ false
below_apart a b l = grind (arith, nat_tests)

module _ (task : Task) (clauses : List (ℕ × ℕ)) (components : List (List ℕ)) (published : IsPublished task clauses components) where
  abbrev edge : ℕ → ℕ → Bool
  edge = has_edge task clauses

  abbrev actions : List ℕ
  actions = action_numbers task

  closed_start : (a b : ℕ) → is_in [] a ≡ true → is_in actions b ≡ true → IsMutual edge a b → is_in [] b ≡ true
  closed_start a b i j m = i

  later : Pairwise (λ ks ls. AllByRecursion (λ a. AllByRecursion (λ b. ((a == b) ≡ false) × edge a b ≡ false) ls) ks) components
  later = no_later edge actions [] components closed_start published (λ ls i. (components_of_list edge actions [] components published ls i).of_actions)

  -- where an action disables a later one of another component, the two cannot stand in one step
  pub published_keeps_apart : KeepsApart task clauses components
  published_keeps_apart =
      pairwise_map _ _ components (λ ks ls h. each_from _ ks (λ a i. each_from _ ls (λ b j d.
      not_true (together task clauses a b) (λ t. apart (edge a b) (and_both _ _ d t) (each_at _ ls b (each_at _ ks a h i) j).1)))) later

  pub component_apart : (ks : List ℕ) → Among ks components → Pairwise (λ a b. (a == b) ≡ false) ks
  component_apart ks i = pairwise_map _ _ ks (λ a b l. below_apart a b l) (components_of_list edge actions [] components published ks i).rising

  pub published_apart : Pairwise (λ a b. (a == b) ≡ false) (order_of components)
  published_apart =
      pairwise_flat (λ a b. (a == b) ≡ false) components component_apart
      (pairwise_map (λ ks ls. AllByRecursion (λ a. AllByRecursion (λ b. ((a == b) ≡ false) × edge a b ≡ false) ls) ks) (λ ks ls. AllByRecursion (λ a. AllByRecursion (λ b. (a == b) ≡ false) ls) ks) components (λ ks ls h. each_from _ ks (λ a i. each_from _ ls (λ b j. (each_at _ ls b (each_at _ ks a h i) j).0))) later)

  pub published_all : (a : ℕ) → is_in actions a ≡ true → Among a (order_of components)
  published_all a i = elim (all_listed edge actions [] components published a i) [ inl t ↦ absurd (let e : false ≡ true = t in cc) | inr x ↦ x ]
