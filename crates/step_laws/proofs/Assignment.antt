use Rattle.std.proofs.Common.{arith, ◌≡◌, ◌==◌, ℕ, ◌+◌, ◌-◌, ◌*◌, ◌/◌, ◌%◌, ◌<◌, ◌≤◌, List, [], ◌∷◌, ◌++◌, length, Bool, true, false, ◌||◌, ◌&&◌, refl, sym, ap, ◌∙◌, subst, if◌then◌else◌, ◌⊎◌, inl, inr, nat_lt}
use Rattle.std.specs.List.{filter}
use Rattle.std.proofs.lemmas.Bool.Decides.{nat_tests}
use Rattle.std.proofs.lemmas.Nat.{div-mul-add, div-add-mod', row_fits}
use Rattle.gt_core.specs.Task.{Task, EffectOf}
use Rattle.gt_core.specs.Interference.{takes, reads}
use Rattle.formula_defs.specs.Layout.{Layout, width, action_at, conditional_at, chain_at, fact_at}
use Rattle.gt_core.proofs.published.Basics.{Among}
use Rattle.formula_defs.specs.Chain.{chain_length}
use Rattle.formula_defs.specs.Variables.{Row, rows_from, has_condition, Chain, chains_from, chain_variables_in}
use Rattle.step_laws.proofs.ChainLaw.{HasChainValues}
use Rattle.std.proofs.lemmas.Bool.{lt-ltb, le-ltb}

-- a function's values from a place on
abbrev pub Agrees : (ℕ → Bool) → ℕ → List Bool → Type 0
Agrees f i [] = Unit {0}
Agrees f i (x ∷ xs) = (f i ≡ x) × Agrees f (i + 1) xs

abbrev pub at : List Bool → ℕ → Bool
at [] i = false
at (x ∷ xs) i = if i == 0 then x else at xs (i - 1)

agrees_shift : (f g : ℕ → Bool) → ((m : ℕ) → f (m + 1) ≡ g m) → (j : ℕ) (xs : List Bool) → Agrees g j xs → Agrees f (j + 1) xs
agrees_shift f g h j [] a = tt
agrees_shift f g h j (x ∷ xs) a = (h j ∙ a.0, agrees_shift f g h (j + 1) xs a.1)

pub at_agrees : (xs : List Bool) → Agrees (at xs) 0 xs
at_agrees [] = tt
at_agrees (x ∷ xs) =
    (refl, agrees_shift (at (x ∷ xs)) (at xs) (λ m. let n : (m + 1 == 0) ≡ false = grind (arith, nat_tests) in let d : (m + 1) - 1 ≡ m = omega arith in rw (n, d)) 0 xs (at_agrees xs))

pub agrees_within : (f g : ℕ → Bool) (i : ℕ) (xs : List Bool) → ((k : ℕ) → i ≤ k → k < i + length xs → g k ≡ f k) → Agrees f i xs → Agrees g i xs
agrees_within f g i [] h a = tt
agrees_within f g i (x ∷ xs) h a = (h i (omega arith) (omega arith) ∙ a.0, agrees_within f g (i + 1) xs (λ k l u. h k (omega arith) (omega arith)) a.1)

pub agrees_parts : (f : ℕ → Bool) (i : ℕ) (xs ys : List Bool) → Agrees f i (xs ++ ys) → Agrees f i xs × Agrees f (i + length xs) ys
agrees_parts f i [] ys a = (tt, let e : i ≡ i + 0 = omega arith in subst (λ (k : ℕ). Agrees f k ys) e a)
agrees_parts f i (x ∷ xs) ys a =
    let r = agrees_parts f (i + 1) xs ys a.1 in
    let e : (i + 1) + length xs ≡ i + length (x ∷ xs) = omega arith in
    ((a.0, r.0), subst (λ (k : ℕ). Agrees f k ys) e r.1)

-- the values of the conditional effects
abbrev pub conditional_values : (EffectOf → Bool) → List EffectOf → List Bool
conditional_values active [] = []
conditional_values active (e ∷ es) = if has_condition e then active e ∷ conditional_values active es else conditional_values active es

length_by : (e : EffectOf) (x : Bool) (xs : List Bool) (es : List EffectOf) (b : Bool) → length xs ≡ length es → length (if b then x ∷ xs else xs) ≡ length (if b then e ∷ es else es)
length_by e x xs es true h = omega arith
length_by e x xs es false h = h

pub length-conditional_values : (active : EffectOf → Bool) (es : List EffectOf) → length (conditional_values active es) ≡ length (filter has_condition es)
length-conditional_values active [] = refl
length-conditional_values active (e ∷ es) = length_by e (active e) (conditional_values active es) (filter has_condition es) (has_condition e) (length-conditional_values active es)

conditional_by : (f : ℕ → Bool) (active : EffectOf → Bool) (j : ℕ) (e : EffectOf) (es : List EffectOf) (b : Bool) → has_condition e ≡ b → Agrees f j (if b then active e ∷ conditional_values active es else conditional_values active es) → (r : Row) → (r ≡ record { effect = e; number = j }) ⊎ Among r (rows_from (if b then j + 1 else j) es) → has_condition r.effect ≡ true → ((i : ℕ) → Agrees f i (conditional_values active es) → Among r (rows_from i es) → f r.number ≡ active r.effect) → f r.number ≡ active r.effect
conditional_by f active j e es true eb a r (inl s) c on = subst (λ (x : Row). f x.number ≡ active x.effect) (sym s) a.0
conditional_by f active j e es true eb a r (inr s) c on = on (j + 1) a.1 s
conditional_by f active j e es false eb a r (inl s) c on = let x : has_condition e ≡ true = sym (ap (λ (x : Row). has_condition x.effect) s) ∙ c in absurd (cc)
conditional_by f active j e es false eb a r (inr s) c on = on j a s

pub conditional_value : (f : ℕ → Bool) (active : EffectOf → Bool) (es : List EffectOf) (j : ℕ) → Agrees f j (conditional_values active es) → (r : Row) → Among r (rows_from j es) → has_condition r.effect ≡ true → f r.number ≡ active r.effect
conditional_value f active [] j a r i c = absurd i
conditional_value f active (e ∷ es) j a r i c = conditional_by f active j e es (has_condition e) refl a r i c (λ k b l. conditional_value f active es k b r l c)

-- the values of one chain's variables: whether a member that takes the literal stands before
abbrev pub chain_row : (ℕ → Bool) → (ℕ → Bool) → (ℕ → Bool) → Bool → Bool → List ℕ → List Bool
chain_row members takes reads taken seen [] = []
chain_row members takes reads taken seen (k ∷ ks) =
    if seen && reads k then taken ∷ chain_row members takes reads (taken || (takes k && members k)) (seen || takes k) ks
    else chain_row members takes reads (taken || (takes k && members k)) (seen || takes k) ks

row_length_by : (x : Bool) (xs : List Bool) (n : ℕ) (b : Bool) → length xs ≡ n → length (if b then x ∷ xs else xs) ≡ (if b then 1 else 0) + n
row_length_by x xs n true h = omega arith
row_length_by x xs n false h = omega arith

pub length-chain_row : (members takes reads : ℕ → Bool) (taken seen : Bool) (ks : List ℕ) → length (chain_row members takes reads taken seen ks) ≡ chain_length takes reads seen ks
length-chain_row members takes reads taken seen [] = refl
length-chain_row members takes reads taken seen (k ∷ ks) =
    row_length_by taken (chain_row members takes reads (taken || (takes k && members k)) (seen || takes k) ks) (chain_length takes reads (seen || takes k) ks) (seen && reads k)
    (length-chain_row members takes reads (taken || (takes k && members k)) (seen || takes k) ks)

row_by : (f : ℕ → Bool) (i : ℕ) (x b : Bool) (xs : List Bool) → Agrees f i (if b then x ∷ xs else xs) → (b ≡ true → f i ≡ x) × Agrees f (if b then i + 1 else i) xs
row_by f i x true xs a = (λ e. a.0, a.1)
row_by f i x false xs a = ((λ e. cc), a)

pub has_chain_values : (v members : ℕ → Bool) (act var : ℕ → ℕ) (takes reads : ℕ → Bool) (ks : List ℕ) → ((k : ℕ) → Among k ks → v (act k) ≡ members k) → (taken seen : Bool) (i : ℕ) → Agrees (λ c. v (var c)) i (chain_row members takes reads taken seen ks) → HasChainValues v act var takes reads taken seen i ks
has_chain_values v members act var takes reads [] same taken seen i a = tt
has_chain_values v members act var takes reads (k ∷ ks) same taken seen i a =
    let r = row_by (λ c. v (var c)) i taken (seen && reads k) (chain_row members takes reads (taken || (takes k && members k)) (seen || takes k) ks) a in (
      r.0,
      subst (λ (b : Bool). HasChainValues v act var takes reads (taken || (takes k && b)) (seen || takes k) (if seen && reads k then i + 1 else i) ks) (sym (same k (inl refl)))
          (has_chain_values v members act var takes reads ks (λ m l. same m (inr l)) (taken || (takes k && members k)) (seen || takes k) (if seen && reads k then i + 1 else i) r.1),
    )

abbrev pub chain_values : Task → (ℕ → Bool) → List (List ℕ × ℕ) → List Bool
chain_values task members [] = []
chain_values task members (p ∷ ps) = chain_row members (takes task p.1) (reads task p.1) false false p.0 ++ chain_values task members ps

length_parts : (xs ys : List Bool) → length (xs ++ ys) ≡ length xs + length ys
length_parts [] ys = let e : length ys ≡ 0 + length ys = omega arith in e
length_parts (x ∷ xs) ys = let h = length_parts xs ys in omega arith

pub length-chain_values : (task : Task) (members : ℕ → Bool) (ps : List (List ℕ × ℕ)) → length (chain_values task members ps) ≡ chain_variables_in task ps
length-chain_values task members [] = refl
length-chain_values task members (p ∷ ps) =
    let h = length-chain_values task members ps in
    let r = length-chain_row members (takes task p.1) (reads task p.1) false false p.0 in
    let l = length_parts (chain_row members (takes task p.1) (reads task p.1) false false p.0) (chain_values task members ps) in
    omega arith

pub chain_at_place : (task : Task) (members f : ℕ → Bool) (ps : List (List ℕ × ℕ)) (first : ℕ) → Agrees f first (chain_values task members ps) → (c : Chain) → Among c (chains_from task first ps) → Agrees f c.first (chain_row members (takes task c.literal) (reads task c.literal) false false c.members)
chain_at_place task members f [] first a c i = absurd i
chain_at_place task members f (p ∷ ps) first a c (inl e) =
    let r = agrees_parts f first (chain_row members (takes task p.1) (reads task p.1) false false p.0) (chain_values task members ps) a in
    subst (λ (d : Chain). Agrees f d.first (chain_row members (takes task d.literal) (reads task d.literal) false false d.members)) (sym e) r.0
chain_at_place task members f (p ∷ ps) first a c (inr i) =
    let r = agrees_parts f first (chain_row members (takes task p.1) (reads task p.1) false false p.0) (chain_values task members ps) a in
    let l = length-chain_row members (takes task p.1) (reads task p.1) false false p.0 in
    chain_at_place task members f ps (first + chain_length (takes task p.1) (reads task p.1) false p.0) (subst (λ (n : ℕ). Agrees f (first + n) (chain_values task members ps)) l r.1) c i

-- the assignment of a plan: its actions, effects and chains step by step, then its facts
module _ (z : Layout) (steps : ℕ → ℕ → Bool) (conditionals chain : ℕ → List Bool) (states : ℕ → ℕ → Bool) where
  abbrev pub in_step : ℕ → ℕ → Bool
  in_step t r =
      if nat_lt r z.actions then steps t r
      else if nat_lt r (z.actions + z.conditional) then at (conditionals t) (r - z.actions)
      else at (chain t) (r - (z.actions + z.conditional))

  abbrev pub values : ℕ → Bool
  values k =
      if nat_lt k (z.horizon * width z) then in_step (k / width z) (k % width z)
      else states ((k - z.horizon * width z) / z.facts) ((k - z.horizon * width z) % z.facts)

  mod_place : (t w r : ℕ) → r < w → (t * w + r) % w ≡ r
  mod_place t w r l =
      let d = div-mul-add t w r l in
      let e : (t * w + r) / w * w + (t * w + r) % w ≡ t * w + r = div-add-mod' (t * w + r) w in
      let f : t * w + (t * w + r) % w ≡ t * w + r = rw d at e in
      omega arith

  pub at_place : (t r : ℕ) → t < z.horizon → r < width z → values (t * width z + r) ≡ in_step t r
  at_place t r lt lr =
      let fits = row_fits t (width z) z.horizon (width z) lt (omega arith) in
      let b = lt-ltb (t * width z + r) (z.horizon * width z) (omega arith) in
      rw (b, div-mul-add t (width z) r lr, mod_place t (width z) r lr)

  pub at_action : (t a : ℕ) → t < z.horizon → a < z.actions → values (action_at z t a) ≡ steps t a
  at_action t a lt la =
      let b = lt-ltb a z.actions la in at_place t a lt (omega arith) ∙ rw b

  pub at_conditional : (t j : ℕ) → t < z.horizon → j < z.conditional → values (conditional_at z t j) ≡ at (conditionals t) j
  at_conditional t j lt lj =
      let e : conditional_at z t j ≡ t * width z + (z.actions + j) = omega arith in
      let n = le-ltb (z.actions + j) z.actions (omega arith) in
      let b = lt-ltb (z.actions + j) (z.actions + z.conditional) (omega arith) in
      let d : (z.actions + j) - z.actions ≡ j = omega arith in
      ap values e ∙ at_place t (z.actions + j) lt (omega arith) ∙ rw (n, b, d)

  pub at_chain : (t c : ℕ) → t < z.horizon → c < z.chains → values (chain_at z t c) ≡ at (chain t) c
  at_chain t c lt lc =
      let e : chain_at z t c ≡ t * width z + (z.actions + z.conditional + c) = omega arith in
      let n = le-ltb (z.actions + z.conditional + c) z.actions (omega arith) in
      let b = le-ltb (z.actions + z.conditional + c) (z.actions + z.conditional) (omega arith) in
      let d : (z.actions + z.conditional + c) - (z.actions + z.conditional) ≡ c = omega arith in
      ap values e ∙ at_place t (z.actions + z.conditional + c) lt (omega arith) ∙ rw (n, b, d)

  pub at_fact : (t f : ℕ) → f < z.facts → values (fact_at z t f) ≡ states t f
  at_fact t f lf =
      let n = le-ltb (z.horizon * width z + t * z.facts + f) (z.horizon * width z) (omega arith) in
      let d : (z.horizon * width z + t * z.facts + f) - z.horizon * width z ≡ t * z.facts + f = omega arith in
      rw (n, d, div-mul-add t z.facts f lf, mod_place t z.facts f lf)
