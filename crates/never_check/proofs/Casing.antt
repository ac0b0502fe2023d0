-- Cases one way after another.
use Rattle.std.proofs.Common.{◌≡◌, ◌==◌, ◌≤◌, ℕ, List, [], ◌∷◌, ◌++◌, map, length, take, Bool, true, false, refl, ap, sym, ◌∙◌, subst, ◌⊎◌, inl, inr}
use Rattle.std.specs.Prelude.{if◌then◌else◌, MatchBool}
use Rattle.std.specs.List.{AllByRecursion, filter, flat_map}
use Rattle.gt_core.specs.Literal.{opposite, is_in}
use Rattle.gt_core.specs.Task.{Effect, Action}
use Rattle.gt_core.proofs.published.Basics.{Among, each_from, apart}
use Rattle.gt_core.proofs.published.Literals.{in_split, in_left, in_right}
use Rattle.implied_literals.specs.Rows.{HasNoPair}
use Rattle.never_defs.specs.Propagation.{IsLeft}
use Rattle.never_defs.specs.Cases.{Case, both, cases_of, conditions_of, none_makes, if_made}
use Rattle.never_check.specs.Follow.{HasAll, Obeys, IsGrown, IsContradiction, IsFollowed}
use Rattle.never_check.specs.Rules.{AreFollowed}
use Rattle.never_check.specs.Refuted.{ObeysMore, IsContradicted, AreContradicted, IsWayContradicted}
use Rattle.never_check.specs.declared.rules.Rules.{Rules}
use Rattle.never_check.proofs.Grown.{front_in, front_part, either_way}
use Rattle.never_check.proofs.Beginning.{each_map}

pub all_joined : {A : Type 0} (P : A → Type 0) (xs ys : List A) → AllByRecursion P xs → AllByRecursion P ys → AllByRecursion P (xs ++ ys)
all_joined P [] ys a b = b
all_joined P (x ∷ xs) ys a b = (a.0, all_joined P xs ys a.1 b)

pub all_split : {A : Type 0} (P : A → Type 0) (xs ys : List A) → AllByRecursion P (xs ++ ys) → AllByRecursion P xs × AllByRecursion P ys
all_split P [] ys a = (tt, a)
all_split P (x ∷ xs) ys a = let r = all_split P xs ys a.1 in ((a.0, r.0), r.1)

pub has_split : (set : ℕ → Bool) (xs ys : List ℕ) → HasAll set (xs ++ ys) → HasAll set xs × HasAll set ys
has_split set xs ys h = (λ l i. h l (in_left xs ys l i), λ l i. h l (in_right xs ys l i))

pub has_joined : (set : ℕ → Bool) (xs ys : List ℕ) → HasAll set xs → HasAll set ys → HasAll set (xs ++ ys)
has_joined set xs ys a b l i = elim (in_split xs ys l i) [ inl h ↦ a l h | inr h ↦ b l h ]

-- over the cases with one way
mapped : (P Q : Case → Type 0) (p : Case) (qs : List Case) → ((q : Case) → Q q → P (both p q)) → AllByRecursion Q qs → AllByRecursion P (map (both p) qs)
mapped P Q p [] f all = tt
mapped P Q p (q ∷ qs) f all = (f q all.0, mapped P Q p qs f all.1)

unmapped : (P Q : Case → Type 0) (p : Case) (qs : List Case) → ((q : Case) → P (both p q) → Q q) → AllByRecursion P (map (both p) qs) → AllByRecursion Q qs
unmapped P Q p [] f all = tt
unmapped P Q p (q ∷ qs) f all = (f q all.0, unmapped P Q p qs f all.1)

module _ (rules : Rules) (more : List (List ℕ)) (tr : List ℕ) where
  -- ---- no literal is left

  pub leaf_true : (x : Action) → IsContradiction (ObeysMore rules more) tr → AreContradicted rules more tr (cases_of x [])
  leaf_true x k = (λ set obeys more_obeyed has hasq none. k set obeys has none, tt)

  pub leaf_false : (x : Action) (new : List ℕ) → HasNoPair (is_in tr) → IsGrown (ObeysMore rules more) tr new × AreFollowed rules new new × AllByRecursion (Obeys (is_in new)) more → AreContradicted rules more tr (cases_of x []) → ⊥
  leaf_false x new none t all =
      all.0 (is_in new) ((record { given = tt; single = t.1.single; chain = t.1.chain }, t.1.unit), t.2) tt (front_in tr new t.0.front) (λ l i. absurd (apart _ i refl)) (t.0.apart none)

  -- ---- what is settled before the ways part

  pub settled_clash : IsContradiction (ObeysMore rules more) tr → (qs : List Case) → AreContradicted rules more tr qs
  settled_clash k qs = each_from (IsContradicted rules more tr) qs (λ q i set obeys obq has hasq none. k set obeys has none)

  pub settled_told : (new : List ℕ) → IsGrown (ObeysMore rules more) tr new → (qs : List Case) (b : Bool)
      → MatchBool b (AreContradicted rules more new qs) (AreContradicted rules more new qs → ⊥) → MatchBool b (AreContradicted rules more tr qs) (AreContradicted rules more tr qs → ⊥)
  settled_told new g qs b told =
      either_way b (λ all. each_map (IsContradicted rules more new) (IsContradicted rules more tr) qs (λ q k set obeys obq has hasq none. k set obeys obq (g.sound set obeys has) hasq none) all)
      (λ nay all. nay (each_map (IsContradicted rules more tr) (IsContradicted rules more new) qs (λ q k set obeys obq has hasq none. k set obeys obq (λ l i. has l (front_in tr new g.front l i)) hasq none) all)) told

  -- ---- one way

  pub way_clash : (literals : List ℕ) (clauses : List (List ℕ)) (qs : List Case) → IsContradiction (λ set. HasAll set literals) tr → IsWayContradicted rules more tr qs (record { literals = literals; clauses = clauses })
  way_clash literals clauses qs k = mapped (IsContradicted rules more tr) (λ q. Unit {0}) (record { literals = literals; clauses = clauses }) qs (λ q u set obeys obq has hasq none. k set (has_split set literals q.literals hasq).0 has none) (units qs)
    where
      units : (qs : List Case) → AllByRecursion (λ q. Unit {0}) qs
      units [] = tt
      units (q ∷ qs) = (tt, units qs)

  module _ (literals : List ℕ) (clauses together : List (List ℕ)) (joins : together ≡ more ++ clauses) (next : List ℕ)
      (assumed : IsGrown (λ set. HasAll set literals) tr next × HasAll (is_in next) literals) (qs : List Case) where
    pub way_true : AreContradicted rules together next qs → IsWayContradicted rules more tr qs (record { literals = literals; clauses = clauses })
    way_true all = mapped (IsContradicted rules more tr) (IsContradicted rules together next) (record { literals = literals; clauses = clauses }) qs (λ q k set obeys obq has hasq none.
        let hs = has_split set literals q.literals hasq in
        let os = all_split (Obeys set) clauses q.clauses obq in
        k set (obeys.0, subst (λ (cs : List (List ℕ)). AllByRecursion (Obeys set) cs) (sym joins) (all_joined (Obeys set) more clauses obeys.1 os.0)) os.1 (assumed.0.sound set hs.0 has) hs.1 none) all

    pub way_false : (AreContradicted rules together next qs → ⊥) → IsWayContradicted rules more tr qs (record { literals = literals; clauses = clauses }) → ⊥
    way_false nay all = nay (unmapped (IsContradicted rules more tr) (IsContradicted rules together next) (record { literals = literals; clauses = clauses }) qs (λ q k set obeys obq has hasq none.
        let os = all_split (Obeys set) more clauses (subst (λ (cs : List (List ℕ)). AllByRecursion (Obeys set) cs) joins obeys.1) in
        k set (obeys.0, os.0) (all_joined (Obeys set) clauses q.clauses os.1 obq) (λ l i. has l (front_in tr next assumed.0.front l i))
        (has_joined set literals q.literals (λ l i. has l (assumed.1 l i)) hasq) none) all)

  -- ---- the ways of one literal

  flat_true : (x : Action) (qs : List Case) (ps : List Case) → AllByRecursion (IsWayContradicted rules more tr qs) ps → AreContradicted rules more tr (flat_map (λ p. map (both p) qs) ps)
  flat_true x qs [] all = tt
  flat_true x qs (p ∷ ps) all = all_joined (IsContradicted rules more tr) (map (both p) qs) (flat_map (λ q. map (both q) qs) ps) all.0 (flat_true x qs ps all.1)

  flat_false : (x : Action) (qs : List Case) (ps : List Case) → AreContradicted rules more tr (flat_map (λ p. map (both p) qs) ps) → AllByRecursion (IsWayContradicted rules more tr qs) ps
  flat_false x qs [] all = tt
  flat_false x qs (p ∷ ps) all = let r = all_split (IsContradicted rules more tr) (map (both p) qs) (flat_map (λ q. map (both q) qs) ps) all in (r.0, flat_false x qs ps r.1)

  -- over conditions, as ways
  as_ways : (x : Action) (l : ℕ) (qs : List Case) (cs : List (List ℕ)) → AllByRecursion (λ c. IsWayContradicted rules more tr qs (record { literals = c; clauses = if_made x l })) cs → AllByRecursion (IsWayContradicted rules more tr qs) (map (λ c. let q : Case = record { literals = c; clauses = if_made x l } in q) cs)
  as_ways x l qs [] all = tt
  as_ways x l qs (c ∷ cs) all = (all.0, as_ways x l qs cs all.1)

  from_ways : (x : Action) (l : ℕ) (qs : List Case) (cs : List (List ℕ)) → AllByRecursion (IsWayContradicted rules more tr qs) (map (λ c. let q : Case = record { literals = c; clauses = if_made x l } in q) cs) → AllByRecursion (λ c. IsWayContradicted rules more tr qs (record { literals = c; clauses = if_made x l })) cs
  from_ways x l qs [] all = tt
  from_ways x l qs (c ∷ cs) all = (all.0, from_ways x l qs cs all.1)

  module _ (x : Action) (l : ℕ) (c : List ℕ) where
    abbrev Made : List ℕ → Type 0
    Made d = IsWayContradicted rules more tr (cases_of x c) (record { literals = d; clauses = if_made x (opposite l) })

    abbrev Stays : Type 0
    Stays = IsWayContradicted rules more tr (cases_of x c) (record { literals = opposite l ∷ []; clauses = none_makes x (opposite (opposite l)) })

    abbrev WaysIf : Bool → List Case
    WaysIf b =
        if b
        then record { literals = []; clauses = if_made x (opposite l) } ∷ []
        else record { literals = opposite l ∷ []; clauses = none_makes x (opposite (opposite l)) } ∷ map (λ d. record { literals = d; clauses = if_made x (opposite l) }) (conditions_of x (opposite l))

    abbrev CasesIf : Bool → Type 0
    CasesIf b = AreContradicted rules more tr (flat_map (λ p. map (both p) (cases_of x c)) (WaysIf b))

    pub sure_true : (b : Bool) → b ≡ true → Made [] → CasesIf b
    sure_true true e m = flat_true x (cases_of x c) (WaysIf true) (m, tt)
    sure_true false e m = let z : false ≡ true = e in absurd (let w : ⊥ = cc in w)

    pub sure_false : (b : Bool) → b ≡ true → (Made [] → ⊥) → CasesIf b → ⊥
    sure_false true e nay all = nay (flat_false x (cases_of x c) (WaysIf true) all).0
    sure_false false e nay all = let z : false ≡ true = e in absurd (let w : ⊥ = cc in w)

    pub open_true : (b : Bool) → b ≡ false → Stays → AllByRecursion Made (conditions_of x (opposite l)) → CasesIf b
    open_true false e s m = flat_true x (cases_of x c) (WaysIf false) (s, as_ways x (opposite l) (cases_of x c) (conditions_of x (opposite l)) m)
    open_true true e s m = let z : true ≡ false = e in absurd (let w : ⊥ = cc in w)

    pub open_stays : (b : Bool) → b ≡ false → (Stays → ⊥) → CasesIf b → ⊥
    open_stays false e nay all = nay (flat_false x (cases_of x c) (WaysIf false) all).0
    open_stays true e nay all = let z : true ≡ false = e in absurd (let w : ⊥ = cc in w)

    pub open_made : (b : Bool) → b ≡ false → (AllByRecursion Made (conditions_of x (opposite l)) → ⊥) → CasesIf b → ⊥
    open_made false e nay all = nay (from_ways x (opposite l) (cases_of x c) (conditions_of x (opposite l)) (flat_false x (cases_of x c) (WaysIf false) all).1)
    open_made true e nay all = let z : true ≡ false = e in absurd (let w : ⊥ = cc in w)

-- ---- a trail with more literals is ready

pub followed_more : (known : List (ℕ × ℕ)) (clauses : List (List ℕ)) (old new : List ℕ) (from : ℕ) → from ≤ length old → take (length old) new ≡ old → IsFollowed known clauses (take from old) old → IsFollowed known clauses (take from new) new
followed_more known clauses old new from le front f = subst (λ (ls : List ℕ). IsFollowed known clauses ls new) (sym (front_part old new from front le)) (record {
  single = λ l v. front_in old new front l (f.single l v);
  chain = λ x y i v. front_in old new front y (f.chain x y i v);
  unit = each_map (λ c. (l : ℕ) → IsLeft (is_in (take from old)) c l → is_in old l ≡ true) (λ c. (l : ℕ) → IsLeft (is_in (take from old)) c l → is_in new l ≡ true) clauses (λ c t l left. front_in old new front l (t l left)) f.unit;
})

-- ---- effects with a literal, one after another

-- what holds of the conditions so far, and of one more effect's where it has the literal
pub conditions_push : (P : List ℕ → Type 0) (l : ℕ) (es : List Effect) (e : Effect) → AllByRecursion P (map (λ d. d.condition) (filter (λ d. d.literal == l) es)) → ((e.literal == l) ≡ true → P e.condition)
    → AllByRecursion P (map (λ d. d.condition) (filter (λ d. d.literal == l) (es ++ e ∷ [])))
conditions_push P l [] e all one = by (e.literal == l) refl
  where
    by : (b : Bool) → (e.literal == l) ≡ b → AllByRecursion P (map (λ d. d.condition) (if b then e ∷ [] else []))
    by true s = (one s, tt)
    by false s = tt
conditions_push P l (d ∷ es) e all one = by (d.literal == l) (λ rest. conditions_push P l es e rest one) all
  where
    by : (b : Bool) → (AllByRecursion P (map (λ g. g.condition) (filter (λ g. g.literal == l) es)) → AllByRecursion P (map (λ g. g.condition) (filter (λ g. g.literal == l) (es ++ e ∷ []))))
        → AllByRecursion P (map (λ g. g.condition) (if b then d ∷ filter (λ g. g.literal == l) es else filter (λ g. g.literal == l) es))
        → AllByRecursion P (map (λ g. g.condition) (if b then d ∷ filter (λ g. g.literal == l) (es ++ e ∷ []) else filter (λ g. g.literal == l) (es ++ e ∷ [])))
    by true go h = (h.0, go h.1)
    by false go h = go h

-- what holds of all conditions holds of an effect's with the literal
pub conditions_at : (P : List ℕ → Type 0) (l : ℕ) (es : List Effect) (e : Effect) → Among e es → (e.literal == l) ≡ true → AllByRecursion P (map (λ d. d.condition) (filter (λ d. d.literal == l) es)) → P e.condition
conditions_at P l [] e among s all = absurd among
conditions_at P l (d ∷ es) e among s all = by (d.literal == l) refl (λ i rest. conditions_at P l es e i s rest) among all
  where
    by : (b : Bool) → (d.literal == l) ≡ b → (Among e es → AllByRecursion P (map (λ g. g.condition) (filter (λ g. g.literal == l) es)) → P e.condition)
        → (e ≡ d) ⊎ Among e es → AllByRecursion P (map (λ g. g.condition) (if b then d ∷ filter (λ g. g.literal == l) es else filter (λ g. g.literal == l) es)) → P e.condition
    by true is go (inl same) h = subst (λ (g : Effect). P g.condition) (sym same) h.0
    by true is go (inr i) h = go i h.1
    by false is go (inl same) h = absurd (apart _ (ap (λ (g : Effect). g.literal == l) (sym same) ∙ s) is)
    by false is go (inr i) h = go i h
