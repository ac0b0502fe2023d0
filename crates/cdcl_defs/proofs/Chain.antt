use Rattle.std.proofs.Common.{arith, ◌≡◌, ◌==◌, ℕ, ◌<◌, List, [], ◌∷◌, ◌++◌, Bool, true, false, not, ◌||◌, ◌&&◌, refl, sym, ap, ◌∙◌, filter, Option, Some, ◌⊎◌, inl, inr}
use Rattle.std.specs.List.{AllByRecursion}
use Rattle.std.proofs.lemmas.Bool.Decides.{nat_tests}
use Rattle.std.proofs.lemmas.List.Folds.{list_any-append}
use Rattle.clause_base.specs.Literal.{opposite}
use Rattle.clause_base.specs.Clause.{IsRising}
use Rattle.clause_base.proofs.published.ClauseLemmas.{list_any-fold}
use Rattle.clause_base.specs.Derivation.{open_literals, leads_to_conflict, effect_of_open, Forces}
use Rattle.cdcl_defs.specs.Learn.{resolvent}
use Rattle.cdcl_defs.proofs.published.Tests.{or_true}
use Rattle.cdcl_defs.proofs.published.Members.{is_in, head_in, tail_in, is_in-filter}

-- under these false literals the clause forces the literal
pub record IsUnit (false_ones clause : List ℕ) (l : ℕ) : Type 0 where
  pub has : is_in clause l ≡ true
  pub rest : (m : ℕ) → is_in clause m ≡ true → (m ≡ l) ⊎ (is_in false_ones m ≡ true)
  pub open_here : is_in false_ones l ≡ false
  pub free : is_in false_ones (opposite l) ≡ false

-- all literals of the clause are false
pub record IsFalse (named : ℕ → Option (List ℕ)) (false_ones hints : List ℕ) : Type 0 where
  pub hint : ℕ
  pub clause : List ℕ
  pub only : hints ≡ hint ∷ []
  pub is_named : named hint ≡ Some clause
  pub all : (m : ℕ) → is_in clause m ≡ true → is_in false_ones m ≡ true

pub record Forced (named : ℕ → Option (List ℕ)) (false_ones : List ℕ) (hint l : ℕ) : Type 0 where
  pub clause : List ℕ
  pub is_named : named hint ≡ Some clause
  pub unit : IsUnit false_ones clause l

-- the hints force these literals in turn, and end in a false clause
abbrev pub Chain : (ℕ → Option (List ℕ)) → List ℕ → List ℕ → List ℕ → Type 0
Chain named fs hints [] = IsFalse named fs hints
Chain named fs [] (l ∷ ls) = ⊥
Chain named fs (h ∷ hints) (l ∷ ls) = Forced named fs h l × Chain named (fs ++ opposite l ∷ []) hints ls

-- neither the literal nor its opposite is among these
abbrev pub IsFresh : List ℕ → ℕ → Type 0
IsFresh fs l = (is_in fs l ≡ false) × (is_in fs (opposite l) ≡ false)

pub is_in-push : (fs : List ℕ) (x m : ℕ) → is_in (fs ++ x ∷ []) m ≡ (is_in fs m || x == m)
is_in-push fs x m = grind (arith, nat_tests, list_any-append (λ f. f == m) fs (x ∷ []))

push_false : (fs : List ℕ) (x m : ℕ) → is_in (fs ++ x ∷ []) m ≡ false → (is_in fs m ≡ false) × ((x == m) ≡ false)
push_false fs x m e = parts (is_in fs m) (x == m) (sym (is_in-push fs x m) ∙ e)
  where
    parts : (a b : Bool) → (a || b) ≡ false → (a ≡ false) × (b ≡ false)
    parts true b h = cc
    parts false b h = (refl, h)

push_both : (fs gs : List ℕ) (x l : ℕ) → IsFresh gs l → IsFresh (fs ++ x ∷ []) l → IsFresh (gs ++ x ∷ []) l
push_both fs gs x l g f =
    let p = push_false fs x l f.0 in
    let q = push_false fs x (opposite l) f.1 in
    (rw (is_in-push gs x l, g.0, p.1), rw (is_in-push gs x (opposite l), g.1, q.1))

-- what a chain forces is fresh at its start
fresh_less : (fs : List ℕ) (x : ℕ) (ls : List ℕ) → AllByRecursion (IsFresh (fs ++ x ∷ [])) ls → AllByRecursion (IsFresh fs) ls
fresh_less fs x [] a = tt
fresh_less fs x (l ∷ ls) a = (((push_false fs x l a.0.0).0, (push_false fs x (opposite l) a.0.1).0), fresh_less fs x ls a.1)

chain_fresh : (named : ℕ → Option (List ℕ)) (fs hints ls : List ℕ) → Chain named fs hints ls → AllByRecursion (IsFresh fs) ls
chain_fresh named fs hints [] c = tt
chain_fresh named fs [] (l ∷ ls) c = absurd c
chain_fresh named fs (h ∷ hints) (l ∷ ls) c = ((c.0.unit.open_here, c.0.unit.free), fresh_less fs (opposite l) ls (chain_fresh named (fs ++ opposite l ∷ []) hints ls c.1))

both_all : (fs gs : List ℕ) (x : ℕ) (ls : List ℕ) → AllByRecursion (IsFresh gs) ls → AllByRecursion (IsFresh (fs ++ x ∷ [])) ls → AllByRecursion (IsFresh (gs ++ x ∷ [])) ls
both_all fs gs x [] a b = tt
both_all fs gs x (l ∷ ls) a b = (push_both fs gs x l a.0 b.0, both_all fs gs x ls a.1 b.1)

abbrev pub IsWithin : List ℕ → List ℕ → Type 0
IsWithin fs gs = (m : ℕ) → is_in fs m ≡ true → is_in gs m ≡ true

push_within : (fs gs : List ℕ) (x : ℕ) → IsWithin fs gs → IsWithin (fs ++ x ∷ []) (gs ++ x ∷ [])
push_within fs gs x w m e = rw is_in-push (by (is_in fs m) (x == m) refl (sym (is_in-push fs x m) ∙ e))
  where
    by : (a b : Bool) → is_in fs m ≡ a → (a || b) ≡ true → (is_in gs m || b) ≡ true
    by true b h t = rw (w m h)
    by false true h t = or_true (is_in gs m)
    by false false h t = cc

-- a chain holds under more false literals, where what it forces stays fresh
pub chain_more : (named : ℕ → Option (List ℕ)) (fs gs hints ls : List ℕ) → IsWithin fs gs → AllByRecursion (IsFresh gs) ls → Chain named fs hints ls → Chain named gs hints ls
chain_more named fs gs hints [] w a c = record { hint = c.hint; clause = c.clause; only = c.only; is_named = c.is_named; all = λ m e. w m (c.all m e) }
chain_more named fs gs [] (l ∷ ls) w a c = c
chain_more named fs gs (h ∷ hints) (l ∷ ls) w a c =
    let u = c.0.unit in
    let fresh = chain_fresh named (fs ++ opposite l ∷ []) hints ls c.1 in (
      record {
        clause = c.0.clause;
        is_named = c.0.is_named;
        unit = record { has = u.has; rest = λ m e. widen (u.rest m e); open_here = a.0.0; free = a.0.1 };
      },
      chain_more named (fs ++ opposite l ∷ []) (gs ++ opposite l ∷ []) hints ls (push_within fs gs (opposite l) w) (both_all fs gs (opposite l) ls a.1 fresh) c.1,
    )
  where
    widen : {m : ℕ} → (m ≡ l) ⊎ (is_in fs m ≡ true) → (m ≡ l) ⊎ (is_in gs m ≡ true)
    widen (inl e) = inl e
    widen {m} (inr e) = inr (w m e)

-- the members of a resolvent
pub is_in-resolvent : (clause : List ℕ) (x : ℕ) (forcing : List ℕ) (m : ℕ) → is_in (resolvent clause x forcing) m ≡ ((is_in clause m && not (m == opposite x)) || (is_in forcing m && not (m == x)))
is_in-resolvent clause x forcing m =
    list_any-fold (λ f. f == m) (filter (λ l. not (l == opposite x)) clause) (filter (λ l. not (l == x)) forcing)
    ∙ rw (is_in-filter (λ l. not (l == opposite x)) clause m, is_in-filter (λ l. not (l == x)) forcing m)

eqb_sym : (m n : ℕ) → (m == n) ≡ true → (n == m) ≡ true
eqb_sym m n e = grind (arith, nat_tests)

kept_in : (clause : List ℕ) (x : ℕ) (forcing : List ℕ) (m : ℕ) (same : Bool) → (m == x) ≡ same → is_in forcing m ≡ true → (m ≡ x) ⊎ (is_in (resolvent clause x forcing) m ≡ true)
kept_in clause x forcing m true f e = inl (grind (arith, nat_tests))
kept_in clause x forcing m false f e = inr (is_in-resolvent clause x forcing m ∙ rw (e, f) (or_true (is_in clause m && not (m == opposite x))))

lost_in : (clause : List ℕ) (x : ℕ) (forcing : List ℕ) (m : ℕ) (same : Bool) → (m == opposite x) ≡ same → is_in clause m ≡ true → (is_in (resolvent clause x forcing) m || opposite x == m) ≡ true
lost_in clause x forcing m true f e =
    let k : (opposite x == m) ≡ true = eqb_sym m (opposite x) f in rw k (or_true (is_in (resolvent clause x forcing) m))
lost_in clause x forcing m false f e = rw (is_in-resolvent clause x forcing m, e, f) refl

-- one step of the walk: to resolve on a literal that a clause forces puts the clause before the hints
pub chain_resolved : (named : ℕ → Option (List ℕ)) (clause forcing hints ls : List ℕ) (x r : ℕ) → named r ≡ Some forcing → is_in forcing x ≡ true → IsFresh (resolvent clause x forcing) x → AllByRecursion (IsFresh (resolvent clause x forcing ++ opposite x ∷ [])) ls → Chain named clause hints ls → Chain named (resolvent clause x forcing) (r ∷ hints) (x ∷ ls)
chain_resolved named clause forcing hints ls x r is_named has fresh all c = (
  record {
    clause = forcing;
    is_named = is_named;
    unit = record { has = has; rest = λ m e. rest_in m e; open_here = fresh.0; free = fresh.1 };
  },
  chain_more named clause (resolvent clause x forcing ++ opposite x ∷ []) hints ls within all c,
)
  where
    rest_in : (m : ℕ) → is_in forcing m ≡ true → (m ≡ x) ⊎ (is_in (resolvent clause x forcing) m ≡ true)
    rest_in m e = kept_in clause x forcing m (m == x) refl e

    within : IsWithin clause (resolvent clause x forcing ++ opposite x ∷ [])
    within m e = rw is_in-push (lost_in clause x forcing m (m == opposite x) refl e)

other : (fs : List ℕ) (m : ℕ) (clause : List ℕ) (l k : ℕ) → m ≡ l → m < k → (k ≡ l) ⊎ (is_in fs k ≡ true) → is_in fs k ≡ true
other fs m clause l k s g (inl e) = absurd (omega arith)
other fs m clause l k s g (inr e) = e

not_here : (fs : List ℕ) (m l : ℕ) → (m == l) ≡ false → (m ≡ l) ⊎ (is_in fs m ≡ true) → is_in fs m ≡ true
not_here fs m l f (inl e) = absurd (grind (arith, nat_tests))
not_here fs m l f (inr e) = e

in_tail : (m : ℕ) (clause : List ℕ) (l : ℕ) → (m == l) ≡ false → is_in (m ∷ clause) l ≡ true → is_in clause l ≡ true
in_tail m clause l f e = rw f at e

-- a clause with distinct literals: those that are all false leave none open
open_none : (fs clause : List ℕ) → ((m : ℕ) → is_in clause m ≡ true → is_in fs m ≡ true) → open_literals fs clause ≡ []
open_none fs [] all = refl
open_none fs (m ∷ clause) all =
    let here : is_in fs m ≡ true = all m (head_in m clause) in
    rw here (open_none fs clause (λ k e. all k (tail_in m clause k e)))

rising_tail : (m : ℕ) (clause : List ℕ) → IsRising (m ∷ clause) → IsRising clause
rising_tail m [] r = tt
rising_tail m (k ∷ clause) r = r.1

-- what follows in a rising clause is greater
above_by : (m n : ℕ) (clause : List ℕ) (k : ℕ) (same : Bool) → m < n → (n == k) ≡ same → (is_in clause k ≡ true → n < k) → (same || is_in clause k) ≡ true → m < k
above_by m n clause k true l f later e = let s : n ≡ k = grind (arith, nat_tests) in omega arith
above_by m n clause k false l f later e = omega (arith, later e)

pub above_head : (m : ℕ) (clause : List ℕ) (k : ℕ) → IsRising (m ∷ clause) → is_in clause k ≡ true → m < k
above_head m [] k r e = cc
above_head m (n ∷ clause) k r e = above_by m n clause k (n == k) r.0 refl (above_head n clause k r.1) e

-- a rising clause that is unit leaves its literal open alone
unit_by : (fs : List ℕ) (m : ℕ) (clause : List ℕ) (l : ℕ) (same : Bool) → (m == l) ≡ same → IsRising (m ∷ clause) → IsUnit fs (m ∷ clause) l → (IsUnit fs clause l → open_literals fs clause ≡ l ∷ []) → open_literals fs (m ∷ clause) ≡ l ∷ []
unit_by fs m clause l true f r u later =
    let s : m ≡ l = grind (arith, nat_tests) in
    let here : is_in fs m ≡ false = ap (is_in fs) s ∙ u.open_here in
    rw (here, open_none fs clause (λ k e. other fs m clause l k s (above_head m clause k r e) (u.rest k (tail_in m clause k e)))) (ap (λ n. n ∷ []) s)
unit_by fs m clause l false f r u later =
    let here : is_in fs m ≡ true = not_here fs m l f (u.rest m (head_in m clause)) in
    rw here (later (record { has = in_tail m clause l f u.has; rest = λ k e. u.rest k (tail_in m clause k e); open_here = u.open_here; free = u.free }))

unit_open : (fs clause : List ℕ) (l : ℕ) → IsRising clause → IsUnit fs clause l → open_literals fs clause ≡ l ∷ []
unit_open fs [] l r u = let h : false ≡ true = u.has in cc
unit_open fs (m ∷ clause) l r u = unit_by fs m clause l (m == l) refl r u (unit_open fs clause l (rising_tail m clause r))

forces : (fs : List ℕ) (l : ℕ) → is_in fs (opposite l) ≡ false → effect_of_open fs (l ∷ []) ≡ Forces l
forces fs l e = rw (e, effect_of_open) refl

-- a chain is what the definition of a derived entry asks for
pub chain_leads : (named : ℕ → Option (List ℕ)) (fs hints ls : List ℕ) → ((n : ℕ) (clause : List ℕ) → named n ≡ Some clause → IsRising clause) → Chain named fs hints ls → leads_to_conflict named fs hints ≡ true
chain_leads named fs hints [] r c = rw (c.only, c.is_named, open_none fs c.clause c.all) refl
chain_leads named fs [] (l ∷ ls) r c = absurd c
chain_leads named fs (h ∷ hints) (l ∷ ls) r c =
    rw (c.0.is_named, unit_open fs c.0.clause l (r h c.0.clause c.0.is_named) c.0.unit, forces fs l c.0.unit.free)
    (chain_leads named (fs ++ opposite l ∷ []) hints ls r c.1)
