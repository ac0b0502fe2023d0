-- What a new clause brings: its nodes on their chains, its watched literals right in each prefix of the trail, and the prefixes
-- in which it is not pending.
use Rattle.std.proofs.Common.{arith, ◌≡◌, ◌==◌, ℕ, ◌+◌, ◌*◌, ◌/◌, ◌%◌, ◌<◌, ◌≤◌, List, [], ◌∷◌, ◌++◌, length, take, get_or, leb, Bool, true}
use Rattle.std.proofs.Common.{false, refl, sym, ap, ◌∙◌, subst, Option, Some, None, ◌||◌, inl, inr}
use Rattle.std.proofs.lemmas.List.{take_all}
use Rattle.std.proofs.lemmas.List.Elements.{All-get_or}
use Rattle.clause_base.specs.Clause.{has_literal, IsClause, HasVariablesBelow}
use Rattle.cdcl_defs.specs.Pending.{is_pending}
use Rattle.cdcl_tables.specs.declared.chains.Node.{Node}
use Rattle.cdcl_tables.specs.Linked.{IsLinked, ArePairLoose, blocking_of, placed}
use Rattle.bit_sets.specs.Layered.{words_have}
use Rattle.propagation.specs.declared.pending.Pending.{Pending}
use Rattle.propagation.specs.declared.enter.Entered.{Entered}
use Rattle.propagation.specs.Pending.{is_free, has_two_free, is_pending_on}
use Rattle.propagation.specs.own.Visit.{literal_at, IsAtRest}
use Rattle.propagation.specs.own.Sound.{AreFree}
use Rattle.propagation.specs.own.Added.{Outlasts, IsQuietBelow, IsRaised}
use Rattle.propagation.specs.Front.{IsComplete}
use Rattle.propagation.proofs.Filters.{count_two, pending_off}
use Rattle.propagation.proofs.published.Assigns.{equal_of, apart_of, tests_at_most}
use Rattle.propagation.proofs.Visits.{once}
use Rattle.propagation.proofs.published.Adds.{listed_add, literal_other, literal_own, own_free, free_add, rising_short, pending_other, pending_own}

-- what was done to the tables for a clause of two literals or more
pub record IsEntered (k : List ℕ) (number : ℕ) (trail : List ℕ) (resume_at' heads : List ℕ) (nodes : List Node) (heads' : List ℕ) (nodes' : List Node) (a b : ℕ) : Type 0 where
  pub below : number < length resume_at'
  pub lawful : IsClause k
  pub first : ℕ
  pub second : ℕ
  pub long : 2 ≤ length k
  pub first_in : first < length k
  pub second_in : second < length k
  pub apart : second ≡ first → ⊥
  pub most : (p : ℕ) → p < length k → Outlasts trail (get_or k first 0) (get_or k p 0)
  pub next : (p : ℕ) → p < length k → (p ≡ first → ⊥) → Outlasts trail (get_or k second 0) (get_or k p 0)
  pub first_is : a ≡ get_or k first 0
  pub second_is : b ≡ get_or k second 0
  pub linked : (on : ℕ → Option ℕ) → IsLinked heads nodes on → on (2 * number) ≡ None → on (2 * number + 1) ≡ None
      → IsLinked heads' nodes' (placed (2 * number + 1) (Some b) (placed (2 * number) (Some a) on))
  pub codes : length heads' ≡ length heads
  pub room : 2 * (number + 1) ≤ length nodes'
  pub first_note : blocking_of nodes' (2 * number) ≡ b
  pub second_note : blocking_of nodes' (2 * number + 1) ≡ a
  pub others : (x : ℕ) → (x ≡ 2 * number → ⊥) → (x ≡ 2 * number + 1 → ⊥) → blocking_of nodes' x ≡ blocking_of nodes x

-- a node of no clause is on no chain
off_past : (cl : List (List ℕ)) (resume_at heads : List ℕ) (nodes : List Node) (spare : ℕ) (kept : List Bool) (node : ℕ) (r : IsAtRest cl resume_at heads nodes spare kept)
    → 2 * length cl ≤ node → r.on node ≡ None
off_past cl resume_at heads nodes spare kept node r h = by (r.on node) refl
  where
    by : (o : Option ℕ) → r.on node ≡ o → o ≡ None
    by None e = refl
    by (Some l) e = let real = r.real node l e in absurd (omega (arith, real.below, h))

pub pair_loose : (cl : List (List ℕ)) (resume_at heads : List ℕ) (nodes : List Node) (spare : ℕ) (kept : List Bool) (number : ℕ) (r : IsAtRest cl resume_at heads nodes spare kept)
    → number ≡ length cl → ArePairLoose heads nodes (2 * number)
pair_loose cl resume_at heads nodes spare kept number r e = record {
  on = r.on;
  linked = r.linked;
  first = off_past cl resume_at heads nodes spare kept (2 * number) r (omega (arith, e));
  second = off_past cl resume_at heads nodes spare kept (2 * number + 1) r (omega (arith, e));
}

-- no two places of a clause have one literal
split : (k : List ℕ) (number : ℕ) (trail resume_at' heads : List ℕ) (nodes : List Node) (heads' : List ℕ) (nodes' : List Node) (a b : ℕ)
    → IsEntered k number trail resume_at' heads nodes heads' nodes' a b → a ≡ b → ⊥
split k number trail resume_at' heads nodes heads' nodes' a b e q =
    e.apart (once k e.second e.first e.lawful.rising e.second_in e.first_in (sym e.second_is ∙ sym q ∙ e.first_is))

pub rests_long : (k : List ℕ) (number : ℕ) (trail resume_at resume_at' heads : List ℕ) (nodes : List Node) (heads' : List ℕ) (nodes' : List Node) (a b codes : ℕ)
    → IsEntered k number trail resume_at' heads nodes heads' nodes' a b → (cl : List (List ℕ)) (kept : List Bool) → length cl ≡ number
    → length kept ≡ number → IsAtRest cl resume_at heads nodes codes kept → IsAtRest (cl ++ k ∷ []) resume_at' heads' nodes' codes (kept ++ true ∷ [])
rests_long k number trail resume_at resume_at' heads nodes heads' nodes' a b codes entered cl kept lc lk r =
    let e = subst (λ (n : ℕ). IsEntered k n trail resume_at' heads nodes heads' nodes' a b) (sym lc) entered in
    listed_add cl k resume_at resume_at' heads heads' nodes nodes' codes kept e.first e.second a b r (lk ∙ sym lc) e.below e.first_in e.second_in
    (split k (length cl) trail resume_at' heads nodes heads' nodes' a b e) e.long e.first_is e.second_is
    (e.linked r.on r.linked (off_past cl resume_at heads nodes codes kept (2 * length cl) r (omega arith)) (off_past cl resume_at heads nodes codes kept (2 * length cl + 1) r (omega arith)))
    e.codes e.room e.first_note e.second_note e.others

pub free_long : (k : List ℕ) (number : ℕ) (trail resume_at' heads : List ℕ) (nodes : List Node) (heads' : List ℕ) (nodes' : List Node) (a b : ℕ)
    → IsEntered k number trail resume_at' heads nodes heads' nodes' a b → (cl : List (List ℕ)) (kept : List Bool) (n : ℕ) → length cl ≡ number
    → length kept ≡ number → n ≤ length trail → AreFree cl nodes kept (take n trail) → AreFree (cl ++ k ∷ []) nodes' (kept ++ true ∷ []) (take n trail)
free_long k number trail resume_at' heads nodes heads' nodes' a b entered cl kept n lc lk h f =
    free_add cl k nodes nodes' kept (take n trail) (lk ∙ sym lc) (λ node ne. literal_other cl nodes nodes' node e.others ne) f own
  where
    e : IsEntered k (length cl) trail resume_at' heads nodes heads' nodes' a b
    e = subst (λ (m : ℕ). IsEntered k m trail resume_at' heads nodes heads' nodes' a b) (sym lc) entered

    own : (node : ℕ) → node / 2 ≡ length cl → 2 ≤ length k → has_two_free (has_literal (take n trail)) k ≡ true
        → is_free (has_literal (take n trail)) (literal_at nodes' node) ≡ true
    own node q two t = by (node % 2 == 1) refl (own_free trail k n e.first e.second e.second_in e.apart e.most e.next h t)
      where
        by : (s : Bool) → (node % 2 == 1) ≡ s
            → (is_free (has_literal (take n trail)) (get_or k e.first 0) ≡ true) × (is_free (has_literal (take n trail)) (get_or k e.second 0) ≡ true)
            → is_free (has_literal (take n trail)) (literal_at nodes' node) ≡ true
        by true s o =
            ap (λ (l : ℕ). is_free (has_literal (take n trail)) l) (literal_own nodes' (length cl) a b node true q s e.first_note e.second_note ∙ e.second_is) ∙ o.1
        by false s o =
            ap (λ (l : ℕ). is_free (has_literal (take n trail)) l) (literal_own nodes' (length cl) a b node false q s e.first_note e.second_note ∙ e.first_is) ∙ o.0

-- as long as the second is not false, two are not
pub quiet_long : (k : List ℕ) (number : ℕ) (trail resume_at' heads : List ℕ) (nodes : List Node) (heads' : List ℕ) (nodes' : List Node) (a b until : ℕ)
    → IsEntered k number trail resume_at' heads nodes heads' nodes' a b
    → ((n : ℕ) → n ≤ length trail → is_free (has_literal (take n trail)) b ≡ leb n until) → IsQuietBelow k trail (until + 1)
quiet_long k number trail resume_at' heads nodes heads' nodes' a b until e lasts n h l =
    let m : n ≤ until = omega (arith, l) in
    let on = has_literal (take n trail) in
    let second : is_free on (get_or k e.second 0) ≡ true = ap (λ (x : ℕ). is_free on x) (sym e.second_is) ∙ lasts n h ∙ tests_at_most n until m in
    let first = e.most e.second e.second_in n h second in
    pending_off on k (count_two (is_free on) k e.second e.first e.second_in e.first_in e.apart second first)

pub below_by : (v p : ℕ) (k : List ℕ) → HasVariablesBelow v k → p < length k → get_or k p 0 < 2 * v
below_by v p k h l = let a = All-get_or (λ (x : ℕ). x / 2 < v) k p 0 l h in omega (arith, a)

pub short_by : (v : ℕ) (k : List ℕ) → v ≤ 2147483647 → IsClause k → HasVariablesBelow v k → length k ≤ 4294967295
short_by v [] s c h = omega arith
short_by v (x ∷ xs) s c h = let r = rising_short x xs (2 * v) c.rising (λ p l. below_by v p (x ∷ xs) h l) in omega (arith, r, s)

-- those that were pending are in the set, and so is the new clause where it is pending
pub complete_add : (cl : List (List ℕ)) (k : List ℕ) (kept : List Bool) (trail : List ℕ) (number : ℕ) (entered : Entered) (old new : Pending)
    → length kept ≡ length cl → number ≡ length cl → IsComplete (is_pending_on cl kept trail) old → IsRaised trail number entered old new
    → IsQuietBelow k trail entered.low → IsComplete (is_pending_on (cl ++ k ∷ []) (kept ++ true ∷ []) trail) new
complete_add cl k kept trail number entered old new lk e complete raised calm c p = by (c == number) refl raised
  where
    before : (c ≡ number → ⊥) → words_have old.numbers c ≡ true
    before ne = complete c (sym (pending_other cl k kept trail c lk (λ (q : c ≡ length cl). ne (q ∙ sym e))) ∙ p)

    by : (b : Bool) → (c == number) ≡ b → IsRaised trail number entered old new → words_have new.numbers c ≡ true
    by b f (inl r) = r.1.has c ∙ put b f
      where
        put : (a : Bool) → (c == number) ≡ a → ((c == number) || words_have old.numbers c) ≡ true
        put true g = ap (λ (x : Bool). x || words_have old.numbers c) g
        put false g = ap (λ (x : Bool). x || words_have old.numbers c) g ∙ before (apart_of c number g)
    by true f (inr r) =
        let whole = subst (λ (xs : List ℕ). is_pending (has_literal xs) k ≡ false) (take_all (length trail) trail (omega arith)) (calm (length trail) (omega arith) r.0) in
        let z : true ≡ false = sym p ∙ pending_own cl k kept trail c (equal_of c number f ∙ e) whole in
        absurd (let w : ⊥ = cc in w)
    by false f (inr r) = ap (λ (q : Pending). words_have q.numbers c) r.1 ∙ before (apart_of c number f)
