-- What hints lead to depends on which literals are taken as false, and not on their order.
use Rattle.std.proofs.Common.{◌≡◌, ◌==◌, ℕ, List, [], ◌∷◌, ◌++◌, length, Bool, true, false, ◌||◌, not, Option, Some, None, if◌then◌else◌, fold, refl, sym, ap, ◌∙◌}
use Rattle.std.proofs.lemmas.List.Folds.{list_any-append}
use Rattle.clause_base.specs.Literal.{opposite}
use Rattle.clause_base.specs.Clause.{has_literal}
use Rattle.containers.specs.Rising.{put}
use Rattle.clause_base.specs.Derivation.{Forces, Loose, open_literals, effect_of_open, effect_of, goes_on, leads_to_conflict}
use Rattle.clause_base.proofs.published.ClauseLemmas.{list_any-put, list_any-fold}
use Rattle.rup_check.proofs.KeptLemmas.{goes_on-same}

-- two lists have the same literals
abbrev Same : List ℕ → List ℕ → Type 0
Same xs ys = (l : ℕ) → has_literal xs l ≡ has_literal ys l

open_same : (xs ys : List ℕ) → Same xs ys → (clause : List ℕ) → open_literals xs clause ≡ open_literals ys clause
open_same xs ys s [] = refl
open_same xs ys s (l ∷ clause) = by (has_literal xs l) (has_literal ys l) (s l) (open_same xs ys s clause)
  where
    by : (b c : Bool) → b ≡ c → open_literals xs clause ≡ open_literals ys clause → (if not b then l ∷ open_literals xs clause else open_literals xs clause) ≡ (if not c then l ∷ open_literals ys clause else open_literals ys clause)
    by true true e h = h
    by false false e h = ap (λ (ls : List ℕ). l ∷ ls) h
    by true false e h = cc
    by false true e h = cc

effect_open_same : (xs ys : List ℕ) → Same xs ys → (ls : List ℕ) → effect_of_open xs ls ≡ effect_of_open ys ls
effect_open_same xs ys s [] = refl
effect_open_same xs ys s (l ∷ []) = ap (λ (b : Bool). if b then Loose else Forces l) (s (opposite l))
effect_open_same xs ys s (l ∷ m ∷ ls) = refl

effect_same : (xs ys : List ℕ) → Same xs ys → (o : Option (List ℕ)) → effect_of xs o ≡ effect_of ys o
effect_same xs ys s None = refl
effect_same xs ys s (Some clause) = ap (effect_of_open xs) (open_same xs ys s clause) ∙ effect_open_same xs ys s (open_literals ys clause)

same_more : (xs ys : List ℕ) (l : ℕ) → Same xs ys → Same (xs ++ l ∷ []) (ys ++ l ∷ [])
same_more xs ys l s m = list_any-append (λ k. k == m) xs (l ∷ []) ∙ ap (λ (b : Bool). b || has_literal (l ∷ []) m) (s m) ∙ sym (list_any-append (λ k. k == m) ys (l ∷ []))

leads_same : (named : ℕ → Option (List ℕ)) (xs ys : List ℕ) → Same xs ys → (hints : List ℕ) → leads_to_conflict named xs hints ≡ leads_to_conflict named ys hints
leads_same named xs ys s [] = refl
leads_same named xs ys s (hint ∷ hints) =
    goes_on-same (λ l. leads_to_conflict named (xs ++ opposite l ∷ []) hints) (λ l. leads_to_conflict named (ys ++ opposite l ∷ []) hints) (length hints == 0) (effect_of xs (named hint)) (λ l. leads_same named (xs ++ opposite l ∷ []) (ys ++ opposite l ∷ []) (same_more xs ys (opposite l) s) hints)
    ∙ ap (goes_on (λ l. leads_to_conflict named (ys ++ opposite l ∷ []) hints) (length hints == 0)) (effect_same xs ys s (named hint))

either : (a b : Bool) → (a || (b || false)) ≡ (b || a)
either true true = refl
either true false = refl
either false true = refl
either false false = refl

-- a literal that is put in is one that is taken as false last
put_leads : (named : ℕ → Option (List ℕ)) (xs hints : List ℕ) (l : ℕ) → leads_to_conflict named (xs ++ l ∷ []) hints ≡ leads_to_conflict named (put xs l) hints
put_leads named xs hints l = leads_same named (xs ++ l ∷ []) (put xs l) (λ m. list_any-append (λ k. k == m) xs (l ∷ []) ∙ either (has_literal xs m) (l == m) ∙ sym (list_any-put (λ k. k == m) xs l)) hints

-- the literals of a clause, put in one after another
fold_leads : (named : ℕ → Option (List ℕ)) (clause hints : List ℕ) → leads_to_conflict named (fold put [] clause) hints ≡ leads_to_conflict named clause hints
fold_leads named clause hints = leads_same named (fold put [] clause) clause (λ m. list_any-fold (λ k. k == m) [] clause) hints

-- one hint on: where its clause forces a literal, the negation is taken as false
pub forced_on : (named : ℕ → Option (List ℕ)) (was now hints rest clause : List ℕ) (hint lit opp : ℕ) → hints ≡ hint ∷ rest → Some clause ≡ named hint → Forces lit ≡ effect_of_open was (open_literals was clause) → opp ≡ opposite lit → now ≡ put was opp → leads_to_conflict named now rest ≡ leads_to_conflict named was hints
forced_on named was now hints rest clause hint lit opp h s f o p =
    let next : ℕ → Bool = λ l. leads_to_conflict named (was ++ opposite l ∷ []) rest in
    ap (λ (xs : List ℕ). leads_to_conflict named xs rest) p
    ∙ sym (put_leads named was rest opp)
    ∙ ap (λ (l : ℕ). leads_to_conflict named (was ++ l ∷ []) rest) o
    ∙ ap (goes_on next (length rest == 0)) f
    ∙ ap (λ (c : Option (List ℕ)). goes_on next (length rest == 0) (effect_of was c)) s
    ∙ ap (leads_to_conflict named was) (sym h)

-- what a clause's hints lead to, its literals taken as false one after another
pub falsified_leads : (named : ℕ → Option (List ℕ)) (was now clause hints : List ℕ) (b : Bool) → was ≡ [] → now ≡ fold put was clause → b ≡ leads_to_conflict named now hints → b ≡ leads_to_conflict named clause hints
falsified_leads named was now clause hints b e f t =
    t
    ∙ ap (λ (xs : List ℕ). leads_to_conflict named xs hints) (f ∙ ap (λ (xs : List ℕ). fold put xs clause) e)
    ∙ fold_leads named clause hints
