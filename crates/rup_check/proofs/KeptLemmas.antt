-- What the checker knows after some entries, and what it decides by that.
use Rattle.std.proofs.Common.{arith, ◌≡◌, ◌==◌, ℕ, zero, suc, ◌+◌, ◌-◌, ◌<◌, ◌≤◌, nat_lt, List, [], ◌∷◌, ◌++◌, length, get_or, slice_index_or, Bool, true, false, ◌||◌, ◌&&◌, not, Option, Some, None, refl, sym, ap, ◌∙◌, subst, All, replicate, IfSome, if◌then◌else◌, length-append, take, add-one}
use Rattle.std.specs.List.{list_any, slice_get}
use Rattle.std.specs.Option.{is_some}
use Rattle.std.proofs.Math.Bool.{or-false}
use Rattle.std.proofs.Math.Seq.{take-suc}
use Rattle.std.proofs.lemmas.List.Folds.{list_any-append}
use Rattle.std.proofs.lemmas.Bool.Decides.{nat_tests}
use Rattle.std.proofs.lemmas.List.{get_or_past, get_or_append_left}
use Rattle.std.proofs.lemmas.Option.{slice_get_past}
use Rattle.std.proofs.Math.Seq.{get_or-append_seam}
use Rattle.clause_base.specs.Literal.{opposite}
use Rattle.clause_base.specs.Clause.{HasVariablesBelow, has_variables_below}
use Rattle.clause_base.specs.Derivation.{Effect, Conflicts, Forces, Loose, effect_of, goes_on, leads_to_conflict, clauses_of, drops, clause_kept, is_derived_after, IsDerivedAt}
use Rattle.clause_base.specs.declared.log.Entry.{Entry}
use Rattle.clause_base.specs.declared.log.Entry.TheVariants.{Learn, Drop}
use Rattle.clause_base.proofs.published.ClauseLemmas.{below_from_test}
use Rattle.clause_base.proofs.published.RepeatLemmas.{get_left}
use Rattle.rup_check.specs.own.Kept.{is_dropped, kept_named, is_derived_by, IsKnownAfter}
use Rattle.rup_check.specs.Taken.{NamesBelow}

pub goes_on-same : (next other : ℕ → Bool) (ends : Bool) (e : Effect) → ((l : ℕ) → next l ≡ other l) → goes_on next ends e ≡ goes_on other ends e
goes_on-same next other ends Conflicts h = refl
goes_on-same next other ends (Forces l) h = h l
goes_on-same next other ends Loose h = refl

-- hints that name the same clauses lead to the same
pub leads_to_conflict-same : (named other : ℕ → Option (List ℕ)) (falsified hints : List ℕ) → ((n : ℕ) → named n ≡ other n) → leads_to_conflict named falsified hints ≡ leads_to_conflict other falsified hints
leads_to_conflict-same named other falsified [] h = refl
leads_to_conflict-same named other falsified (hint ∷ hints) h =
    ap (λ (o : Option (List ℕ)). goes_on (λ l. leads_to_conflict named (falsified ++ opposite l ∷ []) hints) (length hints == 0) (effect_of falsified o)) (h hint)
    ∙ goes_on-same _ _ (length hints == 0) (effect_of falsified (other hint)) (λ l. leads_to_conflict-same named other (falsified ++ opposite l ∷ []) hints h)

-- what is decided by what is known is what derivations ask
pub is_derived_by-known : (variables : ℕ) (clauses : List (List ℕ)) (earlier : List Entry) (dropped : List Bool) (learned : List (Option (List ℕ))) (entry : Entry) → IsKnownAfter clauses earlier dropped learned → is_derived_by variables clauses dropped learned entry ≡ is_derived_after variables clauses earlier (Some entry)
is_derived_by-known variables clauses earlier dropped learned (Learn clause hints) k =
    ap (λ (b : Bool). has_variables_below variables clause && b) (leads_to_conflict-same _ _ clause hints k.named)
is_derived_by-known variables clauses earlier dropped learned (Drop number) k = ap (λ (o : Option (List ℕ)). is_some o) (k.named number)

clauses_of-append : (earlier more : List Entry) → clauses_of (earlier ++ more) ≡ clauses_of earlier ++ clauses_of more
clauses_of-append [] more = refl
clauses_of-append (Learn clause hints ∷ earlier) more = ap (λ (xss : List (List ℕ)). clause ∷ xss) (clauses_of-append earlier more)
clauses_of-append (Drop number ∷ earlier) more = clauses_of-append earlier more

pub any-append : (p : Entry → Bool) (earlier : List Entry) (entry : Entry) → list_any p (earlier ++ entry ∷ []) ≡ (list_any p earlier || p entry)
any-append p earlier entry = list_any-append p earlier (entry ∷ []) ∙ ap (λ (b : Bool). list_any p earlier || b) (or-false (p entry))

-- what a number names after one more entry, where it named what `named` says and the next number is `end`
abbrev pub named_next : ℕ → Entry → (ℕ → Option (List ℕ)) → ℕ → Option (List ℕ)
named_next end (Learn clause hints) named number = if number == end then Some clause else named number
named_next end (Drop dropped) named number = if dropped == number then None else named number

get_end : (clauses : List (List ℕ)) (clause : List ℕ) → slice_get (clauses ++ clause ∷ []) (length clauses) ≡ Some clause
get_end [] clause = refl
get_end (x ∷ clauses) clause = get_end clauses clause

append_twice : (xs ys zs : List (List ℕ)) → xs ++ (ys ++ zs) ≡ (xs ++ ys) ++ zs
append_twice [] ys zs = refl
append_twice (x ∷ xs) ys zs = ap (λ (r : List (List ℕ)). x ∷ r) (append_twice xs ys zs)

append_none : (xs : List (List ℕ)) → xs ++ [] ≡ xs
append_none [] = refl
append_none (x ∷ xs) = ap (λ (r : List (List ℕ)). x ∷ r) (append_none xs)

-- the clause at the end of some more is at its place, and the others are at theirs
get_next : (clauses : List (List ℕ)) (clause : List ℕ) (n : ℕ) → (if n == length clauses then Some clause else slice_get clauses n) ≡ slice_get (clauses ++ clause ∷ []) n
get_next clauses clause n = by (n == length clauses) refl
  where
    beside : (b : Bool) → nat_lt n (length clauses) ≡ b → (n == length clauses) ≡ false → slice_get clauses n ≡ slice_get (clauses ++ clause ∷ []) n
    beside true e f = sym (get_left clauses (clause ∷ []) n (grind (arith, nat_tests)))
    beside false e f =
        let long : length (clauses ++ clause ∷ []) ≡ length clauses + 1 = length-append clauses (clause ∷ []) in
        let apart : (n ≡ length clauses) → ⊥ = grind (arith, nat_tests) in
        let past : length clauses ≤ n = grind (arith, nat_tests) in
        slice_get_past clauses n past ∙ sym (slice_get_past (clauses ++ clause ∷ []) n (omega (arith, long, apart, past)))

    by : (b : Bool) → (n == length clauses) ≡ b → (if b then Some clause else slice_get clauses n) ≡ slice_get (clauses ++ clause ∷ []) n
    by true e = let same : n ≡ length clauses = grind (arith, nat_tests) in sym (ap (slice_get (clauses ++ clause ∷ [])) same ∙ get_end clauses clause)
    by false e = beside (nat_lt n (length clauses)) refl e

abbrev kept_of : Bool → Option (List ℕ) → Option (List ℕ)
kept_of dropped o = if not dropped then o else None

apart : false ≡ true → ⊥
apart e = cc

learn_kept : (clause : List ℕ) (new gone : Bool) (o : Option (List ℕ)) → (new ≡ true → gone ≡ false) → (if new then Some clause else kept_of gone o) ≡ kept_of gone (if new then Some clause else o)
learn_kept clause true true o h = let e : false ≡ true = sym (h refl) in absurd (apart e)
learn_kept clause true false o h = refl
learn_kept clause false gone o h = refl

drop_kept : (now gone : Bool) (o : Option (List ℕ)) → (if now then None else kept_of gone o) ≡ kept_of (gone || now) o
drop_kept true true o = refl
drop_kept true false o = refl
drop_kept false true o = refl
drop_kept false false o = refl

module _ (clauses : List (List ℕ)) (earlier : List Entry) where
  abbrev all : List (List ℕ)
  all = clauses ++ clauses_of earlier

  -- the next number, and what each number names after one more entry
  next_kept : (entry : Entry) (n : ℕ) → (length all ≤ n → list_any (drops n) earlier ≡ false) → named_next (length all) entry (clause_kept clauses earlier) n ≡ clause_kept clauses (earlier ++ entry ∷ []) n
  next_kept (Learn clause hints) n later =
      let none : (n == length all) ≡ true → list_any (drops n) earlier ≡ false = λ e. later (let same : n ≡ length all = grind (arith, nat_tests) in omega (arith, same)) in
      learn_kept clause (n == length all) (list_any (drops n) earlier) (slice_get all n) none
      ∙ ap (kept_of (list_any (drops n) earlier)) (get_next all clause n)
      ∙ ap (λ (b : Bool). kept_of b (slice_get (all ++ clause ∷ []) n)) (sym (any-append (drops n) earlier (Learn clause hints) ∙ or-false (list_any (drops n) earlier)))
      ∙ ap (λ (cs : List (List ℕ)). kept_of (list_any (drops n) (earlier ++ Learn clause hints ∷ [])) (slice_get cs n)) (sym (append_twice clauses (clauses_of earlier) (clause ∷ [])) ∙ ap (λ (cs : List (List ℕ)). clauses ++ cs) (sym (clauses_of-append earlier (Learn clause hints ∷ []))))
  next_kept (Drop number) n later =
      drop_kept (number == n) (list_any (drops n) earlier) (slice_get all n)
      ∙ ap (λ (b : Bool). kept_of b (slice_get all n)) (sym (any-append (drops n) earlier (Drop number)))
      ∙ ap (λ (cs : List (List ℕ)). kept_of (list_any (drops n) (earlier ++ Drop number ∷ [])) (slice_get (clauses ++ cs) n)) (sym (clauses_of-append earlier (Drop number ∷ []) ∙ append_none (clauses_of earlier)))

some_within : (cs : List (List ℕ)) (n : ℕ) (gone : Bool) → is_some (kept_of gone (slice_get cs n)) ≡ true → n < length cs
some_within [] n true t = cc
some_within [] n false t = cc
some_within (c ∷ cs) zero gone t = omega arith
some_within (c ∷ cs) (suc n) gone t = let h = some_within cs n gone t in omega (arith, h)

next_named : (end other : ℕ) (entry : Entry) (named known : ℕ → Option (List ℕ)) (n : ℕ) → end ≡ other → named n ≡ known n → named_next end entry named n ≡ named_next other entry known n
next_named end other (Learn clause hints) named known n e h = ap (λ (m : ℕ). if n == m then Some clause else named n) e ∙ ap (λ (o : Option (List ℕ)). if n == other then Some clause else o) h
next_named end other (Drop number) named known n e h = ap (λ (o : Option (List ℕ)). if number == n then None else o) h

-- with one more entry
pub known-more : (variables : ℕ) (clauses : List (List ℕ)) (log : List Entry) (entry : Entry) (dropped now : List Bool) (learned more : List (Option (List ℕ))) → IsKnownAfter clauses log dropped learned
    → is_derived_by variables clauses dropped learned entry ≡ true
    → ((n : ℕ) → kept_named clauses now more n ≡ named_next (length clauses + length learned) entry (kept_named clauses dropped learned) n)
    → length more ≡ length learned + length (clauses_of (entry ∷ [])) → IsKnownAfter clauses (log ++ entry ∷ []) now more
known-more variables clauses log entry dropped now learned more k t h l = record {
  named = λ n. h n ∙ next_named _ _ entry _ _ n end (k.named n) ∙ next_kept clauses log entry n (λ le. k.later n (omega (arith, end, le)));
  count = l ∙ ap (λ (m : ℕ). m + length (clauses_of (entry ∷ []))) k.count ∙ sym (ap length (clauses_of-append log (entry ∷ [])) ∙ length-append (clauses_of log) (clauses_of (entry ∷ [])));
  later = λ n le. any-append (drops n) log entry ∙ none n le entry refl;
}
  where
    end : length clauses + length learned ≡ length (clauses ++ clauses_of log)
    end = let c = k.count in let a : length (clauses ++ clauses_of log) ≡ length clauses + length (clauses_of log) = length-append clauses (clauses_of log) in omega (arith, a, c)

    none : (n : ℕ) → length clauses + length more ≤ n → (e : Entry) → entry ≡ e → (list_any (drops n) log || drops n e) ≡ false
    none n le (Learn clause hints) e = or-false (list_any (drops n) log) ∙ k.later n (omega (arith, le, l))
    none n le (Drop number) e =
        let dropped_some : is_some (clause_kept clauses log number) ≡ true = sym (ap is_some (k.named number)) ∙ subst (λ (x : Entry). is_derived_by variables clauses dropped learned x ≡ true) e t in
        let within : number < length (clauses ++ clauses_of log) = some_within (clauses ++ clauses_of log) number (list_any (drops number) log) dropped_some in
        let apart : (number ≡ n) → ⊥ = λ same. let x : ⊥ = omega (arith, same, within, end, le, l) in x in
        let other : (number == n) ≡ false = grind (arith, nat_tests) in
        ap (λ (b : Bool). b || (number == n)) (k.later n (omega (arith, le, l))) ∙ other

none_dropped : (n k : ℕ) → is_dropped (replicate n false) k ≡ false
none_dropped zero k = refl
none_dropped (suc n) zero = refl
none_dropped (suc n) (suc k) = none_dropped n k

pub known-none : (clauses : List (List ℕ)) (n : ℕ) (dropped : List Bool) (learned : List (Option (List ℕ))) → dropped ≡ replicate n false → learned ≡ [] → IsKnownAfter clauses [] dropped learned
known-none clauses n dropped learned e f = record {
  named = λ k. ap (λ (bs : List Bool). kept_named clauses bs learned k) e ∙ ap (λ (os : List (Option (List ℕ))). kept_named clauses (replicate n false) os k) f ∙ first k;
  count = ap length f;
  later = λ k le. refl;
}
  where
    same : (k : ℕ) → slice_get clauses k ≡ slice_get (clauses ++ []) k
    same k = ap (λ (cs : List (List ℕ)). slice_get cs k) (sym (append_none clauses))

    past : (k : ℕ) → nat_lt k (length clauses) ≡ false → None ≡ slice_get clauses k
    past k e = sym (slice_get_past clauses k (grind (arith, nat_tests)))

    by : (k : ℕ) (b : Bool) → nat_lt k (length clauses) ≡ b → (if b then slice_get clauses k else None) ≡ slice_get clauses k
    by k true e = refl
    by k false e = past k e

    first : (k : ℕ) → kept_named clauses (replicate n false) [] k ≡ slice_get (clauses ++ []) k
    first k =
        ap (λ (b : Bool). if nat_lt k (length clauses) then (if b then None else slice_get clauses k) else None) (none_dropped n k)
        ∙ by k (nat_lt k (length clauses)) refl
        ∙ same k

-- before the first entry numbers name clauses of the formula
pub below-none : (variables : ℕ) (clauses : List (List ℕ)) (n : ℕ) (dropped : List Bool) (learned : List (Option (List ℕ))) → dropped ≡ replicate n false → learned ≡ [] → All (HasVariablesBelow variables) clauses → NamesBelow variables clauses dropped learned
below-none variables clauses n dropped learned e f w k =
    subst (λ (o : Option (List ℕ)). IfSome o (HasVariablesBelow variables)) (sym ((known-none clauses n dropped learned e f).named k ∙ ap (λ (cs : List (List ℕ)). slice_get cs k) (append_none clauses))) (at clauses k w)
  where
    at : (cs : List (List ℕ)) (k : ℕ) → All (HasVariablesBelow variables) cs → IfSome (slice_get cs k) (HasVariablesBelow variables)
    at [] k w = tt
    at (c ∷ cs) zero w = w zero c (omega arith)
    at (c ∷ cs) (suc k) w = at cs k (λ j d lt. w (suc j) d (omega (arith, lt)))

and_left : (a b : Bool) → (a && b) ≡ true → a ≡ true
and_left true b e = refl
and_left false b e = e

-- what numbers name after a derived entry is over the formula's variables where it was
pub below-next : (variables : ℕ) (clauses : List (List ℕ)) (entry : Entry) (dropped now : List Bool) (learned more : List (Option (List ℕ))) → is_derived_by variables clauses dropped learned entry ≡ true
    → ((n : ℕ) → kept_named clauses now more n ≡ named_next (length clauses + length learned) entry (kept_named clauses dropped learned) n)
    → NamesBelow variables clauses dropped learned → NamesBelow variables clauses now more
below-next variables clauses (Learn clause hints) dropped now learned more t h b n =
    let below = below_from_test variables clause (and_left (has_variables_below variables clause) _ t) in
    subst (λ (o : Option (List ℕ)). IfSome o (HasVariablesBelow variables)) (sym (h n)) (by (n == length clauses + length learned) below)
  where
    by : (new : Bool) → HasVariablesBelow variables clause → IfSome (if new then Some clause else kept_named clauses dropped learned n) (HasVariablesBelow variables)
    by true x = x
    by false x = b n
below-next variables clauses (Drop number) dropped now learned more t h b n =
    subst (λ (o : Option (List ℕ)). IfSome o (HasVariablesBelow variables)) (sym (h n)) (by (number == n))
  where
    by : (gone : Bool) → IfSome (if gone then None else kept_named clauses dropped learned n) (HasVariablesBelow variables)
    by true = tt
    by false = b n

pub derived_more : (variables : ℕ) (clauses : List (List ℕ)) (log : List Entry) (n : ℕ) → ((k : ℕ) → k < n → IsDerivedAt variables clauses log k) → IsDerivedAt variables clauses log n → (k : ℕ) → k < n + 1 → IsDerivedAt variables clauses log k
derived_more variables clauses log n before here k h = by (k == n) refl
  where
    by : (b : Bool) → (k == n) ≡ b → IsDerivedAt variables clauses log k
    by true e = let same : n ≡ k = grind (arith, nat_tests) in subst (λ (m : ℕ). IsDerivedAt variables clauses log m) same here
    by false e = let less : k < n = grind (arith, nat_tests) in before k less

pub take_more : (log : List Entry) (n : ℕ) (entry : Entry) → n < length log → entry ≡ get_or log n entry → take (n + 1) log ≡ take n log ++ entry ∷ []
take_more log n entry h e =
    ap (λ (m : ℕ). take m log) (add-one n) ∙ take-suc log n entry h ∙ ap (λ (x : Entry). take n log ++ x ∷ []) (sym e)

-- what numbers name where one more clause was learned
pub learn_named : (clauses : List (List ℕ)) (dropped now : List Bool) (learned more : List (Option (List ℕ))) (clause : List ℕ) → now ≡ dropped → more ≡ learned ++ Some clause ∷ []
    → (n : ℕ) → kept_named clauses now more n ≡ (if n == length clauses + length learned then Some clause else kept_named clauses dropped learned n)
learn_named clauses dropped now learned more clause d m n =
    ap (λ (bs : List Bool). kept_named clauses bs more n) d ∙ ap (λ (os : List (Option (List ℕ))). kept_named clauses dropped os n) m
    ∙ by (nat_lt n (length clauses)) refl (n == length clauses + length learned) refl
  where
    by : (low : Bool) → nat_lt n (length clauses) ≡ low → (new : Bool) → (n == length clauses + length learned) ≡ new
        → (if low then (if is_dropped dropped n then None else slice_get clauses n) else slice_index_or (learned ++ Some clause ∷ []) (n - length clauses) None) ≡ (if new then Some clause else (if low then (if is_dropped dropped n then None else slice_get clauses n) else slice_index_or learned (n - length clauses) None))
    by true e true f = let none : ⊥ = grind (arith, nat_tests) in absurd none
    by true e false f = refl
    by false e true f =
        let same : n ≡ length clauses + length learned = grind (arith, nat_tests) in
        let place : n - length clauses ≡ length learned = omega (arith, same) in
        ap (λ (k : ℕ). slice_index_or (learned ++ Some clause ∷ []) k None) place ∙ get_or-append_seam learned (Some clause) [] None
    by false e false f = beside (nat_lt (n - length clauses) (length learned)) refl
      where
        beside : (b : Bool) → nat_lt (n - length clauses) (length learned) ≡ b → slice_index_or (learned ++ Some clause ∷ []) (n - length clauses) None ≡ slice_index_or learned (n - length clauses) None
        beside true g = get_or_append_left learned (Some clause ∷ []) None (n - length clauses) (grind (arith, nat_tests))
        beside false g =
            let long : length (learned ++ Some clause ∷ []) ≡ length learned + 1 = length-append learned (Some clause ∷ []) in
            let apart : (n ≡ length clauses + length learned) → ⊥ = grind (arith, nat_tests) in
            let above : length clauses ≤ n = grind (arith, nat_tests) in
            let past : length learned ≤ n - length clauses = grind (arith, nat_tests) in
            get_or_past (learned ++ Some clause ∷ []) (n - length clauses) None (omega (arith, long, apart, above, past)) ∙ sym (get_or_past learned (n - length clauses) None past)
