-- Where the levels of a trail begin, and what the level of an entry is.
use Rattle.std.proofs.Common.{arith, ◌≡◌, ◌≢◌, ◌==◌, ltb, ℕ, zero, suc, ◌+◌, ◌-◌, ◌<◌, ◌≤◌, List, [], ◌∷◌, ◌++◌, length, take, get_or, Bool, true, false, refl, sym, ap, ◌∙◌, if◌then◌else◌, Option, Some, None, ◌⊎◌, inl, inr, max}
use Rattle.std.proofs.lemmas.List.{length-take, take_all}
use Rattle.std.proofs.lemmas.Bool.{cases_lt}
use Rattle.std.proofs.lemmas.Bool.Decides.{nat_tests}
use Rattle.cdcl_defs.specs.declared.trail.Assigned.{Assigned}
use Rattle.cdcl_defs.specs.State.{decision_count}
use Rattle.cdcl_defs.specs.Learn.{level_from, backtracked}
use Rattle.cdcl_tables.specs.Assignment.{literals}
use Rattle.cdcl_tables.specs.Mirrored.{starts_from, begun, IsCount, AreRising}

-- there are as many beginnings as decisions
pub starts_len : (p : ℕ) (es : List Assigned) → length (starts_from p es) ≡ decision_count es
starts_len p [] = refl
starts_len p (a ∷ es) = by a.reason (starts_len (p + 1) es)
  where
    by : (o : Option ℕ) → length (starts_from (p + 1) es) ≡ decision_count es
        → length (elim o as (λ _. List ℕ) [ None ↦ p ∷ starts_from (p + 1) es | Some r ↦ starts_from (p + 1) es ]) ≡ elim o as (λ _. ℕ) [ None ↦ 1 + decision_count es | Some r ↦ decision_count es ]
    by None h = omega (arith, h)
    by (Some r) h = h

-- with one entry more
pub starts-push : (p : ℕ) (es : List Assigned) (a : Assigned) → starts_from p (es ++ a ∷ []) ≡ starts_from p es ++ begun a.reason (p + length es)
starts-push p [] a = by a.reason
  where
    by : (o : Option ℕ) → elim o as (λ _. List ℕ) [ None ↦ p ∷ [] | Some r ↦ [] ] ≡ begun o (p + 0)
    by None = let s : p ≡ p + 0 = omega arith in ap (λ (x : ℕ). x ∷ []) s
    by (Some r) = refl
starts-push p (b ∷ es) a = by b.reason (starts-push (p + 1) es a ∙ ap (λ (k : ℕ). starts_from (p + 1) es ++ begun a.reason k) next)
  where
    next : p + 1 + length es ≡ p + suc (length es)
    next = omega arith

    by : (o : Option ℕ) → starts_from (p + 1) (es ++ a ∷ []) ≡ starts_from (p + 1) es ++ begun a.reason (p + suc (length es)) → elim o as (λ _. List ℕ)
        [ None ↦ p ∷ starts_from (p + 1) (es ++ a ∷ []) | Some r ↦ starts_from (p + 1) (es ++ a ∷ []) ] ≡
        (elim o as (λ _. List ℕ) [ None ↦ p ∷ starts_from (p + 1) es | Some r ↦ starts_from (p + 1) es ]) ++ begun a.reason (p + suc (length es))
    by None h = ap (λ (xs : List ℕ). p ∷ xs) h
    by (Some r) h = h

-- of the first entries
pub starts-take : (p k : ℕ) (es : List Assigned) → starts_from p (take k es) ≡ take (decision_count (take k es)) (starts_from p es)
starts-take p zero es = refl
starts-take p (suc k) [] = refl
starts-take p (suc k) (a ∷ es) = by a.reason (starts-take (p + 1) k es)
  where
    by : (o : Option ℕ) → starts_from (p + 1) (take k es) ≡ take (decision_count (take k es)) (starts_from (p + 1) es) → elim o as (λ _. List ℕ)
        [ None ↦ p ∷ starts_from (p + 1) (take k es) | Some r ↦ starts_from (p + 1) (take k es) ] ≡ take
        (elim o as (λ _. ℕ) [ None ↦ 1 + decision_count (take k es) | Some r ↦ decision_count (take k es) ])
        (elim o as (λ _. List ℕ) [ None ↦ p ∷ starts_from (p + 1) es | Some r ↦ starts_from (p + 1) es ])
    by None h =
        let s : suc (decision_count (take k es)) ≡ 1 + decision_count (take k es) = omega arith in
        ap (λ (xs : List ℕ). p ∷ xs) h ∙ ap (λ (n : ℕ). take n (p ∷ starts_from (p + 1) es)) s
    by (Some r) h = h

-- each beginning is the position of an entry
pub starts_within : (p : ℕ) (es : List Assigned) (i : ℕ) → i < length (starts_from p es) → (p ≤ get_or (starts_from p es) i 0) × (get_or (starts_from p es) i 0 < p + length es)
starts_within p [] i h = absurd (omega (arith, h))
starts_within p (a ∷ es) i h = by a.reason i h (starts_within (p + 1) es)
  where
    by : (o : Option ℕ) (i : ℕ) → i < length (elim o as (λ _. List ℕ) [ None ↦ p ∷ starts_from (p + 1) es | Some r ↦ starts_from (p + 1) es ]) →
        ((i : ℕ) → i < length (starts_from (p + 1) es) → (p + 1 ≤ get_or (starts_from (p + 1) es) i 0) × (get_or (starts_from (p + 1) es) i 0 < p + 1 + length es)) →
        (p ≤ get_or (elim o as (λ _. List ℕ) [ None ↦ p ∷ starts_from (p + 1) es | Some r ↦ starts_from (p + 1) es ]) i 0) ×
        (get_or (elim o as (λ _. List ℕ) [ None ↦ p ∷ starts_from (p + 1) es | Some r ↦ starts_from (p + 1) es ]) i 0 < p + suc (length es))
    by None zero h on = (omega arith, omega arith)
    by None (suc i) h on = let w = on i (omega (arith, h)) in (omega (arith, w.0), omega (arith, w.1))
    by (Some r) i h on = let w = on i h in (omega (arith, w.0), omega (arith, w.1))

pub starts_rise : (p : ℕ) (es : List Assigned) → AreRising (starts_from p es)
starts_rise p [] i j l h = absurd (omega (arith, h))
starts_rise p (a ∷ es) i j l h = by a.reason (starts_rise (p + 1) es) i j l h
  where
    by : (o : Option ℕ) → AreRising (starts_from (p + 1) es) → AreRising (elim o as (λ _. List ℕ) [ None ↦ p ∷ starts_from (p + 1) es | Some r ↦ starts_from (p + 1) es ])
    by None on zero zero l h = omega arith
    by None on zero (suc j) l h = let w = starts_within (p + 1) es j (omega (arith, h)) in omega (arith, w.0)
    by None on (suc i) zero l h = absurd (omega (arith, l))
    by None on (suc i) (suc j) l h = on i j (omega (arith, l)) (omega (arith, h))
    by (Some r) on i j l h = on i j l h

-- the beginnings below a length are those of its entries
pub count_is : (p b bound k : ℕ) (es : List Assigned) → bound ≡ p + b → IsCount (starts_from p es) bound k → k ≡ decision_count (take b es)
count_is p zero bound k es e c = by (k == 0) refl
  where
    by : (z : Bool) → (k == 0) ≡ z → k ≡ 0
    by true f = grind (arith, nat_tests)
    by false f =
        let n : k ≢ 0 = grind (arith, nat_tests) in
        let within = c.within in
        let less = c.less 0 (omega (arith, n)) in
        let least = starts_within p es 0 (omega (arith, n, within)) in
        absurd (omega (arith, less, least.0, e))
count_is p (suc b) bound k [] e c = let within = c.within in omega (arith, within)
count_is p (suc b) bound k (a ∷ es) e c = by a.reason k c (λ (k : ℕ). count_is (p + 1) b bound k es (omega (arith, e)))
  where
    by : (o : Option ℕ) (k : ℕ) → IsCount (elim o as (λ _. List ℕ) [ None ↦ p ∷ starts_from (p + 1) es | Some r ↦ starts_from (p + 1) es ]) bound k
        → ((k : ℕ) → IsCount (starts_from (p + 1) es) bound k → k ≡ decision_count (take b es))
        → k ≡ elim o as (λ _. ℕ) [ None ↦ 1 + decision_count (take b es) | Some r ↦ decision_count (take b es) ]
    by None zero c on = let z = c.rest 0 (omega arith) (omega arith) in absurd (omega (arith, z, e))
    by None (suc k) c on =
        let within = c.within in
        let h = on k (record {
          within = omega (arith, within);
          less = λ i l. c.less (suc i) (omega (arith, l));
          rest = λ i l m. c.rest (suc i) (omega (arith, l)) (omega (arith, m));
        }) in
        omega (arith, h)
    by (Some r) k c on = on k c

-- how far on an entry begins a level, counted from the first entry and from the second
later : (p s : ℕ) → p + 1 ≤ s → s - p ≡ suc (s - (p + 1))
later p s h = omega (arith, h)

later_start : (p level s : ℕ) (es : List Assigned) → level < decision_count es → get_or (starts_from (p + 1) es) level 0 ≡ s → p + 1 ≤ s
later_start p level s es h e = let w = starts_within (p + 1) es level (omega (arith, h, starts_len (p + 1) es)) in omega (arith, w.0, e)

-- a level ends where the next one begins
pub back_at : (p level s : ℕ) (es : List Assigned) → level < decision_count es → get_or (starts_from p es) level 0 ≡ s → backtracked level es ≡ take (s - p) es
back_at p level s [] h e = absurd (omega (arith, h))
back_at p level s (a ∷ es) h e = by a.reason level (level == 0) refl h e (λ (level : ℕ). back_at (p + 1) level s es)
  where
    by : (o : Option ℕ) (level : ℕ) (z : Bool) → (level == 0) ≡ z → level < elim o as (λ _. ℕ) [ None ↦ 1 + decision_count es | Some r ↦ decision_count es ]
        → get_or (elim o as (λ _. List ℕ) [ None ↦ p ∷ starts_from (p + 1) es | Some r ↦ starts_from (p + 1) es ]) level 0 ≡ s
        → ((level : ℕ) → level < decision_count es → get_or (starts_from (p + 1) es) level 0 ≡ s → backtracked level es ≡ take (s - (p + 1)) es)
        → elim o as (λ _. List Assigned) [ Some r ↦ a ∷ backtracked level es | None ↦ if z then [] else a ∷ backtracked (level - 1) es ] ≡ take (s - p) (a ∷ es)
    by None zero true f h e on = let d : s - p ≡ 0 = omega (arith, e) in ap (λ (n : ℕ). take n (a ∷ es)) (sym d)
    by None zero false f h e on = absurd (let w : ⊥ = cc in w)
    by None (suc level) true f h e on = absurd (let w : suc level ≡ 0 = grind (arith, nat_tests) in omega (arith, w))
    by None (suc level) false f h e on =
        let q : suc level - 1 ≡ level = omega arith in
        let l : level < decision_count es = omega (arith, h) in
        ap (λ (n : ℕ). a ∷ backtracked n es) q
        ∙ ap (λ (xs : List Assigned). a ∷ xs) (on level l e)
        ∙ ap (λ (n : ℕ). take n (a ∷ es)) (sym (later p s (later_start p level s es l e)))
    by (Some r) level z f h e on =
        ap (λ (xs : List Assigned). a ∷ xs) (on level h e)
        ∙ ap (λ (n : ℕ). take n (a ∷ es)) (sym (later p s (later_start p level s es h e)))

-- the entries before a level's beginning have the decisions of the levels below
pub decisions_at : (p level s : ℕ) (es : List Assigned) → level < decision_count es → get_or (starts_from p es) level 0 ≡ s → decision_count (take (s - p) es) ≡ level
decisions_at p level s [] h e = absurd (omega (arith, h))
decisions_at p level s (a ∷ es) h e = by a.reason refl level h e (λ (level : ℕ). decisions_at (p + 1) level s es)
  where
    by : (o : Option ℕ) → a.reason ≡ o → (level : ℕ) → level < elim o as (λ _. ℕ) [ None ↦ 1 + decision_count es | Some r ↦ decision_count es ]
        → get_or (elim o as (λ _. List ℕ) [ None ↦ p ∷ starts_from (p + 1) es | Some r ↦ starts_from (p + 1) es ]) level 0 ≡ s
        → ((level : ℕ) → level < decision_count es → get_or (starts_from (p + 1) es) level 0 ≡ s → decision_count (take (s - (p + 1)) es) ≡ level)
        → decision_count (take (s - p) (a ∷ es)) ≡ level
    by None g zero h e on = let d : s - p ≡ 0 = omega (arith, e) in ap (λ (n : ℕ). decision_count (take n (a ∷ es))) d
    by None g (suc level) h e on =
        let l : level < decision_count es = omega (arith, h) in
        let q = on level l e in
        rw (later p s (later_start p level s es l e), g) (omega (arith, q))
    by (Some r) g level h e on =
        rw (later p s (later_start p level s es h e), g) (on level h e)

pub decisions_le : (es : List Assigned) → decision_count es ≤ length es
decisions_le [] = omega arith
decisions_le (a ∷ es) = by a.reason (decisions_le es)
  where
    by : (o : Option ℕ) → decision_count es ≤ length es → elim o as (λ _. ℕ) [ None ↦ 1 + decision_count es | Some r ↦ decision_count es ] ≤ suc (length es)
    by None h = omega (arith, h)
    by (Some r) h = omega (arith, h)

-- more entries have no fewer decisions
pub decisions_rise : (a b : ℕ) (es : List Assigned) → a ≤ b → decision_count (take a es) ≤ decision_count (take b es)
decisions_rise zero b es h = omega arith
decisions_rise (suc a) zero es h = absurd (omega (arith, h))
decisions_rise (suc a) (suc b) [] h = omega arith
decisions_rise (suc a) (suc b) (e ∷ es) h = by e.reason (decisions_rise a b es (omega (arith, h)))
  where
    by : (o : Option ℕ) → decision_count (take a es) ≤ decision_count (take b es) → elim o as (λ _. ℕ) [ None ↦ 1 + decision_count (take a es) | Some r ↦ decision_count (take a es) ] ≤ elim o as
        (λ _. ℕ) [ None ↦ 1 + decision_count (take b es) | Some r ↦ decision_count (take b es) ]
    by None h = omega (arith, h)
    by (Some r) h = h

pub decisions_of : (b : ℕ) (es : List Assigned) → decision_count (take b es) ≤ decision_count es
decisions_of b es = by (cases_lt b (length es))
  where
    by : (b < length es) ⊎ (length es ≤ b) → decision_count (take b es) ≤ decision_count es
    by (inl h) = let d = decisions_rise b (length es) es (omega (arith, h)) in omega (arith, d, ap decision_count (take_all (length es) es (omega arith)))
    by (inr h) = omega (arith, ap decision_count (take_all b es h))

pub decisions_max : (a b : ℕ) (es : List Assigned) → decision_count (take (max a b) es) ≡ max (decision_count (take a es)) (decision_count (take b es))
decisions_max a b es = by (cases_lt a b)
  where
    by : (a < b) ⊎ (b ≤ a) → decision_count (take (max a b) es) ≡ max (decision_count (take a es)) (decision_count (take b es))
    by (inl h) =
        let m : max a b ≡ b = omega (arith, h) in
        let d = decisions_rise a b es (omega (arith, h)) in
        rw m (omega (arith, d))
    by (inr h) =
        let m : max a b ≡ a = omega (arith, h) in
        let d = decisions_rise b a es h in
        rw m (omega (arith, d))

-- the level of a literal is that of the entries up to it
pub level_at : (k p l : ℕ) (es : List Assigned) → p < length (literals es) → get_or (literals es) p 0 ≡ l → ((i : ℕ) → i < p → get_or (literals es) i 0 ≢ l)
    → level_from k es l ≡ k + decision_count (take (suc p) es)
level_at k p l [] h e d = absurd (omega (arith, h))
level_at k zero l (a ∷ es) h e d =
    let here : (a.literal == l) ≡ true = grind (arith, nat_tests) in
    rw here (by a.reason)
  where
    by : (o : Option ℕ) → elim o as (λ _. ℕ) [ None ↦ k + 1 | Some r ↦ k ] ≡ k + elim o as (λ _. ℕ) [ None ↦ 1 + decision_count (take 0 es) | Some r ↦ decision_count (take 0 es) ]
    by None = omega arith
    by (Some r) = omega arith
level_at k (suc p) l (a ∷ es) h e d =
    let n : a.literal ≢ l = d 0 (omega arith) in
    let here : (a.literal == l) ≡ false = grind (arith, nat_tests) in
    rw here (by a.reason (λ (k : ℕ). level_at k p l es (omega (arith, h)) e (λ i m. d (suc i) (omega (arith, m)))))
  where
    by : (o : Option ℕ) → ((k : ℕ) → level_from k es l ≡ k + decision_count (take (suc p) es))
        → level_from (elim o as (λ _. ℕ) [ None ↦ k + 1 | Some r ↦ k ]) es l ≡ k + elim o as (λ _. ℕ) [ None ↦ 1 + decision_count (take (suc p) es) | Some r ↦ decision_count (take (suc p) es) ]
    by None on = on (k + 1) ∙ (omega arith)
    by (Some r) on = on k

-- all decisions are among the first entries just where the last level begins there
pub all_there : (b : ℕ) (es : List Assigned) → 0 < length (starts_from 0 es) → get_or (starts_from 0 es) (length (starts_from 0 es) - 1) 0 < b → decision_count (take b es) ≡ decision_count es
all_there b es some last =
    let s = starts_len 0 es in
    let k = count_is 0 b b (length (starts_from 0 es)) es (omega arith) (record {
      within = omega arith;
      less = λ i l. let r = starts_rise 0 es i (length (starts_from 0 es) - 1) (omega (arith, l)) (omega (arith, some)) in omega (arith, r, last);
      rest = λ i l m. absurd (omega (arith, l, m));
    }) in
    omega (arith, s, k)

pub last_there : (b : ℕ) (es : List Assigned) → 0 < length (starts_from 0 es) → decision_count (take b es) ≡ decision_count es → get_or (starts_from 0 es) (length (starts_from 0 es) - 1) 0 < b
last_there b es some e =
    let s = starts_len 0 es in
    let same : starts_from 0 (take b es) ≡ starts_from 0 es = starts-take 0 b es ∙ take_all (decision_count (take b es)) (starts_from 0 es) (omega (arith, s, e)) in
    let w = starts_within 0 (take b es) (length (starts_from 0 es) - 1) (omega (arith, some, ap (λ (xs : List ℕ). length xs) same)) in
    let t = length-take b es in
    omega (arith, w.1, t, ap (λ (xs : List ℕ). get_or xs (length (starts_from 0 es) - 1) 0) same)

-- an entry is of the current level just where it does not stand before the last beginning
pub is_last : (b last level : ℕ) (es : List Assigned) → 0 < length (starts_from 0 es) → last ≡ get_or (starts_from 0 es) (length (starts_from 0 es) - 1) 0 → level ≡ decision_count (take b es)
    → ltb last b ≡ (level == decision_count es)
is_last b last level es some e s = by (ltb last b) refl (level == decision_count es) refl
  where
    by : (p : Bool) → ltb last b ≡ p → (q : Bool) → (level == decision_count es) ≡ q → p ≡ q
    by true f true g = refl
    by true f false g =
        let h : last < b = grind (arith, nat_tests) in
        let n : level ≢ decision_count es = grind (arith, nat_tests) in
        absurd (n (s ∙ all_there b es some (omega (arith, h, e))))
    by false f true g =
        let h : b ≤ last = grind (arith, nat_tests) in
        let n : level ≡ decision_count es = grind (arith, nat_tests) in
        let l = last_there b es some (sym s ∙ n) in
        absurd (omega (arith, h, l, e))
    by false f false g = refl
