-- What has to hold before effects is put together from preconditions and conditions.
use Rattle.std.proofs.Common.{arith, ◌≡◌, ℕ, zero, suc, ◌+◌, ◌-◌, ◌<◌, ◌≤◌, List, [], ◌∷◌, ◌++◌, map, take, length, length-append, get_or, refl, sym, ap, ◌∙◌}
use Rattle.std.specs.List.{filter, flat_map, AllByRecursion}
use Rattle.std.proofs.lemmas.List.{append-nil, get_or-append-add, length-map, take_more}
use Rattle.std.proofs.lemmas.List as lists
use Rattle.std.proofs.lemmas.Grind.{flat_map-append}
use Rattle.gt_core.specs.Task.{Action, Effect}
use Rattle.gt_core.specs.Lawful.{is_conditional}
use Rattle.goal_choice.specs.own.Needs.{needs_in}
use Rattle.goal_choice.specs.own.Joined.{joined, all_needs}
use Rattle.goal_choice.proofs.NeedsLaw.{all_append}

joined_long : (pres : List (List ℕ)) (owners : List ℕ) (conds : List (List ℕ)) → length owners ≡ length conds → length (joined pres owners conds) ≡ length conds
joined_long pres [] [] e = refl
joined_long pres [] (c ∷ conds) e = cc
joined_long pres (a ∷ owners) [] e = cc
joined_long pres (a ∷ owners) (c ∷ conds) e = ap suc (joined_long pres owners conds (omega (arith, e)))

joined_at : (pres : List (List ℕ)) (owners : List ℕ) (conds : List (List ℕ)) (k : ℕ) → length owners ≡ length conds → k < length conds → get_or (joined pres owners conds) k [] ≡ get_or pres (get_or owners k 0) [] ++ get_or conds k []
joined_at pres [] [] k e lt = absurd (omega (arith, lt))
joined_at pres [] (c ∷ conds) k e lt = cc
joined_at pres (a ∷ owners) [] k e lt = cc
joined_at pres (a ∷ owners) (c ∷ conds) zero e lt = refl
joined_at pres (a ∷ owners) (c ∷ conds) (suc k) e lt = joined_at pres owners conds k (omega (arith, e)) (omega (arith, lt))

-- the effects of one action more
own_joined : (pres : List (List ℕ)) (a : ℕ) (es : List Effect) → joined pres (map (λ e. a) es) (map (λ e. e.condition) es) ≡ map (λ e. get_or pres a [] ++ e.condition) es
own_joined pres a [] = refl
own_joined pres a (e ∷ es) = ap (λ (ns : List (List ℕ)). (get_or pres a [] ++ e.condition) ∷ ns) (own_joined pres a es)

pub joined_more : (pres : List (List ℕ)) (owners : List ℕ) (conds : List (List ℕ)) (a : ℕ) (es : List Effect) → length owners ≡ length conds
    → joined pres (owners ++ map (λ e. a) es) (conds ++ map (λ e. e.condition) es) ≡ joined pres owners conds ++ map (λ e. get_or pres a [] ++ e.condition) es
joined_more pres [] [] a es e = own_joined pres a es
joined_more pres [] (c ∷ conds) a es e = cc
joined_more pres (b ∷ owners) [] a es e = cc
joined_more pres (b ∷ owners) (c ∷ conds) a es e = ap (λ (ns : List (List ℕ)). (get_or pres b [] ++ c) ∷ ns) (joined_more pres owners conds a es (omega (arith, e)))

pub needs_more : (acts : List Action) (i : ℕ) (x : Action) (owners more_owners : List ℕ) (conds more_conds : List (List ℕ)) → i < length acts → x ≡ get_or acts i x → length owners ≡ length conds
    → joined (map (λ (a : Action). a.precondition) acts) owners conds ≡ flat_map needs_in (take i acts)
    → more_owners ≡ owners ++ map (λ (e : Effect). i) (filter is_conditional x.effects) → more_conds ≡ conds ++ map (λ (e : Effect). e.condition) (filter is_conditional x.effects)
    → joined (map (λ (a : Action). a.precondition) acts) more_owners more_conds ≡ flat_map needs_in (take (i + 1) acts)
needs_more acts i x owners more_owners conds more_conds lt is long h o c =
    let pres = map (λ (a : Action). a.precondition) acts in
    let es = filter is_conditional x.effects in
    let before : List (List ℕ) = flat_map needs_in (take i acts) in
    let own : get_or pres i [] ≡ x.precondition = lists.get_or-map (λ (a : Action). a.precondition) acts i x [] lt ∙ ap (λ (a : Action). a.precondition) (sym is) in
    ap (λ (ns : List ℕ). joined pres ns more_conds) o
    ∙ ap (λ (ns : List (List ℕ)). joined pres (owners ++ map (λ (e : Effect). i) es) ns) c
    ∙ joined_more pres owners conds i es long
    ∙ ap (λ (ns : List (List ℕ)). ns ++ map (λ (e : Effect). get_or pres i [] ++ e.condition) es) h
    ∙ ap (λ (ls : List ℕ). before ++ map (λ (e : Effect). ls ++ e.condition) es) own
    ∙ ap (λ (ns : List (List ℕ)). before ++ ns) (sym (append-nil (needs_in x)))
    ∙ ap (λ (a : Action). before ++ (needs_in a ++ [])) is
    ∙ sym (flat_map-append needs_in (take i acts) (get_or acts i x ∷ []))
    ∙ sym (ap (flat_map needs_in) (take_more acts i x lt))

pub long_more : (i : ℕ) (x : Action) (owners more_owners : List ℕ) (conds more_conds : List (List ℕ)) → length owners ≡ length conds
    → more_owners ≡ owners ++ map (λ (e : Effect). i) (filter is_conditional x.effects) → more_conds ≡ conds ++ map (λ (e : Effect). e.condition) (filter is_conditional x.effects)
    → length more_owners ≡ length more_conds
long_more i x owners more_owners conds more_conds long o c =
    let es = filter is_conditional x.effects in
    let a = ap (λ (ns : List ℕ). length ns) o ∙ length-append owners (map (λ (e : Effect). i) es) in
    let b = ap (λ (ns : List (List ℕ)). length ns) c ∙ length-append conds (map (λ (e : Effect). e.condition) es) in
    let m = length-map es (λ (e : Effect). i) in
    let n = length-map es (λ (e : Effect). e.condition) in
    omega (arith, long, a, b, m, n)

pub needs_long : (pres : List (List ℕ)) (owners : List ℕ) (conds : List (List ℕ)) → length owners ≡ length conds → length (all_needs pres owners conds) ≡ length pres + length conds
needs_long pres owners conds e = length-append pres (joined pres owners conds) ∙ ap (λ (n : ℕ). length pres + n) (joined_long pres owners conds e)

-- what a conditional effect needs
pub of_effect : (pres : List (List ℕ)) (owners : List ℕ) (conds needs : List (List ℕ)) (v k a : ℕ) (p q : List ℕ) → needs ≡ all_needs pres owners conds → length owners ≡ length conds → length pres + k ≡ v → k < length owners
    → a ≡ get_or owners k 0 → p ≡ get_or pres a [] → q ≡ get_or conds k [] → p ++ q ≡ get_or needs v []
of_effect pres owners conds needs v k a p q n e at lt own before under =
    ap (λ (ls : List ℕ). ls ++ q) before
    ∙ ap (λ (i : ℕ). get_or pres i [] ++ q) own
    ∙ ap (λ (ls : List ℕ). get_or pres (get_or owners k 0) [] ++ ls) under
    ∙ sym (joined_at pres owners conds k e (omega (arith, e, lt)))
    ∙ sym (get_or-append-add pres (joined pres owners conds) k [])
    ∙ ap (λ (i : ℕ). get_or (all_needs pres owners conds) i []) at
    ∙ ap (λ (ns : List (List ℕ)). get_or ns v []) (sym n)

pub place_below : (pres : List (List ℕ)) (owners : List ℕ) (conds needs : List (List ℕ)) (v count : ℕ) → needs ≡ all_needs pres owners conds → length owners ≡ length conds → v < length needs → count ≡ length pres → count ≤ v → v - count < length owners
place_below pres owners conds needs v count n e lt c le =
    let long = needs_long pres owners conds e in
    let whole = ap (λ (ns : List (List ℕ)). length ns) n in
    omega (arith, long, whole, e, lt, c, le)

-- each is of an action
pub all_read : (n : ℕ) (owners : List ℕ) (k : ℕ) → AllByRecursion (λ a. a < n) owners → k < length owners → get_or owners k 0 < n
all_read n [] k h lt = absurd (omega (arith, lt))
all_read n (a ∷ owners) zero h lt = h.0
all_read n (a ∷ owners) (suc k) h lt = all_read n owners k h.1 (omega (arith, lt))

all_same : (n a : ℕ) (es : List Effect) → a < n → AllByRecursion (λ b. b < n) (map (λ e. a) es)
all_same n a [] lt = tt
all_same n a (e ∷ es) lt = (lt, all_same n a es lt)

pub all_more : (n a : ℕ) (owners : List ℕ) (es : List Effect) → a < n → AllByRecursion (λ b. b < n) owners → AllByRecursion (λ b. b < n) (owners ++ map (λ e. a) es)
all_more n a owners es lt h = all_append (λ b. b < n) owners (map (λ e. a) es) h (all_same n a es lt)

-- what holds of two lists together holds of each
pub all_of_first : {A : Type 0} (P : A → Type 0) (xs ys : List A) → AllByRecursion P (xs ++ ys) → AllByRecursion P xs
all_of_first P [] ys h = tt
all_of_first P (x ∷ xs) ys h = (h.0, all_of_first P xs ys h.1)

pub all_of_second : {A : Type 0} (P : A → Type 0) (xs ys : List A) → AllByRecursion P (xs ++ ys) → AllByRecursion P ys
all_of_second P [] ys h = h
all_of_second P (x ∷ xs) ys h = all_of_second P xs ys h.1
