-- What a turn of a loop adds to a list that is made item by item.
use Rattle.std.proofs.Common.{arith, ◌≡◌, ◌∙◌, ℕ, zero, suc, ◌+◌, ◌*◌, ◌≤◌, List, [], ◌∷◌, ◌++◌, map, drop, length, Some, slice_get, sym, ap, subst, append_assoc, ◌<◌}
use Rattle.std.specs.List.{AllByRecursion}
use Rattle.std.proofs.lemmas.List.Elements.{filter_map-append}
use Rattle.clause_base.specs.Clause.{clause_of}
use Rattle.clause_base.specs.Formula.{Cnf}
use Rattle.std.proofs.lemmas.List.{length-append, length-drop}
use Rattle.gt_core.specs.Literal.{opposite}
use Rattle.formula_defs.specs.Coded.{literals_in}
use Rattle.step_encoding.specs.Limits.{most_literals}
use Rattle.step_plans.proofs.published.ByPlace.{rest_at}
use Rattle.never_form.specs.Formed.{needed}
use Rattle.never_form.specs.own.Parts.{made, cube, cubes}

-- what was made, with the part of one item more
pub one_turn : {A B : Type 0} (f : List A → List B) (part : A → List B) → ((x : A) (rest : List A) → f (x ∷ rest) ≡ part x ++ f rest)
    → (xs : List A) (k : ℕ) (x : A) (old new : List B) → slice_get xs k ≡ Some x → new ≡ old ++ part x → old ++ f (drop k xs) ≡ new ++ f (drop (k + 1) xs)
one_turn f part step xs k x old new at is =
    ap (λ (rest : List _). old ++ f rest) (rest_at xs k x at) ∙ ap (λ (t : List _). old ++ t) (step x (drop (k + 1) xs))
    ∙ sym (append_assoc old (part x) (f (drop (k + 1) xs))) ∙ ap (λ (t : List _). t ++ f (drop (k + 1) xs)) (sym is)

-- one clause is made after another
pub made_more : (c : List ℕ) (rest : List (List ℕ)) → made (c ∷ rest) ≡ made (c ∷ []) ++ made rest
made_more c rest = filter_map-append clause_of (c ∷ []) rest

pub made_parts : (cs ds : List (List ℕ)) → made (cs ++ ds) ≡ made cs ++ made ds
made_parts cs ds = filter_map-append clause_of cs ds

-- what holds of each item holds of the one at a place
pub each_got : {A : Type 0} (P : A → Type 0) (xs : List A) (k : ℕ) (x : A) → slice_get xs k ≡ Some x → AllByRecursion P xs → P x
each_got P [] k x e h = absurd (cc)
each_got P (y ∷ xs) zero x e h = let s : y ≡ x = cc in subst P s h.0
each_got P (y ∷ xs) (suc k) x e h = each_got P xs k x e h.1

-- the cubes of clauses, with those of one clause more
pub cubes_turn : (base first : ℕ) (clauses : List (List ℕ)) (k : ℕ) (c : List ℕ) (old new : List (List ℕ)) → slice_get clauses k ≡ Some c → new ≡ old ++ made (cube base (first + k) (map opposite c))
    → old ++ made (cubes base (first + k) (drop k clauses)) ≡ new ++ made (cubes base (first + (k + 1)) (drop (k + 1) clauses))
cubes_turn base first clauses k c old new at is =
    let rest = drop (k + 1) clauses in
    let f : (first + k) + 1 ≡ first + (k + 1) = omega arith in
    ap (λ (cs : List (List ℕ)). old ++ made (cubes base (first + k) cs)) (rest_at clauses k c at)
    ∙ ap (λ (t : List (List ℕ)). old ++ t) (made_parts (cube base (first + k) (map opposite c)) (cubes base ((first + k) + 1) rest))
    ∙ sym (append_assoc old (made (cube base (first + k) (map opposite c))) (made (cubes base ((first + k) + 1) rest)))
    ∙ ap (λ (t : List (List ℕ)). t ++ made (cubes base ((first + k) + 1) rest)) (sym is)
    ∙ ap (λ (n : ℕ). new ++ made (cubes base n rest)) f

-- a formula to which clauses are added twice has the name and the variables that it had
pub kept_more : (f g h : Cnf) (cs : List (List ℕ)) → g ≡ record f { clauses = g.clauses } → h ≡ record g { clauses = cs } → h ≡ record f { clauses = h.clauses }
kept_more f g h cs a b =
    b ∙ ap (λ (x : Cnf). record { name = x.name; variables = x.variables; clauses = cs }) a
    ∙ ap (λ (c : List (List ℕ)). record { name = f.name; variables = f.variables; clauses = c }) (sym (ap (λ (x : Cnf). x.clauses) b))

-- where not all of what is added is there, there is room
pub room_left : (old left new rest : List (List ℕ)) (k : ℕ) → old ++ left ≡ new ++ drop k rest → length old + length left ≤ 1073741824 → k < length rest → length new < 1073741824
room_left old left new rest k e le lt =
    let a = length-append old left in
    let b = length-append new (drop k rest) in
    let c = length-drop k rest in
    let d = ap length e in
    omega (arith, a, b, c, d)

-- what is needed of clauses, or their literals, from a clause on
pub needed_from : (clauses : List (List ℕ)) (k : ℕ) (c : List ℕ) → slice_get clauses k ≡ Some c → needed (drop k clauses) ≡ 3 * length c + 1 + needed (drop (k + 1) clauses)
needed_from clauses k c e = ap needed (rest_at clauses k c e)

pub literals_from : (clauses : List (List ℕ)) (k : ℕ) (c : List ℕ) → slice_get clauses k ≡ Some c → literals_in (drop k clauses) ≡ length c + literals_in (drop (k + 1) clauses)
literals_from clauses k c e = ap literals_in (rest_at clauses k c e)

-- the count with what one clause needs
pub counted_more : (clauses : List (List ℕ)) (k : ℕ) (c : List ℕ) (count few begun : ℕ) → slice_get clauses k ≡ Some c → few ≤ length c → (few < most_literals → few ≡ length c)
    → (count + needed (drop k clauses) ≤ begun + needed clauses) × (count ≤ most_literals → count + needed (drop k clauses) ≡ begun + needed clauses)
    → (count + (3 * few + 1) + needed (drop (k + 1) clauses) ≤ begun + needed clauses) × (count + (3 * few + 1) ≤ most_literals → count + (3 * few + 1) + needed (drop (k + 1) clauses) ≡ begun + needed clauses)
counted_more clauses k c count few begun at fewer exact h =
    let n = needed_from clauses k c at in
    let a = h.0 in (
      omega (arith, n, a, fewer),
      λ small.
          let x : few ≡ length c = exact (omega (arith, small)) in
          let y = h.1 (omega (arith, small)) in
          omega (arith, n, x, y),
    )
