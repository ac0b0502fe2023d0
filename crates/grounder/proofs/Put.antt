-- Literals and effects that are added one after the other.
use Rattle.std.proofs.Common.{arith, ◌≡◌, ℕ, ◌+◌, ◌*◌, ◌<◌, ◌≤◌, List, [], ◌∷◌, ◌++◌, Bool, true, false, cond, length, get_or, take, refl, ap, sym, subst, ◌∙◌, map, Option, Some, None, append_assoc}
use Rattle.std.specs.Prelude.{not, ◌&&◌, slice_get}
use Rattle.std.specs.List.{filter, filter_map, flat_map, cons_option}
use Rattle.std.proofs.lemmas.List.{take_more, take_all, append-nil, map-append}
use Rattle.std.proofs.lemmas.List.Elements.{filter-append, filter_map-append}
use Rattle.std.proofs.lemmas.Grind.{flat_map-append}
use Rattle.gt_core.specs.Task.{Effect}
use Rattle.gt_core.specs.Lawful.{effect_less}
use Rattle.pd_model.specs.declared.atoms.Atom.{Atom}
use Rattle.pd_model.specs.declared.parts.Parts.{Parts}
use Rattle.pd_model.specs.State.{is_in}
use Rattle.pd_model.specs.Fits.{fitting}
use Rattle.pd_model.specs.declared.calls.Call.{Call}
use Rattle.pd_model.specs.declared.conds.Cond.{Cond}
use Rattle.pd_model.specs.declared.effects.Effect.{Effect as Lifted}
use Rattle.pd_model.specs.declared.schemas.Schema.{Schema}
use Rattle.grounding_defs.specs.Instance.{GroundLiteral, Change, change_of, changes_of, literal_of, literals_of, instance_at, instance_of}
use Rattle.grounding_defs.specs.Sorted.{sorted_set}
use Rattle.grounding_defs.specs.Simplify.{place, fact_literal, number_of, simplified, any_never, is_left, effect_of, action_of}
use Rattle.grounder.specs.declared.bindings.Bindings.{Bindings}
use Rattle.grounder.specs.declared.effects.Keyed.{Keyed}
use Rattle.grounder.specs.own.Bindings.{size, tuple_at, AreBindings}
use Rattle.grounder.specs.own.Putting.{add_literal, effect_at, effects_at, add_change, left_effects}
use Rattle.grounder.proofs.Bare.{bare_changes}
use Rattle.grounder.proofs.Tupled.{count_is, change_at}

-- one more literal
pub literal_more : (facts : List Atom) (objects : List ℕ) (conds : List Cond) (i : ℕ) (c : Cond) (old new : List ℕ) → i < length conds → c ≡ get_or conds i c
    → old ≡ filter_map (number_of facts) (literals_of objects (take i conds)) → new ≡ add_literal (number_of facts (literal_of objects c)) old
    → new ≡ filter_map (number_of facts) (literals_of objects (take (i + 1) conds))
literal_more facts objects conds i c old new lt at so_far one =
    let front = literals_of objects (take i conds) in
    let x = literal_of objects c in
    let more : take (i + 1) conds ≡ take i conds ++ c ∷ [] = take_more conds i c lt ∙ ap (λ (d : Cond). take i conds ++ d ∷ []) (sym at) in
    one ∙ step (number_of facts x) ∙ ap (λ (ls : List ℕ). ls ++ filter_map (number_of facts) (x ∷ [])) so_far
    ∙ sym (filter_map-append (number_of facts) front (x ∷ []))
    ∙ ap (filter_map (number_of facts)) (sym (map-append (literal_of objects) (take i conds) (c ∷ [])) ∙ ap (literals_of objects) (sym more))
  where
    step : (o : Option ℕ) → add_literal o old ≡ old ++ cons_option o []
    step None = sym (append-nil old)
    step (Some l) = refl

-- ---- effects

-- the effect of one change
one_added : (p : Parts) (facts : List Atom) (c : Change) (effects : List Effect) → add_change p facts c effects ≡ effects ++ left_effects p facts (c ∷ [])
one_added p facts c effects = step (is_left p facts c)
  where
    step : (b : Bool) → cond b (effects ++ effect_of facts c ∷ []) effects ≡ effects ++ map (effect_of facts) (cond b (c ∷ []) [])
    step true = refl
    step false = sym (append-nil effects)

left_joined : (p : Parts) (facts : List Atom) (xs ys : List Change) → left_effects p facts (xs ++ ys) ≡ left_effects p facts xs ++ left_effects p facts ys
left_joined p facts xs ys = ap (map (effect_of facts)) (filter-append (is_left p facts) xs ys) ∙ map-append (effect_of facts) (filter (is_left p facts) xs) (filter (is_left p facts) ys)

-- an effect that is left was added
pub left_added : (p : Parts) (facts : List Atom) (c : Change) (keys : List Keyed) (k : Keyed) → is_in c.atom facts ≡ true → any_never p facts c.condition ≡ false
    → k.condition.items ≡ simplified facts c.condition → k.literal ≡ fact_literal facts c.atom c.adds
    → effects_at (keys ++ k ∷ []) ≡ add_change p facts c (effects_at keys)
left_added p facts c keys k has never condition literal =
    let left : is_left p facts c ≡ true = (λ i. has i && not (never i)) in
    let same : effect_at k ≡ effect_of facts c = (λ i. record { condition = condition i; literal = literal i }) in
    map-append effect_at keys (k ∷ []) ∙ (λ i. effects_at keys ++ same i ∷ [])
    ∙ ap (λ (b : Bool). cond b (effects_at keys ++ effect_of facts c ∷ []) (effects_at keys)) (sym left)

pub literal_is : (facts : List Atom) (a : Atom) (i : ℕ) (adds : Bool) → place facts a ≡ i → cond adds (2 * i) (2 * i + 1) ≡ fact_literal facts a adds
literal_is facts a i true e = ap (λ (n : ℕ). 2 * n) (sym e)
literal_is facts a i false e = ap (λ (n : ℕ). 2 * n + 1) (sym e)

-- the change of an effect under no `forall`
pub bare_added : (p : Parts) (facts : List Atom) (objects : List ℕ) (e : Lifted) (old new : List Effect) → length e.over ≡ 0 → new ≡ add_change p facts (change_of e objects) old
    → new ≡ old ++ left_effects p facts (changes_of p objects e)
bare_added p facts objects e old new bare one =
    one ∙ one_added p facts (change_of e objects) old ∙ ap (λ (cs : List Change). old ++ left_effects p facts cs) (sym (bare_changes p objects e bare))

-- a loop over the changes of an effect
pub change_added : (p : Parts) (facts : List Atom) (objects : List ℕ) (e : Lifted) (b : Bindings) → AreBindings p e.over b → (n : ℕ) → n < b.count
    → (all : List ℕ) → all ≡ objects ++ tuple_at b.domains.items n → (start mid new : List Effect)
    → mid ≡ start ++ left_effects p facts (take n (changes_of p objects e)) → new ≡ add_change p facts (change_of e all) mid
    → new ≡ start ++ left_effects p facts (take (n + 1) (changes_of p objects e))
change_added p facts objects e b are n l all all_is start mid new so_far one =
    let changes = changes_of p objects e in
    let c = change_of e all in
    let within : n < size (map (fitting p) e.over) = omega (arith, l, are.count, ap size are.domains) in
    let below : n < length changes = omega (arith, within, count_is p objects e) in
    let this : get_or changes n c ≡ c = change_at p objects e n c within ∙ ap (change_of e) ((λ i. objects ++ tuple_at (sym are.domains i) n) ∙ sym all_is) in
    let more : take (n + 1) changes ≡ take n changes ++ c ∷ [] = take_more changes n c below ∙ ap (λ (d : Change). take n changes ++ d ∷ []) this in
    one ∙ one_added p facts c mid ∙ ap (λ (es : List Effect). es ++ left_effects p facts (c ∷ [])) so_far
    ∙ append_assoc start (left_effects p facts (take n changes)) (left_effects p facts (c ∷ []))
    ∙ ap (λ (es : List Effect). start ++ es) (sym (left_joined p facts (take n changes) (c ∷ [])) ∙ ap (left_effects p facts) (sym more))

pub changes_added : (p : Parts) (facts : List Atom) (objects : List ℕ) (e : Lifted) (b : Bindings) → AreBindings p e.over b → (n : ℕ) → b.count ≤ n → (start new : List Effect)
    → new ≡ start ++ left_effects p facts (take n (changes_of p objects e)) → new ≡ start ++ left_effects p facts (changes_of p objects e)
changes_added p facts objects e b are n l start new so_far =
    let within : length (changes_of p objects e) ≤ n = omega (arith, count_is p objects e, l, are.count, ap size are.domains) in
    so_far ∙ ap (λ (cs : List Change). start ++ left_effects p facts cs) (take_all n (changes_of p objects e) within)

-- a loop over effects
pub effect_added : (p : Parts) (facts : List Atom) (objects : List ℕ) (effects : List Lifted) (i : ℕ) (e : Lifted) → i < length effects → e ≡ get_or effects i e
    → (mid new : List Effect) → mid ≡ left_effects p facts (flat_map (changes_of p objects) (take i effects)) → new ≡ mid ++ left_effects p facts (changes_of p objects e)
    → new ≡ left_effects p facts (flat_map (changes_of p objects) (take (i + 1) effects))
effect_added p facts objects effects i e l at mid new so_far one =
    let front = flat_map (changes_of p objects) (take i effects) in
    let more : take (i + 1) effects ≡ take i effects ++ e ∷ [] = take_more effects i e l ∙ ap (λ (d : Lifted). take i effects ++ d ∷ []) (sym at) in
    one ∙ ap (λ (es : List Effect). es ++ left_effects p facts (changes_of p objects e)) so_far
    ∙ sym (left_joined p facts front (changes_of p objects e))
    ∙ ap (left_effects p facts) (
    ap (λ (cs : List Change). front ++ cs) (sym (append-nil (changes_of p objects e)))
    ∙ sym (flat_map-append (changes_of p objects) (take i effects) (e ∷ []))
    ∙ ap (flat_map (changes_of p objects)) (sym more))

-- the action of a call of a schema
pub action_is : (p : Parts) (facts : List Atom) (c : Call) (schema : Schema) → slice_get p.schemas c.schema ≡ Some schema
    → record { precondition = simplified facts (literals_of c.objects schema.pre); effects = sorted_set effect_less (left_effects p facts (flat_map (changes_of p c.objects) schema.effects)) } ≡ action_of p facts (instance_of p c)
action_is p facts c schema e = ap (λ (s : Option Schema). action_of p facts (instance_at p c.objects s)) (sym e)
