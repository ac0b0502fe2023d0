-- Within the limit on tuples a `forall` of a kept call has no more tuples than the limit says.
use Rattle.std.proofs.Common.{arith, ◌≡◌, ℕ, zero, suc, ◌+◌, ◌*◌, ◌≤◌, ◌<◌, List, [], ◌∷◌, Bool, true, false, cond, length, map, get_or, refl, ap, sym, subst, Option, Some, None, IsTrue, inl, inr}
use Rattle.std.specs.Prelude.{sum_by, slice_get}
use Rattle.std.specs.List.{filter, AllByRecursion}
use Rattle.std.proofs.lemmas.Bool.{and_parts}
use Rattle.std.proofs.lemmas.Option.{slice_get_within, get_or_from_slice_get}
use Rattle.std.proofs.lemmas.List.Sums.{get_or-le-sum_by, sum_by-cons}
use Rattle.std.proofs.Math.Nat.{mul-le-mul_left, mul-le-mul_right}
use Rattle.gt_core.proofs.published.Basics.{Among, each_from}
use Rattle.pd_model.specs.Fits.{fits, fitting, all_fit, is_call_of}
use Rattle.pd_model.specs.declared.calls.Call.{Call}
use Rattle.pd_model.specs.declared.parts.Parts.{Parts}
use Rattle.pd_model.specs.declared.schemas.Schema.{Schema}
use Rattle.grounding_defs.specs.Grounded.{is_listed}
use Rattle.grounding_defs.specs.Reach.{IsKept}
use Rattle.grounding_defs.specs.Tuples.{product_of, effect_tuples, schema_tuples, tuples_in, saturated}
use Rattle.grounding_defs.proofs.published.Kept.{kept_is_call}
use Rattle.grounding_defs.proofs.published.Members.{among_call}
use Rattle.schema_domains.proofs.published.Listed.{fits_listed}
use Rattle.grounder.specs.own.Bindings.{size}
use Rattle.grounder.specs.own.Few.{HasFewTuples, HasFewOf, HasFew, HaveFew}
use Rattle.grounder.proofs.Saturated.{saturated_is}
use Rattle.grounding_defs.specs.Limits.{most_tuples}

pub size_of_types : (p : Parts) (over : List ℕ) → size (map (fitting p) over) ≡ product_of p over
size_of_types p [] = refl
size_of_types p (kind ∷ over) = ap (λ (n : ℕ). length (fitting p kind) * n) (size_of_types p over)

pub few_fits : (count n : ℕ) → count ≡ saturated n → n ≤ most_tuples → count ≡ n
few_fits count n e few = omega (arith, e, saturated_is n)

pub each_read : {X : Type 0} (P : X → Type 0) (xs : List X) (i : ℕ) (x : X) → i < length xs → x ≡ get_or xs i x → AllByRecursion P xs → P x
each_read P [] i x below is h = absurd (omega arith)
each_read P (y ∷ xs) zero x below is h = subst P (sym is) h.0
each_read P (y ∷ xs) (suc i) x below is h = each_read P xs i x (omega arith) is h.1

-- what fits is counted
some_fit : (p : Parts) (kinds t : List ℕ) → all_fit p kinds t ≡ true → 1 ≤ product_of p kinds
some_fit p [] t h = omega arith
some_fit p (kind ∷ kinds) [] h = absurd (let bad : false ≡ true = h in cc)
some_fit p (kind ∷ kinds) (o ∷ t) h =
    let parts = and_parts (fits p kind o) (all_fit p kinds t) h in
    let has = fits_listed p kind o parts.0 in
    let rest = some_fit p kinds t parts.1 in
    let one : 1 ≤ length (fitting p kind) = omega (arith, has.1) in
    let more : length (fitting p kind) * 1 ≤ length (fitting p kind) * product_of p kinds = mul-le-mul_left (length (fitting p kind)) rest in
    omega (arith, one, more)

at_least : (p : Parts) (over : List ℕ) (n : ℕ) → effect_tuples p over ≤ n → 1 ≤ n → product_of p over ≤ n
at_least p [] n h one = one
at_least p (kind ∷ over) n h one = h

of_schema : (p : Parts) (number : ℕ) (schema : Schema) → slice_get p.schemas number ≡ Some schema → schema_tuples p schema ≤ tuples_in p
of_schema p number schema at =
    subst (λ (s : Schema). schema_tuples p s ≤ tuples_in p) (get_or_from_slice_get p.schemas number schema schema at)
    (get_or-le-sum_by (schema_tuples p) p.schemas number schema (slice_get_within p.schemas number schema at))

among_sum : {X : Type 0} (f : X → ℕ) (xs : List X) (x : X) → Among x xs → f x ≤ sum_by f xs
among_sum f [] x a = absurd a
among_sum f (y ∷ xs) x (inl e) = omega (arith, ap f e, sum_by-cons f y xs)
among_sum f (y ∷ xs) x (inr a) = let rest = among_sum f xs x a in omega (arith, rest, sum_by-cons f y xs)

-- each effect of a schema with a call
few_effects : (p : Parts) (number : ℕ) (schema : Schema) (t : List ℕ) → tuples_in p ≤ most_tuples → slice_get p.schemas number ≡ Some schema → all_fit p schema.parameters t ≡ true
    → AllByRecursion (HasFewTuples p) schema.effects
few_effects p number schema t few at fit = each_from (HasFewTuples p) schema.effects (λ e among.
    let one = some_fit p schema.parameters t fit in
    let within = of_schema p number schema at in
    let effects : ℕ = sum_by (λ e. effect_tuples p e.over) schema.effects in
    let here : effect_tuples p e.over ≤ effects = among_sum (λ e. effect_tuples p e.over) schema.effects e among in
    let more : 1 * (1 + effects) ≤ product_of p schema.parameters * (1 + effects) = mul-le-mul_right (1 + effects) one in
    at_least p e.over most_tuples (omega (arith, here, more, within)) (omega arith))

few_of : (p : Parts) (number : ℕ) (o : Option Schema) (t : List ℕ) → tuples_in p ≤ most_tuples → slice_get p.schemas number ≡ o → is_call_of p o t ≡ true → HasFewOf p o
few_of p number None t few at is = tt
few_of p number (Some schema) t few at is = few_effects p number schema t few at is

-- the kept calls have few tuples
pub kept_few : (p : Parts) (kept : List Call) → tuples_in p ≤ most_tuples → ((c : Call) → IsTrue (is_listed c kept) → IsKept p c) → HaveFew p kept
kept_few p kept few are = each_from (HasFew p) kept (λ c among.
    few_of p c.schema (slice_get p.schemas c.schema) c.objects few refl (kept_is_call p c (are c (among_call c kept among))))

-- and so have those of them that are left
pub left_few : (p : Parts) (test : Call → Bool) (calls : List Call) → HaveFew p calls → HaveFew p (filter test calls)
left_few p test [] h = tt
left_few p test (c ∷ calls) h = here (test c) (left_few p test calls h.1)
  where
    here : (b : Bool) → HaveFew p (filter test calls) → HaveFew p (cond b (c ∷ filter test calls) (filter test calls))
    here true rest = (h.0, rest)
    here false rest = rest
