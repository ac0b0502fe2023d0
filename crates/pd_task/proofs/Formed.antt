-- The task that is read is well formed.
use Rattle.std.proofs.Common.{◌≡◌, ℕ, ◌+◌, ◌^◌, Bool, true, false, ◌&&◌, List, [], ◌∷◌, length, Ok, refl}
use Rattle.std.specs.Prelude.{IsTrue, nat_lt}
use Rattle.std.specs.List.{list_all}
use Rattle.std.proofs.lemmas.Bool.{ltb-true, and_from, and_parts}
use Rattle.pd_sexp.specs.Tree.{Tree}
use Rattle.pd_model.specs.Types.{parents_of, is_under}
use Rattle.pd_model.specs.WellFormed.{are_below, is_cond, is_pattern, is_effect, is_schema, IsWellFormed}
use Rattle.pd_model.specs.declared.effects.Effect.{Effect}
use Rattle.pd_model.specs.declared.schemas.Schema.{Schema}
use Rattle.pd_model.specs.declared.parts.Parts.{Parts}
use Rattle.pd_words.proofs.published.Sound.{ok_is, OfWords}
use Rattle.pd_model.specs.Few.{is_few, few_effect, few_schema, few_parts}
use Rattle.pd_task.specs.Reading.{DomainParts, domain_parts, problem_parts}
use Rattle.pd_task.proofs.Lawful.{lawful_effect}
use Rattle.pd_task.proofs.LawfulTask.{lawful_schema, DomainLawful, Lawful, domain_sound, problem_sound}

is_true : (b : Bool) → b ≡ true → IsTrue b
is_true b h = h

all_both : {A : Type 0} (P Q R : A → Bool) → ((x : A) → P x ≡ true → Q x ≡ true → R x ≡ true) → (xs : List A) → list_all P xs ≡ true → list_all Q xs ≡ true → list_all R xs ≡ true
all_both P Q R step [] h g = refl
all_both P Q R step (x ∷ xs) h g =
    and_from (R x) (list_all R xs) (step x (and_parts (P x) (list_all P xs) h).0 (and_parts (Q x) (list_all Q xs) g).0)
    (all_both P Q R step xs (and_parts (P x) (list_all P xs) h).1 (and_parts (Q x) (list_all Q xs) g).1)

four : (a b c d : Bool) → b && c && d ≡ true → a ≡ true → a && b && c && d ≡ true
four true b c d h g = h
four false b c d h g = absurd cc

effect_formed : (p : Parts) (parameters : ℕ) (e : Effect) → lawful_effect p parameters e ≡ true → few_effect parameters e ≡ true → is_effect p parameters e ≡ true
effect_formed p parameters e h g =
    let n = parameters + length e.over in
    four (nat_lt n (2 ^ 32)) (are_below (length p.types) e.over) (list_all (is_cond p n) e.cond) (is_pattern p n e.atom) h g

schema_formed : (p : Parts) (s : Schema) → lawful_schema p s ≡ true → few_schema s ≡ true → is_schema p s ≡ true
schema_formed p s h g =
    let m = length s.parameters in
    let front = are_below (length p.types) s.parameters && list_all (is_cond p m) s.pre in
    let few = nat_lt m (2 ^ 32) in
    let lawful = and_parts front (list_all (lawful_effect p m) s.effects) h in
    let small = and_parts few (list_all (few_effect m) s.effects) g in
    let effects : list_all (is_effect p m) s.effects ≡ true =
    all_both (lawful_effect p m) (few_effect m) (is_effect p m) (effect_formed p m) s.effects lawful.1 small.1 in
    four few (are_below (length p.types) s.parameters) (list_all (is_cond p m) s.pre) (list_all (is_effect p m) s.effects)
    (and_from front (list_all (is_effect p m) s.effects) lawful.0 effects)
    small.0

formed : (p : Parts) → Lawful p → few_parts p ≡ true → IsWellFormed p
formed p lawful few =
    let a = is_few (length p.types) in
    let b = is_few (length p.predicates) in
    let c = is_few (length p.objects) in
    let d = is_few (length p.schemas) in
    let e = list_all few_schema p.schemas in
    let parts = and_parts (a && b && c && d) e few in
    let counts = and_parts (a && b && c) d parts.0 in
    let front = and_parts (a && b) c counts.0 in
    let first = and_parts a b front.0 in
    record {
      few_types = ltb-true (length p.types) (2 ^ 32) first.0;
      few_predicates = ltb-true (length p.predicates) (2 ^ 32) first.1;
      few_objects = ltb-true (length p.objects) (2 ^ 32) front.1;
      few_schemas = ltb-true (length p.schemas) (2 ^ 32) counts.1;
      type_names = lawful.types.names;
      predicate_names = lawful.predicate_names;
      object_names = lawful.object_names;
      schema_names = lawful.schema_names;
      has_object = lawful.types.first;
      parents = is_true (are_below (length p.types) (parents_of p.types)) lawful.types.below;
      leads_to_object = λ kind lt. is_true (is_under (parents_of p.types) kind 0) (lawful.types.leads kind lt);
      kinds = is_true _ lawful.kinds;
      schemas = is_true (list_all (is_schema p) p.schemas) (all_both (lawful_schema p) few_schema (is_schema p) (schema_formed p) p.schemas lawful.schemas parts.1);
      init = is_true _ lawful.init;
      goal = is_true _ lawful.goal;
    }

pub read_formed : (domain problem : Tree) → OfWords domain → OfWords problem → (d : DomainParts) (p : Parts) → domain_parts domain ≡ Ok d → problem_parts d problem ≡ Ok p → few_parts p ≡ true → IsWellFormed p
read_formed domain problem these those d p read_d read_p few =
    let lawful = ok_is DomainLawful (domain_parts domain) d read_d (domain_sound domain these) in
    formed p (ok_is Lawful (problem_parts d problem) p read_p (problem_sound d problem those lawful)) few
