-- What each task keeps: its names are words, each of one thing; its numbers name something, its types lead to
-- `object`, and an atom has as many terms as its predicate takes.
use Rattle.std.specs.Prelude.{◌≡◌, ◌<◌, ℕ, ◌+◌, ◌^◌, Bool, false, ◌==◌, ◌&&◌, nat_lt, List, length, Option, Some, None, IsTrue, slice_get}
use Rattle.std.specs.List.{list_all}
use Rattle.pd_model.specs.Names.{type_names, predicate_names, object_names, schema_names, are_names}
use Rattle.pd_model.specs.Types.{parents_of, kinds_of, is_under}
use Rattle.pd_model.specs.declared.predicates.Predicate.{Predicate}
use Rattle.pd_model.specs.declared.atoms.Term.{Term}
use Rattle.pd_model.specs.declared.atoms.Term.TheVariants.{Object, Variable}
use Rattle.pd_model.specs.declared.atoms.Pattern.{Pattern}
use Rattle.pd_model.specs.declared.atoms.Atom.{Atom}
use Rattle.pd_model.specs.declared.conds.Cond.{Cond}
use Rattle.pd_model.specs.declared.conds.Cond.TheVariants.{Has, Same}
use Rattle.pd_model.specs.declared.effects.Effect.{Effect}
use Rattle.pd_model.specs.declared.schemas.Schema.{Schema}
use Rattle.pd_model.specs.declared.parts.Parts.{Parts}

-- whether each of the numbers is below a count
abbrev pub are_below : ℕ → List ℕ → Bool
are_below count numbers = list_all (λ n. nat_lt n count) numbers

-- whether the predicate is declared with so many terms
abbrev pub takes : Option Predicate → ℕ → Bool
takes None count = false
takes (Some p) count = p.arity == count

-- whether the term is a declared object, or one of so many variables
abbrev pub is_term : Parts → ℕ → Term → Bool
is_term p variables (Object o) = nat_lt o (length p.objects)
is_term p variables (Variable v) = nat_lt v variables

-- whether the atom has a declared predicate and its number of terms, with so many variables
abbrev pub is_pattern : Parts → ℕ → Pattern → Bool
is_pattern p variables a =
    takes (slice_get p.predicates a.predicate) (length a.terms) && list_all (is_term p variables) a.terms

-- whether the atom has a declared predicate and as many declared objects as it takes
abbrev pub is_atom : Parts → Atom → Bool
is_atom p a =
    takes (slice_get p.predicates a.predicate) (length a.objects) && are_below (length p.objects) a.objects

-- whether the literal is one of declared things and of so many variables
abbrev pub is_cond : Parts → ℕ → Cond → Bool
is_cond p variables (Has atom want) = is_pattern p variables atom
is_cond p variables (Same left right want) = is_term p variables left && is_term p variables right

-- the variables of an effect are the parameters of its action and those of the `forall`
abbrev pub is_effect : Parts → ℕ → Effect → Bool
is_effect p parameters e =
    let variables = parameters + length e.over in
    nat_lt variables (2 ^ 32) && are_below (length p.types) e.over && list_all (is_cond p variables) e.cond
    && is_pattern p variables e.atom

-- whether the parts of the action are of declared things and of its variables, which have numbers of 32 bits
abbrev pub is_schema : Parts → Schema → Bool
is_schema p s =
    let parameters = length s.parameters in
    nat_lt parameters (2 ^ 32) && are_below (length p.types) s.parameters && list_all (is_cond p parameters) s.pre
    && list_all (is_effect p parameters) s.effects

-- what each task keeps
pub record IsWellFormed (p : Parts) : Type 0 where
  pub few_types : length p.types < 2 ^ 32
  pub few_predicates : length p.predicates < 2 ^ 32
  pub few_objects : length p.objects < 2 ^ 32
  pub few_schemas : length p.schemas < 2 ^ 32
  pub type_names : IsTrue (are_names (type_names p.types))
  pub predicate_names : IsTrue (are_names (predicate_names p.predicates))
  pub object_names : IsTrue (are_names (object_names p.objects))
  pub schema_names : IsTrue (are_names (schema_names p.schemas))
  -- type 0 is `object`, its own parent
  pub has_object : slice_get (parents_of p.types) 0 ≡ Some 0
  pub parents : IsTrue (are_below (length p.types) (parents_of p.types))
  pub leads_to_object : (kind : ℕ) → kind < length p.types → IsTrue (is_under (parents_of p.types) kind 0)
  pub kinds : IsTrue (are_below (length p.types) (kinds_of p.objects))
  pub schemas : IsTrue (list_all (is_schema p) p.schemas)
  pub init : IsTrue (list_all (is_atom p) p.init)
  pub goal : IsTrue (list_all (is_cond p 0) p.goal)
