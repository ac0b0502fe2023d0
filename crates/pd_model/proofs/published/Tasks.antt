-- Short words for the parts of small tasks.
use Rattle.std.proofs.Common.{ℕ, List, [], true, false}
use Rattle.pd_model.specs.declared.types.TypeDecl.{TypeDecl}
use Rattle.pd_model.specs.declared.predicates.Predicate.{Predicate}
use Rattle.pd_model.specs.declared.objects.ObjectDecl.{ObjectDecl}
use Rattle.pd_model.specs.declared.atoms.Term.{Term}
use Rattle.pd_model.specs.declared.atoms.Pattern.{Pattern}
use Rattle.pd_model.specs.declared.conds.Cond.{Cond}
use Rattle.pd_model.specs.declared.conds.Cond.TheVariants.{Has}
use Rattle.pd_model.specs.declared.effects.Effect.{Effect}
use Rattle.pd_model.specs.declared.schemas.Schema.{Schema}
use Rattle.pd_model.specs.declared.calls.Call.{Call}

abbrev pub pattern_of : ℕ → List Term → Pattern
pattern_of predicate terms = record { predicate = predicate; terms = terms }

abbrev pub has : ℕ → List Term → Cond
has predicate terms = Has (pattern_of predicate terms) true

abbrev pub lacks : ℕ → List Term → Cond
lacks predicate terms = Has (pattern_of predicate terms) false

abbrev pub add : List ℕ → List Cond → ℕ → List Term → Effect
add over cond predicate terms = record { over = over; cond = cond; atom = pattern_of predicate terms; adds = true }

abbrev pub delete : List ℕ → List Cond → ℕ → List Term → Effect
delete over cond predicate terms = record { over = over; cond = cond; atom = pattern_of predicate terms; adds = false }

abbrev pub schema : List ℕ → List Cond → List Effect → Schema
schema parameters pre effects = record { name = []; parameters = parameters; pre = pre; effects = effects }

abbrev pub call : ℕ → List ℕ → Call
call number objects = record { schema = number; objects = objects }

abbrev pub arity : ℕ → Predicate
arity n = record { name = []; arity = n }

abbrev pub type_under : ℕ → TypeDecl
type_under parent = record { name = []; parent = parent }

abbrev pub object_of_type : ℕ → ObjectDecl
object_of_type kind = record { name = []; kind = kind }
