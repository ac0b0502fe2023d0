-- The task that a domain and a problem say, or the first cause for which they say none. The passes run in
-- this order: the domain's frame, types, constants, predicates and actions, then the problem's frame,
-- objects, initial state and goal.
use Rattle.std.specs.Prelude.{ℕ, List, [], Option, Some, None, Result, Ok, Err, codes}
use Rattle.pd_sexp.specs.Tree.{Tree, Trees, no_trees, and_tree}
use Rattle.pd_model.specs.declared.which.Which.{Which}
use Rattle.pd_model.specs.declared.which.Which.TheVariants.{Domain, Problem}
use Rattle.pd_model.specs.declared.types.TypeDecl.{TypeDecl}
use Rattle.pd_model.specs.declared.objects.ObjectDecl.{ObjectDecl}
use Rattle.pd_model.specs.declared.predicates.Predicate.{Predicate}
use Rattle.pd_model.specs.declared.conds.Cond.{Cond}
use Rattle.pd_model.specs.declared.schemas.Schema.{Schema}
use Rattle.pd_model.specs.declared.parts.Parts.{Parts}
use Rattle.pd_model.specs.Names.{type_names, predicate_names, arities_of, object_names}
use Rattle.pd_words.specs.declared.fault.Fault.{Fault}
use Rattle.pd_words.specs.declared.fault.Fault.TheVariants as faults
use Rattle.pd_words.specs.Types.{types}
use Rattle.pd_words.specs.First.{◌>>=◌, each}
use Rattle.pd_words.specs.Items.{no_more}
use Rattle.pd_task.specs.declared.error.PddlError.{PddlError}
use Rattle.pd_task.specs.declared.error.PddlError.TheVariants as errors
use Rattle.pd_task.specs.Atoms.{Names, condition}
use Rattle.pd_task.specs.Action.{and_action}
use Rattle.pd_words.specs.Frames.{domain_frame, problem_frame, section_with, find_section, items_under}
use Rattle.pd_task.specs.Declarations.{and_objects, and_predicate, and_init}

-- what a domain declares
pub record DomainParts : Type 0 where
  pub types : List TypeDecl
  pub constants : List ObjectDecl
  pub predicates : List Predicate
  pub schemas : List Schema

-- what names stand for outside actions
abbrev pub names_in : List Predicate → List ObjectDecl → Names
names_in predicates objects = record {
  predicates = predicate_names predicates;
  arities = arities_of predicates;
  objects = object_names objects;
  variables = [];
}

-- these actions, and the one of a section, if it is one
abbrev pub and_section : List (List ℕ) → Names → List Schema → Tree → Result (List Schema) Fault
and_section types names before section = elim (section_with (codes ":action") section) [
  | None ↦ Ok before
  | Some s ↦ and_action types names before s.0 s.1
]

-- the passes of a domain
abbrev pub domain_parts : Tree → Result DomainParts Fault
domain_parts tree = do
  sections ← domain_frame tree
  ts ← types (items_under (codes ":types") sections)
  constants ← and_objects (type_names ts) [] (items_under (codes ":constants") sections)
  predicates ← each (and_predicate (type_names ts)) [] (items_under (codes ":predicates") sections)
  schemas ← each (and_section (type_names ts) (names_in predicates constants)) [] sections
  Ok (record { types = ts; constants = constants; predicates = predicates; schemas = schemas })

-- the goal is one condition
abbrev pub goal_of : Names → Option (ℕ × Trees) → Result (List Cond) Fault
goal_of names None = Ok []
goal_of names (Some (at, no_trees)) = Err (faults.Shape at)
goal_of names (Some (at, and_tree goal more)) = do
  conds ← condition names [] goal
  _ ← no_more more
  Ok conds

-- the passes of a problem of this domain
abbrev pub problem_parts : DomainParts → Tree → Result Parts Fault
problem_parts d tree = do
  sections ← problem_frame tree
  objects ← and_objects (type_names d.types) d.constants (items_under (codes ":objects") sections)
  init ← each (and_init (names_in d.predicates objects)) [] (items_under (codes ":init") sections)
  goal ← goal_of (names_in d.predicates objects) (find_section (codes ":goal") sections)
  Ok (record { types = d.types; predicates = d.predicates; objects = objects; schemas = d.schemas; init = init; goal = goal })

-- a fault of a file
abbrev pub told : Which → Fault → PddlError
told file (faults.Shape at) = errors.Shape file at
told file (faults.Unknown at) = errors.Unknown file at
told file (faults.Arity at) = errors.Arity file at
told file (faults.Duplicate at) = errors.Duplicate file at
told file (faults.Unsupported at) = errors.Unsupported file at

-- what a file gives, or its fault
abbrev pub in_file : {A B : Type 0} → Which → Result A Fault → (A → Result B PddlError) → Result B PddlError
in_file file (Ok x) next = next x
in_file file (Err fault) next = Err (told file fault)

-- the parts of the task that a domain and a problem say, or the first cause with its file and place
abbrev pub reading : Tree → Tree → Result Parts PddlError
reading domain problem = in_file Domain (domain_parts domain) (λ d. in_file Problem (problem_parts d problem) (λ p. Ok p))
