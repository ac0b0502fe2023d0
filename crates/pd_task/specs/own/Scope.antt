-- What the reader's tables stand for. Only private clauses speak of it.
use Rattle.std.specs.Prelude.{ℕ, List, [], ◌∷◌, ◌++◌, Result, Ok, Err}
use Rattle.pd_sexp.specs.Tree as defs
use Rattle.pd_model.specs.declared.conds.Cond.{Cond}
use Rattle.pd_words.specs.declared.fault.Fault.{Fault}
use Rattle.pd_words.specs.declared.fault.Fault.TheVariants.{Shape}
use Rattle.pd_words.specs.Typed.{variable_list}
use Rattle.pd_words.specs.First.{◌>>=◌}
use Rattle.pd_task.specs.declared.vocabulary.Vocabulary.{Vocabulary}
use Rattle.pd_words.specs.Standing.{Standing}
use Rattle.pd_task.specs.Atoms.{Names}
use Rattle.pd_task.specs.Effects.{Site}

-- what names stand for, with these variables in scope
abbrev pub names_with : Vocabulary → List (List (List ℕ)) → Names
names_with vocabulary variables = record {
  predicates = vocabulary.predicates.now;
  arities = vocabulary.arities.now;
  objects = vocabulary.objects.now;
  variables = variables;
}

-- the place of an effect among `forall`s and under a `when` with this condition
abbrev pub site_of : Vocabulary → Standing → List Cond → Site
site_of vocabulary standing cond = record { names = names_with vocabulary standing.levels; over = standing.over; cond = cond }

-- with the variables of the typed list of a `forall`
abbrev pub entered : List (List ℕ) → Standing → defs.Tree → Result Standing Fault
entered types standing tree = variable_list types tree >>= λ new. Ok (record { levels = standing.levels ++ new.names ∷ []; over = standing.over ++ new.kinds })

-- the variables of a `forall`, the list at this place, come into scope; its effect and what follows that are left
abbrev pub opened : List (List ℕ) → Standing → ℕ → defs.Trees → Result (Standing × defs.Tree × defs.Trees) Fault
opened types standing at defs.no_trees = Err (Shape at)
opened types standing at (defs.and_tree variables defs.no_trees) = entered types standing variables >>= λ _. Err (Shape at)
opened types standing at (defs.and_tree variables (defs.and_tree body more)) = entered types standing variables >>= λ next. Ok (next, body, more)
