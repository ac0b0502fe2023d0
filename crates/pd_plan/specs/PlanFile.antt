-- The calls that the bytes of a plan file spell.
use Rattle.std.specs.Prelude.{ℕ, ◌==◌, List, [], ◌∷◌, length, Result, Ok, Err, slice_get}
use Rattle.pd_model.specs.Names.{schema_names, object_names}
use Rattle.pd_model.specs.Fits.{fits}
use Rattle.pd_model.specs.declared.calls.Call.{Call}
use Rattle.pd_model.specs.declared.parts.Parts.{Parts}
use Rattle.pd_words.specs.Names.{number_of}
use Rattle.pd_words.specs.declared.named.Named.{Named}
use Rattle.pd_plan.specs.declared.lists.WordList.{WordList}
use Rattle.pd_plan.specs.Fault.{Fault, syntax, unknown, arity, mistyped}
use Rattle.pd_words.specs.First.{◌>>=◌, found, wants}
use Rattle.pd_plan.specs.WordLists.{word_lists}

-- the object that a word names, which has to fit a type
abbrev pub argument : Parts → ℕ → Named → Result ℕ Fault
argument p kind w = do
  o ← found (unknown w.at) (number_of w.name (object_names p.objects))
  _ ← wants (fits p kind o) (mistyped w.at)
  Ok o

-- one object for each type, from the left
abbrev pub arguments : Parts → List ℕ → List Named → Result (List ℕ) Fault
arguments p (kind ∷ kinds) (w ∷ ws) = do
  o ← argument p kind w
  os ← arguments p kinds ws
  Ok (o ∷ os)
arguments p _ _ = Ok []

-- the call of the action that the first word names: first the name, then how many objects there are, then
-- object by object
abbrev pub call_from : Parts → ℕ → List Named → Result Call Fault
call_from p at [] = Err (syntax at)
call_from p at (name ∷ objects) = do
  number ← found (unknown name.at) (number_of name.name (schema_names p.schemas))
  schema ← found (unknown name.at) (slice_get p.schemas number)
  _ ← wants (length objects == length schema.parameters) (arity at)
  numbers ← arguments p schema.parameters objects
  Ok (record { schema = number; objects = numbers })

-- the call that a list of words spells
abbrev pub call_of : Parts → WordList → Result Call Fault
call_of p l = call_from p l.at l.words

-- list by list
abbrev pub calls_of : Parts → List WordList → Result (List Call) Fault
calls_of p [] = Ok []
calls_of p (l ∷ ls) = do
  call ← call_of p l
  calls ← calls_of p ls
  Ok (call ∷ calls)

-- the calls, or the first fault: the syntax of the whole file comes first
abbrev pub plan_file : Parts → List ℕ → Result (List Call) Fault
plan_file p bytes = word_lists bytes >>= calls_of p
