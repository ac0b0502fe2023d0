-- Tests in order, the first that fails being the answer.
use Rattle.std.specs.Prelude.{◌≡◌, List, [], ◌∷◌, ◌++◌, Option, Some, None, Result, Ok, Err, Bool, if◌then◌else◌}
use Rattle.pd_sexp.specs.Tree.{Tree, Trees, no_trees, and_tree}
use Rattle.pd_words.specs.declared.fault.Fault.{Fault}
use Rattle.pd_words.specs.declared.fault.ReadError.{ReadError}
use Rattle.pd_words.specs.declared.fault.ReadError.TheVariants as errors

-- ---- whatever the faults are

-- what the first test gives is handed to the next ones
infixl 10 ◌>>=◌
abbrev pub ◌>>=◌ : {A B F : Type 0} → Result A F → (A → Result B F) → Result B F
(Ok x) >>= f = f x
(Err e) >>= f = Err e

-- the value, or this fault where there is none
abbrev pub found : {A F : Type 0} → F → Option A → Result A F
found fault None = Err fault
found fault (Some x) = Ok x

-- this fault where the test fails
abbrev pub wants : {F : Type 0} → Bool → F → Result (Unit {0}) F
wants test fault = if test then Ok tt else Err fault

-- each item by itself, from the left
abbrev pub every : {A F : Type 0} → (Tree → Result A F) → Trees → Result (List A) F
every read no_trees = Ok []
every read (and_tree t ts) = do
  x ← read t
  xs ← every read ts
  Ok (x ∷ xs)

-- each item with what the items before it gave
abbrev pub each : {S F : Type 0} → (S → Tree → Result S F) → S → Trees → Result S F
each step before no_trees = Ok before
each step before (and_tree t ts) = do
  next ← step before t
  each step next ts

-- what was read before, and what is read next
abbrev pub after : {A F : Type 0} → List A → Result (List A) F → Result (List A) F
after front read = read >>= λ xs. Ok (front ++ xs)

-- A call failed with this fault, and reading gives it; without a fault, for want of memory.
abbrev pub FailsWith : {X F : Type 0} → Option F → Result X F → Type 0
FailsWith None read = Unit {0}
FailsWith (Some fault) read = read ≡ Err fault

-- A call left this in its place where it returned, and reading gives it; unless it failed with a fault or for want of memory.
abbrev pub LeavesOr : {S X F E : Type 0} → (E → Option F) → Result S F → (X → S) → Result X E → Type 0
LeavesOr fault_of read value (Ok x) = read ≡ Ok (value x)
LeavesOr fault_of read value (Err e) = FailsWith (fault_of e) read

-- ---- the faults of words

-- the fault of an error; want of memory is none
abbrev pub fault_of : ReadError → Option Fault
fault_of errors.Memory = None
fault_of (errors.Fault f) = Some f

-- A call failed with the fault that reading gives, or for want of memory.
abbrev pub Fails : {X : Type 0} → ReadError → Result X Fault → Type 0
Fails e read = FailsWith (fault_of e) read

-- A call returned what reading gives, unless memory ran out.
abbrev pub Gives : {X : Type 0} → Result X Fault → Result X ReadError → Type 0
Gives read result = LeavesOr fault_of read (λ x. x) result

-- The same, with the value seen through a view.
abbrev pub GivesAs : {X Y : Type 0} → (X → Y) → Result Y Fault → Result X ReadError → Type 0
GivesAs view read result = LeavesOr fault_of read view result

-- A call left what reading gives in its place, unless it failed.
abbrev pub Leaves : {S X : Type 0} → Result S Fault → S → Result X ReadError → Type 0
Leaves read new result = LeavesOr fault_of read (λ _. new) result
