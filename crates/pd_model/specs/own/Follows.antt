-- What a step tells of the state that it changed.
use Rattle.std.specs.Prelude.{◌≡◌, Bool, true, false, List, Option, Some, None}
use Rattle.pd_model.specs.State.{SameState}
use Rattle.pd_model.specs.declared.atoms.Atom.{Atom}

-- the step tells whether there is a next state, and then the state is that one
abbrev pub Follows : Option (List Atom) → Bool → List Atom → Type 0
Follows None ran t = ran ≡ false
Follows (Some next) ran t = (ran ≡ true) × SameState t next
