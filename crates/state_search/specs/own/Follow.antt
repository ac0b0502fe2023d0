-- What comes of proposals.
use Rattle.std.specs.Prelude.{◌≡◌, ◌++◌, ◌∷◌, [], List, Bool, length}
use Rattle.gt_core.specs.Task.{Task}
use Rattle.state_store.specs.Store.{Stored}
use Rattle.state_search.specs.declared.walk.Proposed.{Proposed}
use Rattle.state_search.specs.declared.walk.Proposed.TheVariants.{Unable, Known, Entered, Full}

-- what a proposal does to the stored states: one state more at the end, or none; and where there is no room there are as many as may be
abbrev pub IsOffered : Task → Stored → Stored → List Bool → Proposed → Type 0
IsOffered task old new after Unable = new ≡ old
IsOffered task old new after Known = new ≡ old
IsOffered task old new after Entered = (new.states ≡ old.states ++ after ∷ []) × (new.most ≡ old.most) × (new.room ≡ old.room)
IsOffered task old new after Full = (new ≡ old) × (length old.states ≡ old.most)
